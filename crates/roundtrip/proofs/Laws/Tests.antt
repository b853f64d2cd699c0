-- A refusal told from an answer, and counts of a test that no number passes or one more does.
use Rattle.std.specs.Prelude.{◌≡◌, refl, Bool, true, false, ◌≢◌, ℕ, zero, suc, ◌+◌, ◌<◌}
use Rattle.std.proofs.Common.{ap, ◌∙◌, arith}
use Rattle.data.specs.Basics.{one, tally}
use Rattle.data.proofs.Laws.Tests.{wire_cases, tally_ext}
use Rattle.data.specs.declared.Refusal.{Refusal}
use Rattle.std.specs.Prelude.{Ok, Err}

-- what is refused is not done
pub not_done : {A X : Type 0} {x : A} {f : Refusal} → Err f ≡ Ok x → X
not_done e = let z : ◌≡◌ {A = ℕ} 0 1 = cc in let w : ⊥ = omega arith in absurd w

pub tally_none : (m : ℕ) (f : ℕ → Bool) → ((u : ℕ) → u < m → f u ≡ false) → tally m f ≡ 0
unfolding tally
tally_none zero f h = refl
tally_none (suc m) f h = rw (h m (omega arith), tally_none m f (λ u l. h u (omega arith))) refl

pub none_tally : (m : ℕ) (f : ℕ → Bool) → tally m f ≡ 0 → (u : ℕ) → u < m → f u ≡ false
unfolding tally
none_tally zero f h u l = let w : ⊥ = omega arith in absurd w
none_tally (suc m) f h u l =
    wire_cases u m (λ e. ap f e ∙ off (f m) (tally m f) h) (λ n. none_tally m f (let y : tally m f ≡ 0 = omega arith in y) u (let y : u < m = omega arith in y))
  where
    off : (b : Bool) (n : ℕ) → one b + n ≡ 0 → b ≡ false
    off true n h = let w : ⊥ = omega arith in absurd w
    off false n h = refl

-- where one number more passes, the count is one more
pub tally_one : (m w : ℕ) (f g : ℕ → Bool) → w < m → f w ≡ false → g w ≡ true → ((u : ℕ) → u ≢ w → f u ≡ g u) → tally m g ≡ tally m f + 1
unfolding tally
tally_one zero w f g l a b h = let z : ⊥ = omega arith in absurd z
tally_one (suc m) w f g l a b h = wire_cases m w
    (λ e. let s = tally_ext m f g (λ u k. h u (λ d. let z : ⊥ = omega arith in z)) in
    let p = ap (λ (v : ℕ). one (f v)) e ∙ ap one a in
    let q = ap (λ (v : ℕ). one (g v)) e ∙ ap one b in
    omega arith)
    (λ n. let r = tally_one m w f g (let y : w < m = omega arith in y) a b h in
    let p = ap one (h m n) in
    omega arith)
