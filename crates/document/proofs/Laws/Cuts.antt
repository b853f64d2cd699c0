-- Cutting a list of bytes at a separator: there is a first part, a separator parts what stands on its sides, and parts that were joined come back.
use Rattle.std.specs.Prelude.{◌≡◌, refl, Bool, true, false, not, ◌&&◌, cond, List, [], ◌∷◌, ◌++◌, ℕ, eqb}
use Rattle.std.proofs.Common.{ap, ◌∙◌, arith}
use Rattle.document.specs.Lines.{cut, front, join}
use Rattle.data.proofs.Laws.Tests.{both, and_i, not_t, cond_true, true_eqb}

pub first_part : List (List ℕ) → List ℕ
first_part [] = []
first_part (p ∷ ps) = p

unfoldable pub later_parts : List (List ℕ) → List (List ℕ)
later_parts [] = []
later_parts (p ∷ ps) = ps

pub cut_some : (s : ℕ) (xs : List ℕ) → cut s xs ≡ first_part (cut s xs) ∷ later_parts (cut s xs)
unfolding cut front first_part later_parts
cut_some s [] = refl
cut_some s (x ∷ xs) = go (eqb x s) (cut s xs) (cut_some s xs) where
  go : (b : Bool) (ps : List (List ℕ)) → ps ≡ first_part ps ∷ later_parts ps
      → cond b ([] ∷ ps) (front x ps) ≡ first_part (cond b ([] ∷ ps) (front x ps)) ∷ later_parts (cond b ([] ∷ ps) (front x ps))
  go b [] e = let z : ◌≡◌ {A = ℕ} 0 1 = cc in absurd (let w : ⊥ = omega arith in w)
  go true (p ∷ ps) e = refl
  go false (p ∷ ps) e = refl

-- ---- what stands before a separator, and behind it

front_append : (x : ℕ) (ps qs : List (List ℕ)) → ps ≡ first_part ps ∷ later_parts ps → front x (ps ++ qs) ≡ front x ps ++ qs
unfolding front first_part later_parts
front_append x [] qs e = let z : ◌≡◌ {A = ℕ} 0 1 = cc in absurd (let w : ⊥ = omega arith in w)
front_append x (p ∷ ps) qs e = refl

-- the parts on both sides of a separator
pub cut_append : (s : ℕ) (xs ys : List ℕ) → cut s (xs ++ s ∷ ys) ≡ cut s xs ++ cut s ys
unfolding cut
cut_append s [] ys = cond_true _ _ (true_eqb s s refl)
cut_append s (x ∷ xs) ys = go (eqb x s) (cut_append s xs ys) where
  go : (b : Bool) → cut s (xs ++ s ∷ ys) ≡ cut s xs ++ cut s ys
      → cond b ([] ∷ cut s (xs ++ s ∷ ys)) (front x (cut s (xs ++ s ∷ ys))) ≡ cond b ([] ∷ cut s xs) (front x (cut s xs)) ++ cut s ys
  go true e = ap {B = List (List ℕ)} (λ l. [] ∷ l) e
  go false e = ap (front x) e ∙ front_append x (cut s xs) (cut s ys) (cut_some s xs)

-- ---- parts with no separator in them

-- no s in xs
unfoldable pub free : ℕ → List ℕ → Bool
free s [] = true
free s (x ∷ xs) = not (eqb x s) && free s xs

-- no s in any part
unfoldable pub frees : ℕ → List (List ℕ) → Bool
frees s [] = true
frees s (p ∷ ps) = free s p && frees s ps

pub free_append : (s : ℕ) (xs ys : List ℕ) → free s xs ≡ true → free s ys ≡ true → free s (xs ++ ys) ≡ true
unfolding free
free_append s [] ys h k = k
free_append s (x ∷ xs) ys h k = let t = both (not (eqb x s)) (free s xs) h in and_i _ _ t.0 (free_append s xs ys t.1 k)

-- what has no separator is one part
cut_only : (s : ℕ) (p : List ℕ) → free s p ≡ true → cut s p ≡ p ∷ []
unfolding free cut front
cut_only s [] h = refl
cut_only s (x ∷ p) h = let t = both (not (eqb x s)) (free s p) h in simp (not_t (eqb x s) t.0, cut_only s p t.1)

-- a separator ends the first part
pub cut_first : (s : ℕ) (p ys : List ℕ) → free s p ≡ true → cut s (p ++ s ∷ ys) ≡ p ∷ cut s ys
cut_first s p ys h = cut_append s p ys ∙ ap (λ (l : List (List ℕ)). l ++ cut s ys) (cut_only s p h)

-- parts that were joined come back
pub cut_join : (s : ℕ) (p : List ℕ) (ps : List (List ℕ)) → frees s (p ∷ ps) ≡ true → cut s (join s (p ∷ ps)) ≡ p ∷ ps
unfolding frees join
cut_join s p [] h = cut_only s p (both (free s p) true h).0
cut_join s p (q ∷ ps) h =
    let t = both (free s p) (frees s (q ∷ ps)) h in
    cut_first s p (join s (q ∷ ps)) t.0 ∙ ap (λ (l : List (List ℕ)). p ∷ l) (cut_join s q ps t.1)

-- joined by another byte, they still have no separator in them
pub join_free : (s u : ℕ) (ps : List (List ℕ)) → eqb u s ≡ false → frees s ps ≡ true → free s (join u ps) ≡ true
unfolding frees join free
join_free s u [] e h = refl
join_free s u (p ∷ []) e h = (both (free s p) true h).0
join_free s u (p ∷ q ∷ ps) e h =
    let t = both (free s p) (frees s (q ∷ ps)) h in
    free_append s p (u ∷ join u (q ∷ ps)) t.0 (and_i _ _ (ap not e) (join_free s u (q ∷ ps) e t.1))
