-- Laws of the test of refusal 11 over the records as they lie in the list: the whole test, and its parts.
use Rattle.std.specs.Prelude.{◌≡◌, refl, Bool, true, false, ◌&&◌, List, [], ℕ, zero, suc, ◌+◌, ◌*◌, ◌≤◌, ◌<◌, leb, length, take}
use Rattle.std.proofs.Common.{ap, ap₂, ◌∙◌, mul-le-mul, add-one, arith, length-take-le, get_or-take}
use borrow.Author.Tests.{leb-true, le-leb, lt-leb}
use Rattle.data.specs.Basics.{all}
use Rattle.document.specs.Routine.{blank, outputs, in_range, fits, record_fits_lem, ceilings, well_formed, routine_of, records_fit}
use Rattle.data.proofs.Laws.Tests.{clash, out_of, and_l, and_r, all_at}
use Rattle.data.specs.declared.Kind.{Kind}
use Rattle.data.specs.declared.Kind.TheVariants.{Share, Rand, Pub, Xor, And, Not}
use Rattle.data.specs.declared.Wire.{Wire}
use Rattle.data.specs.declared.Shape.{Shape}
use Rattle.counts.specs.Counting.{record_at, counts_of, ceilings_met}
use Rattle.counts.proofs.Laws.Counts.{wire_is, rands_is, pubs_is, outs_is}
use Rattle.records.specs.Records.{Ranged, fits_at}

-- the test of a record looks at no other record
fits_any : (σ : Shape) (ws : List Wire) (w : ℕ) (k : Kind) (a b : ℕ)
    → fits (routine_of σ ws) w k a b ≡ fits (routine_of (record { s = σ.s; d = σ.d; n = 0 }) []) w k a b
unfolding fits
fits_any σ ws w Share a b = refl
fits_any σ ws w Rand a b = refl
fits_any σ ws w Pub a b = refl
fits_any σ ws w Xor a b = refl
fits_any σ ws w And a b = refl
fits_any σ ws w Not a b = refl

record_is : (σ : Shape) (ws : List Wire) (w : ℕ) → w < σ.n → record_fits_lem (routine_of σ ws) w ≡ fits_at σ.s σ.d w (record_at ws w)
unfolding record_fits_lem fits_at
record_is σ ws w h = ap (λ (x : Wire). fits (routine_of σ ws) w x.kind x.a x.b) (wire_is σ ws w h) ∙ fits_any σ ws w _ _ _

all_ext : (m : ℕ) (f g : ℕ → Bool) → ((u : ℕ) → u < m → f u ≡ g u) → all m f ≡ all m g
unfolding all
all_ext zero f g h = refl
all_ext (suc m) f g h = ap₂ ◌&&◌ (all_ext m f g (λ u l. h u (omega arith))) (h m (omega arith))

pub all_more : (m : ℕ) (f : ℕ → Bool) → all (m + 1) f ≡ (all m f && f m)
unfolding all
all_more m f = simp add-one

pub all_none : (f : ℕ → Bool) → all 0 f ≡ true
unfolding all
all_none f = refl

pub all_fails : (m : ℕ) (f : ℕ → Bool) (w : ℕ) → w < m → f w ≡ false → all m f ≡ false
all_fails m f w h e = out_of (λ t. clash (all_at m f t w h) e)

-- ---- the whole test

pub in_range_lem : (s d : ℕ) → in_range s d ≡ true → Ranged s d
unfolding in_range
in_range_lem s d e =
    let a = leb-true 1 s (and_l (leb 1 s) (leb s 8) (and_l (leb 1 s && leb s 8) (leb 2 d) (and_l (leb 1 s && leb s 8 && leb 2 d) (leb d 8) e))) in
    let b = leb-true s 8 (and_r (leb 1 s) (leb s 8) (and_l (leb 1 s && leb s 8) (leb 2 d) (and_l (leb 1 s && leb s 8 && leb 2 d) (leb d 8) e))) in
    let f = leb-true 2 d (and_r (leb 1 s && leb s 8) (leb 2 d) (and_l (leb 1 s && leb s 8 && leb 2 d) (leb d 8) e)) in
    let g = leb-true d 8 (and_r (leb 1 s && leb s 8 && leb 2 d) (leb d 8) e) in
    record { s_low = a; s_high = b; d_low = f; d_high = g; shares_few = mul-le-mul b g; shares_some = mul-le-mul a f }

-- 7.11: the test where the list is long enough
pub fit_is : (σ : Shape) (ws : List Wire) → σ.n ≤ length ws → records_fit σ ws
    ≡ (in_range σ.s σ.d && leb (σ.s * σ.d) σ.n
    && (leb σ.n 128 && leb (counts_of σ.n ws).rands 64 && leb (counts_of σ.n ws).pubs 16 && leb (counts_of σ.n ws).outs 64)
    && all σ.n (λ w. fits_at σ.s σ.d w (record_at ws w)))
unfolding records_fit well_formed ceilings outputs
fit_is σ ws long =
    rw (
      le-leb σ.n (length ws) long,
      length-take-le σ.n ws long,
      rands_is σ ws σ.n (omega arith),
      pubs_is σ ws σ.n (omega arith),
      outs_is σ ws,
      all_ext σ.n (record_fits_lem (routine_of σ ws)) (λ w. fits_at σ.s σ.d w (record_at ws w)) (record_is σ ws),
    )

pub too_long : (σ : Shape) (ws : List Wire) → length ws < σ.n → records_fit σ ws ≡ false
unfolding records_fit
too_long σ ws h = simp (lt-leb σ.n (length ws) h)

-- what is asked of each of the first n records
pub all_first : (n s d : ℕ) (ws : List Wire) → n ≤ length ws
    → all (length (take n ws)) (λ w. fits_at s d w (record_at (take n ws) w)) ≡ all n (λ w. fits_at s d w (record_at ws w))
all_first n s d ws h =
    let z = length-take-le n ws h in
    rw (
      z,
      all_ext n (λ w. fits_at s d w (record_at (take n ws) w)) (λ w. fits_at s d w (record_at ws w))
          (λ u l. ap (fits_at s d u) (get_or-take n ws u blank l)),
    )

-- 7.11: the test, part by part in the order of the code
module _ (σ : Shape) (ws : List Wire) (long : σ.n ≤ length ws) (few : σ.n ≤ 128) where
  pub range_fails : in_range σ.s σ.d ≡ false → records_fit σ ws ≡ false
  range_fails e = fit_is σ ws long ∙ simp e

  pub shares_fail : in_range σ.s σ.d ≡ true → σ.n < σ.s * σ.d → records_fit σ ws ≡ false
  shares_fail e h = fit_is σ ws long ∙ simp (e, lt-leb (σ.s * σ.d) σ.n h)

  pub ceilings_fail : in_range σ.s σ.d ≡ true → σ.s * σ.d ≤ σ.n → ceilings_met (counts_of σ.n ws) ≡ false → records_fit σ ws ≡ false
  unfolding ceilings_met
  ceilings_fail e h f = fit_is σ ws long ∙ simp (e, le-leb (σ.s * σ.d) σ.n h, le-leb σ.n 128 few, f)

  pub rest_fits : in_range σ.s σ.d ≡ true → σ.s * σ.d ≤ σ.n → ceilings_met (counts_of σ.n ws) ≡ true
      → records_fit σ ws ≡ all σ.n (λ w. fits_at σ.s σ.d w (record_at ws w))
  unfolding ceilings_met
  rest_fits e h t = fit_is σ ws long ∙ simp (e, le-leb (σ.s * σ.d) σ.n h, le-leb σ.n 128 few, t)
