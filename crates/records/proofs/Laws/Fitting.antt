-- What a caller may take from a passed test of refusal 11.
use Rattle.std.specs.Prelude.{◌≡◌, refl, Bool, true, ◌&&◌, List, [], ℕ, ◌*◌, ◌/◌, ◌%◌, ◌≤◌, ◌<◌, eqb, ltb, leb, length}
use Rattle.std.proofs.Common.{sym, ◌∙◌, div-le_self, arith, leb-true, ltb-true, ltb-false, eqb-true, length-take-le}
use Rattle.std.proofs.Math.Nat.{mod-le}
use Rattle.data.specs.Basics.{all}
use Rattle.document.specs.Routine.{in_range, fits, routine_of, well_formed, records_fit}
use Rattle.data.proofs.Laws.Tests.{bool_cases, and_l, and_r, all_at}
use Rattle.data.specs.declared.Kind.{Kind}
use Rattle.data.specs.declared.Kind.TheVariants.{Share, Rand, Pub, Xor, And, Not}
use Rattle.data.specs.declared.Wire.{Wire}
use Rattle.data.specs.declared.Shape.{Shape}
use Rattle.counts.specs.Counting.{record_at, counts_of}
use Rattle.records.specs.Records.{Fit, fits_at}
use Rattle.records.proofs.Laws.Parts.{in_range_lem, fit_is}

pub long_of : (σ : Shape) (ws : List Wire) → records_fit σ ws ≡ true → σ.n ≤ length ws
unfolding records_fit
long_of σ ws e = leb-true σ.n (length ws) (and_l (leb σ.n (length ws)) (well_formed (routine_of σ ws)) e)

pub fit_of : (σ : Shape) (ws : List Wire) → records_fit σ ws ≡ true → Fit σ ws
fit_of σ ws e =
    let long = long_of σ ws e in
    let rs = leb (counts_of σ.n ws).rands 64 in
    let ps = leb (counts_of σ.n ws).pubs 16 in
    let os = leb (counts_of σ.n ws).outs 64 in
    let every = all σ.n (λ w. fits_at σ.s σ.d w (record_at ws w)) in
    let whole : (in_range σ.s σ.d && leb (σ.s * σ.d) σ.n && (leb σ.n 128 && rs && ps && os) && every) ≡ true = sym (fit_is σ ws long) ∙ e in
    let first = and_l (in_range σ.s σ.d && leb (σ.s * σ.d) σ.n && (leb σ.n 128 && rs && ps && os)) every whole in
    let front = and_l (in_range σ.s σ.d && leb (σ.s * σ.d) σ.n) (leb σ.n 128 && rs && ps && os) first in
    let ceils = and_r (in_range σ.s σ.d && leb (σ.s * σ.d) σ.n) (leb σ.n 128 && rs && ps && os) first in
    let three = and_l (leb σ.n 128 && rs && ps) os ceils in
    record {
      range = in_range_lem σ.s σ.d (and_l (in_range σ.s σ.d) (leb (σ.s * σ.d) σ.n) front);
      long = long;
      few = leb-true σ.n 128 (and_l (leb σ.n 128) rs (and_l (leb σ.n 128 && rs) ps three));
      sized = length-take-le σ.n ws long;
      shares_in = leb-true (σ.s * σ.d) σ.n (and_r (in_range σ.s σ.d) (leb (σ.s * σ.d) σ.n) front);
      rands_few = leb-true (counts_of σ.n ws).rands 64 (and_r (leb σ.n 128) rs (and_l (leb σ.n 128 && rs) ps three));
      pubs_few = leb-true (counts_of σ.n ws).pubs 16 (and_r (leb σ.n 128 && rs) ps three);
      outs_few = leb-true (counts_of σ.n ws).outs 64 (and_r (leb σ.n 128 && rs && ps) os ceils);
      fitting = all_at σ.n (λ w. fits_at σ.s σ.d w (record_at ws w))
          (and_r (in_range σ.s σ.d && leb (σ.s * σ.d) σ.n && (leb σ.n 128 && rs && ps && os)) every whole);
    }

-- ---- what a record is, by its kind

test_1 : (p q r : Bool) → (p && q && r) ≡ true → p ≡ true
test_1 p q r e = and_l p q (and_l (p && q) r e)

test_2 : (p q r : Bool) → (p && q && r) ≡ true → q ≡ true
test_2 p q r e = and_r p q (and_l (p && q) r e)

test_3 : (p q r : Bool) → (p && q && r) ≡ true → r ≡ true
test_3 p q r e = and_r (p && q) r e

-- a share is its place's
share_only : (s d w a b : ℕ) (k : Kind) → fits (routine_of (record { s = s; d = d; n = 0 }) []) w k a b ≡ true → w < s * d → k ≡ Share
unfolding fits
share_only s d w a b Share e h = refl
share_only s d w a b Rand e h = let z = leb-true (s * d) w (test_1 (leb (s * d) w) (eqb a 0) (eqb b 0) e) in let x : ⊥ = omega arith in absurd x
share_only s d w a b Pub e h = let z = leb-true (s * d) w (test_1 (leb (s * d) w) (eqb a 0) (eqb b 0) e) in let x : ⊥ = omega arith in absurd x
share_only s d w a b Xor e h = let z = leb-true (s * d) w (test_1 (leb (s * d) w) (ltb a w) (ltb b w) e) in let x : ⊥ = omega arith in absurd x
share_only s d w a b And e h = let z = leb-true (s * d) w (test_1 (leb (s * d) w) (ltb a w) (ltb b w) e) in let x : ⊥ = omega arith in absurd x
share_only s d w a b Not e h = let z = leb-true (s * d) w (test_1 (leb (s * d) w) (ltb a w) (eqb b 0) e) in let x : ⊥ = omega arith in absurd x

share_below : (s d w a b : ℕ) (k : Kind) → fits (routine_of (record { s = s; d = d; n = 0 }) []) w k a b ≡ true → k ≡ Share → w < s * d
unfolding fits
share_below s d w a b Share e h = ltb-true w (s * d) (test_1 (ltb w (s * d)) (eqb a (w / d)) (eqb b (w % d)) e)
share_below s d w a b Rand e h = let z : ◌≡◌ {A = ℕ} 0 1 = cc in let x : ⊥ = omega arith in absurd x
share_below s d w a b Pub e h = let z : ◌≡◌ {A = ℕ} 0 1 = cc in let x : ⊥ = omega arith in absurd x
share_below s d w a b Xor e h = let z : ◌≡◌ {A = ℕ} 0 1 = cc in let x : ⊥ = omega arith in absurd x
share_below s d w a b And e h = let z : ◌≡◌ {A = ℕ} 0 1 = cc in let x : ⊥ = omega arith in absurd x
share_below s d w a b Not e h = let z : ◌≡◌ {A = ℕ} 0 1 = cc in let x : ⊥ = omega arith in absurd x

-- the operands of a wire that is no share are earlier wires, or 0
a_below : (s d w a b : ℕ) (k : Kind) → fits (routine_of (record { s = s; d = d; n = 0 }) []) w k a b ≡ true → 0 < s * d → s * d ≤ w → a < w
unfolding fits
a_below s d w a b Share e p h = let z = ltb-true w (s * d) (test_1 (ltb w (s * d)) (eqb a (w / d)) (eqb b (w % d)) e) in let y : ⊥ = omega arith in absurd y
a_below s d w a b Rand e p h = let z = eqb-true a 0 (test_2 (leb (s * d) w) (eqb a 0) (eqb b 0) e) in omega arith
a_below s d w a b Pub e p h = let z = eqb-true a 0 (test_2 (leb (s * d) w) (eqb a 0) (eqb b 0) e) in omega arith
a_below s d w a b Xor e p h = let z = ltb-true a w (test_2 (leb (s * d) w) (ltb a w) (ltb b w) e) in omega arith
a_below s d w a b And e p h = let z = ltb-true a w (test_2 (leb (s * d) w) (ltb a w) (ltb b w) e) in omega arith
a_below s d w a b Not e p h = let z = ltb-true a w (test_2 (leb (s * d) w) (ltb a w) (eqb b 0) e) in omega arith

b_below : (s d w a b : ℕ) (k : Kind) → fits (routine_of (record { s = s; d = d; n = 0 }) []) w k a b ≡ true → 0 < s * d → s * d ≤ w → b < w
unfolding fits
b_below s d w a b Share e p h = let z = ltb-true w (s * d) (test_1 (ltb w (s * d)) (eqb a (w / d)) (eqb b (w % d)) e) in let y : ⊥ = omega arith in absurd y
b_below s d w a b Rand e p h = let z = eqb-true b 0 (test_3 (leb (s * d) w) (eqb a 0) (eqb b 0) e) in omega arith
b_below s d w a b Pub e p h = let z = eqb-true b 0 (test_3 (leb (s * d) w) (eqb a 0) (eqb b 0) e) in omega arith
b_below s d w a b Xor e p h = let z = ltb-true b w (test_3 (leb (s * d) w) (ltb a w) (ltb b w) e) in omega arith
b_below s d w a b And e p h = let z = ltb-true b w (test_3 (leb (s * d) w) (ltb a w) (ltb b w) e) in omega arith
b_below s d w a b Not e p h = let z = eqb-true b 0 (test_3 (leb (s * d) w) (ltb a w) (eqb b 0) e) in omega arith

-- the numbers of a share
share_a : (s d w a b : ℕ) → fits (routine_of (record { s = s; d = d; n = 0 }) []) w Share a b ≡ true → a ≡ w / d
unfolding fits
share_a s d w a b e = eqb-true a (w / d) (test_2 (ltb w (s * d)) (eqb a (w / d)) (eqb b (w % d)) e)

share_b : (s d w a b : ℕ) → fits (routine_of (record { s = s; d = d; n = 0 }) []) w Share a b ≡ true → b ≡ w % d
unfolding fits
share_b s d w a b e = eqb-true b (w % d) (test_3 (ltb w (s * d)) (eqb a (w / d)) (eqb b (w % d)) e)

-- ---- what a routine's records are

module _ {σ : Shape} {ws : List Wire} (fit : Fit σ ws) (w : ℕ) (in-n : w < σ.n) where
  told : fits (routine_of (record { s = σ.s; d = σ.d; n = 0 }) []) w (record_at ws w).kind (record_at ws w).a (record_at ws w).b ≡ true
  unfolding fits_at
  told = fit.fitting w in-n

  -- 1.14, 1.32: the wires below S-as-D are the input shares, and no later wire is one
  pub share_kind : w < σ.s * σ.d → (record_at ws w).kind ≡ Share
  share_kind = share_only σ.s σ.d w (record_at ws w).a (record_at ws w).b (record_at ws w).kind told

  pub kind_share : (record_at ws w).kind ≡ Share → w < σ.s * σ.d
  kind_share = share_below σ.s σ.d w (record_at ws w).a (record_at ws w).b (record_at ws w).kind told

  -- 1.15, 1.25: a is the number of the share's secret, b the share's own
  pub share_secret : w < σ.s * σ.d → (record_at ws w).a ≡ w / σ.d
  share_secret h = share_a σ.s σ.d w (record_at ws w).a (record_at ws w).b (rw (share_kind h) at told)

  pub share_number : w < σ.s * σ.d → (record_at ws w).b ≡ w % σ.d
  share_number h = share_b σ.s σ.d w (record_at ws w).a (record_at ws w).b (rw (share_kind h) at told)

  -- 1.33: from S-as-D on both numbers are below w, since one that is not used is 0
  pub a_earlier : σ.s * σ.d ≤ w → (record_at ws w).a < w
  a_earlier h = a_below σ.s σ.d w (record_at ws w).a (record_at ws w).b (record_at ws w).kind told (let z = fit.range.shares_some in omega arith) h

  pub b_earlier : σ.s * σ.d ≤ w → (record_at ws w).b < w
  b_earlier h = b_below σ.s σ.d w (record_at ws w).a (record_at ws w).b (record_at ws w).kind told (let z = fit.range.shares_some in omega arith) h

  -- a number of a share is no later wire's either
  pub a_within : (record_at ws w).a ≤ w
  a_within =
      bool_cases
      (ltb w (σ.s * σ.d))
      (λ t. rw (share_secret (ltb-true w (σ.s * σ.d) t)) (div-le_self w σ.d))
      (λ f. let z = a_earlier (ltb-false w (σ.s * σ.d) f) in omega arith)

  pub b_within : (record_at ws w).b ≤ w
  b_within =
      bool_cases
      (ltb w (σ.s * σ.d))
      (λ t. rw (share_number (ltb-true w (σ.s * σ.d) t)) (mod-le w σ.d))
      (λ f. let z = b_earlier (ltb-false w (σ.s * σ.d) f) in omega arith)
