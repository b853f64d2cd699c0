-- The test of well-formedness taken apart, and its lines: each is a line with numbers below 128, and the text is short.
use Rattle.std.specs.Prelude.{◌≡◌, refl, Bool, ◌&&◌, cond, List, [], ◌∷◌, ◌++◌, leb, eqb, ltb, length}
use Rattle.std.proofs.Common.{ap, ◌∙◌, suc-mul, mul-le-mul_right, length-append, leb-true, eqb-true, ltb-true, lt-ltb, le-leb, eq-eqb}
use Rattle.std.proofs.Math.Bool.{true, false}
use Prim.Native.Nat.{ℕ, zero, suc, ◌+◌, ◌-◌, ◌*◌, ◌/◌, ◌%◌, ◌≤◌, ◌<◌}
use native.Mathlib.Omega.{arith}
use Rattle.data.specs.declared.Kind.{Kind}
use Rattle.data.specs.declared.Kind.TheVariants as K
use Rattle.data.specs.declared.Line.{Line}
use Rattle.std.specs.Prelude.{Option, Some}
use Rattle.data.specs.declared.Line.TheVariants as L
use Rattle.data.specs.Basics.{each, all}
use Rattle.document.specs.Routine.{Routine, size, wire, rands_before, pubs_before, outputs, in_range, fits, record_fits_lem, ceilings, well_formed, operands_of}
use Rattle.document.specs.Lines.{line_text, text_of_lines, lf}
use Rattle.data.specs.declared.State.{State}
use Rattle.document.specs.Reading.{earlier, make, take_line}
use Rattle.document.specs.Writing.{line_of_kind, wire_line, wire_lines, out_lines, lines_of, text_of}
use Rattle.data.proofs.Laws.Tests.{both, and_i, all_at, all_of}
use Rattle.roundtrip.specs.Made.{Made}
use Rattle.roundtrip.specs.Texts.{Below, Writable, Each}
use Rattle.roundtrip.proofs.Laws.Forms.{below_more}
use Rattle.roundtrip.proofs.Laws.LineTexts.{each_lines, text_append, line_short, out_short}

-- ---- the parts of the test

pub record Formed (R : Routine) : Type 0 where
  pub ranged : in_range R.S R.D ≡ true
  pub shares : R.S * R.D ≤ size R
  pub wide : size R ≤ 128
  pub few_rands : rands_before R (size R) ≤ 64
  pub few_pubs : pubs_before R (size R) ≤ 16
  pub few_outs : outputs R ≤ 64
  pub each_fits : (w : ℕ) → w < size R → record_fits_lem R w ≡ true

pub formed : (R : Routine) → well_formed R ≡ true → Formed R
unfolding well_formed ceilings
formed R h =
    let a = both (in_range R.S R.D && leb (R.S * R.D) (size R) && ceilings R) (all (size R) (record_fits_lem R)) h in
    let b = both (in_range R.S R.D && leb (R.S * R.D) (size R)) (ceilings R) a.0 in
    let c = both (in_range R.S R.D) (leb (R.S * R.D) (size R)) b.0 in
    let d = both (leb (size R) 128 && leb (rands_before R (size R)) 64 && leb (pubs_before R (size R)) 16) (leb (outputs R) 64) b.1 in
    let e = both (leb (size R) 128 && leb (rands_before R (size R)) 64) (leb (pubs_before R (size R)) 16) d.0 in
    let f = both (leb (size R) 128) (leb (rands_before R (size R)) 64) e.0 in
    record {
      ranged = c.0;
      shares = leb-true (R.S * R.D) (size R) c.1;
      wide = leb-true (size R) 128 f.0;
      few_rands = leb-true (rands_before R (size R)) 64 f.1;
      few_pubs = leb-true (pubs_before R (size R)) 16 e.1;
      few_outs = leb-true (outputs R) 64 d.1;
      each_fits = all_at (size R) (record_fits_lem R) a.1;
    }

pub well : (R : Routine) → Formed R → well_formed R ≡ true
unfolding well_formed ceilings
well R f =
    and_i _ _
    (and_i _ _ (and_i _ _ f.ranged (le-leb (R.S * R.D) (size R) f.shares))
    (and_i _ _
    (and_i _ _ (and_i _ _ (le-leb (size R) 128 f.wide) (le-leb (rands_before R (size R)) 64 f.few_rands))
    (le-leb (pubs_before R (size R)) 16 f.few_pubs)) (le-leb (outputs R) 64 f.few_outs)))
    (all_of (size R) (record_fits_lem R) f.each_fits)

-- 1.12: S and D are in their ranges, and so there are at most 64 shares
pub record FewShares (s d : ℕ) : Type 0 where
  pub s_most : s ≤ 8
  pub d_least : 2 ≤ d
  pub d_most : d ≤ 8
  pub few : s * d ≤ 64

pub ranged_is : (s d : ℕ) → in_range s d ≡ true → FewShares s d
unfolding in_range
ranged_is s d h =
    let a = both (leb 1 s && leb s 8 && leb 2 d) (leb d 8) h in
    let b = both (leb 1 s && leb s 8) (leb 2 d) a.0 in
    let c = both (leb 1 s) (leb s 8) b.0 in
    let p = leb-true s 8 c.1 in
    let q = leb-true d 8 a.1 in
    record { s_most = p; d_least = leb-true 2 d b.1; d_most = q; few = let z = mul-le-mul_right d p in omega arith }

-- ---- one record

pub made_fits : (R : Routine) (w : ℕ) (k : Kind) (a b : ℕ) → R.S * R.D ≤ w → Made w k a b → fits R w k a b ≡ true
unfolding fits
made_fits R w K.Share a b h m = absurd m
made_fits R w K.Rand a b h m = and_i _ _ (and_i _ _ (le-leb (R.S * R.D) w h) (eq-eqb a 0 m.0)) (eq-eqb b 0 m.1)
made_fits R w K.Pub a b h m = and_i _ _ (and_i _ _ (le-leb (R.S * R.D) w h) (eq-eqb a 0 m.0)) (eq-eqb b 0 m.1)
made_fits R w K.Xor a b h m = and_i _ _ (and_i _ _ (le-leb (R.S * R.D) w h) (lt-ltb a w m.0)) (lt-ltb b w m.1)
made_fits R w K.And a b h m = and_i _ _ (and_i _ _ (le-leb (R.S * R.D) w h) (lt-ltb a w m.0)) (lt-ltb b w m.1)
made_fits R w K.Not a b h m = and_i _ _ (and_i _ _ (le-leb (R.S * R.D) w h) (lt-ltb a w m.0)) (eq-eqb b 0 m.1)

apart : (x y z : Bool) → (x && y && z) ≡ true → (x ≡ true) × (y ≡ true) × (z ≡ true)
apart x y z h = let t = both (x && y) z h in let u = both x y t.0 in (u.0, u.1, t.1)

-- a record behind the shares is what a line can make
pub fits_made : (R : Routine) (w : ℕ) (k : Kind) (a b : ℕ) → R.S * R.D ≤ w → fits R w k a b ≡ true → Made w k a b
unfolding fits
fits_made R w K.Share a b h f =
    let z = ltb-true w (R.S * R.D) (apart (ltb w (R.S * R.D)) (eqb a (w / R.D)) (eqb b (w % R.D)) f).0 in
    let y : ⊥ = omega arith in y
fits_made R w K.Rand a b h f = let t = apart (leb (R.S * R.D) w) (eqb a 0) (eqb b 0) f in (eqb-true a 0 t.1, eqb-true b 0 t.2)
fits_made R w K.Pub a b h f = let t = apart (leb (R.S * R.D) w) (eqb a 0) (eqb b 0) f in (eqb-true a 0 t.1, eqb-true b 0 t.2)
fits_made R w K.Xor a b h f = let t = apart (leb (R.S * R.D) w) (ltb a w) (ltb b w) f in (ltb-true a w t.1, ltb-true b w t.2)
fits_made R w K.And a b h f = let t = apart (leb (R.S * R.D) w) (ltb a w) (ltb b w) f in (ltb-true a w t.1, ltb-true b w t.2)
fits_made R w K.Not a b h f = let t = apart (leb (R.S * R.D) w) (ltb a w) (eqb b 0) f in (ltb-true a w t.1, eqb-true b 0 t.2)

-- a record before them is its place's share
pub record Place (d w : ℕ) (k : Kind) (a b : ℕ) : Type 0 where
  pub is_share : k ≡ K.Share
  pub secret : a ≡ w / d
  pub number : b ≡ w % d

late : {X : Type 0} (n w : ℕ) (y z : Bool) → w < n → (leb n w && y && z) ≡ true → X
late n w y z h f = let t = leb-true n w (apart (leb n w) y z f).0 in let v : ⊥ = omega arith in absurd v

pub fits_place : (R : Routine) (w : ℕ) (k : Kind) (a b : ℕ) → w < R.S * R.D → fits R w k a b ≡ true → Place R.D w k a b
unfolding fits
fits_place R w K.Share a b h f =
    let t = apart (ltb w (R.S * R.D)) (eqb a (w / R.D)) (eqb b (w % R.D)) f in
    record { is_share = refl; secret = eqb-true a (w / R.D) t.1; number = eqb-true b (w % R.D) t.2 }
fits_place R w K.Rand a b h f = late (R.S * R.D) w (eqb a 0) (eqb b 0) h f
fits_place R w K.Pub a b h f = late (R.S * R.D) w (eqb a 0) (eqb b 0) h f
fits_place R w K.Xor a b h f = late (R.S * R.D) w (ltb a w) (ltb b w) h f
fits_place R w K.And a b h f = late (R.S * R.D) w (ltb a w) (ltb b w) h f
fits_place R w K.Not a b h f = late (R.S * R.D) w (ltb a w) (eqb b 0) h f

pub made_earlier : (w : ℕ) (k : Kind) (a b : ℕ) → Made w k a b → earlier w k a b ≡ true
unfolding earlier each operands_of
made_earlier w K.Share a b m = absurd m
made_earlier w K.Rand a b m = refl
made_earlier w K.Pub a b m = refl
made_earlier w K.Xor a b m = and_i _ _ (lt-ltb a w m.0) (and_i _ _ (lt-ltb b w m.1) refl)
made_earlier w K.And a b m = and_i _ _ (lt-ltb a w m.0) (and_i _ _ (lt-ltb b w m.1) refl)
made_earlier w K.Not a b m = and_i _ _ (lt-ltb a w m.0) refl

-- the line that makes a wire is taken as its making
pub made_line : (st : State) (w : ℕ) (k : Kind) (a b : ℕ) → Made w k a b → take_line st (line_of_kind w k a b) ≡ make st w k a b
unfolding take_line line_of_kind
made_line st w K.Share a b m = absurd m
made_line st w K.Rand a b m = rw (m.0, m.1) refl
made_line st w K.Pub a b m = rw (m.0, m.1) refl
made_line st w K.Xor a b m = refl
made_line st w K.And a b m = refl
made_line st w K.Not a b m = rw m.1 refl

pub made_below : (n w : ℕ) (k : Kind) (a b : ℕ) → w < n → Made w k a b → Below n (line_of_kind w k a b)
unfolding line_of_kind
made_below n w K.Share a b h m = m
made_below n w K.Rand a b h m = h
made_below n w K.Pub a b h m = h
made_below n w K.Xor a b h m = (h, omega arith, omega arith)
made_below n w K.And a b h m = (h, omega arith, omega arith)
made_below n w K.Not a b h m = (h, omega arith)

-- ---- the lines of a well-formed routine

module _ (R : Routine) (f : Formed R) where
  pub wire_fits : (w : ℕ) → w < size R → fits R w (wire R w).kind (wire R w).a (wire R w).b ≡ true
  unfolding record_fits_lem
  wire_fits w l = f.each_fits w l

  -- each wire behind the shares has its line
  pub wire_made : (w : ℕ) → R.S * R.D ≤ w → w < size R → Made w (wire R w).kind (wire R w).a (wire R w).b
  wire_made w h l = fits_made R w (wire R w).kind (wire R w).a (wire R w).b h (wire_fits w l)

  pub wire_below : (w : ℕ) → R.S * R.D ≤ w → w < size R → Below 128 (wire_line R w)
  wire_below w h l = made_below 128 w (wire R w).kind (wire R w).a (wire R w).b (let z = f.wide in omega arith) (wire_made w h l)

  pub head_below : Below 128 (Some (L.Head R.S R.D))
  head_below = let r = ranged_is R.S R.D f.ranged in (omega arith, omega arith)

  wires_below : (m w : ℕ) → R.S * R.D ≤ w → w + m ≤ size R → Each (Below 128) (wire_lines R m w)
  unfolding wire_lines
  wires_below zero w h l = tt
  wires_below (suc m) w h l = (wire_below w h (omega arith), wires_below m (suc w) (omega arith) (omega arith))

  outs_below : (m w : ℕ) → w + m ≤ size R → Each (Below 128) (out_lines R m w)
  unfolding out_lines
  outs_below zero w l = tt
  outs_below (suc m) w l = go (wire R w).out (outs_below m (suc w) (omega arith)) where
    go : (b : Bool) → Each (Below 128) (out_lines R m (suc w)) → Each (Below 128) (cond b (Some (L.Out w) ∷ out_lines R m (suc w)) (out_lines R m (suc w)))
    go false g = g
    go true g = (let z = f.wide in let y : w < 128 = omega arith in y, g)

  pub lines_below : Each (Below 128) (lines_of R)
  unfolding lines_of
  lines_below = (
    head_below,
    each_lines (Below 128) (wire_lines R (size R - R.S * R.D) (R.S * R.D)) (out_lines R (size R) 0)
        (wires_below (size R - R.S * R.D) (R.S * R.D) (omega arith) (let z = f.shares in omega arith)) (outs_below (size R) 0 (omega arith)),
  )

pub each_writable : (ls : List (Option Line)) → Each (Below 128) ls → Each Writable ls
each_writable [] h = tt
each_writable (l ∷ ls) h = (below_more 128 1000 l (omega arith) h.0, each_writable ls h.1)

-- ---- the length of its text

wires_short : (R : Routine) (m w : ℕ) → length (text_of_lines (wire_lines R m w)) ≤ m * 16
unfolding wire_lines text_of_lines
wires_short R zero w = omega arith
wires_short R (suc m) w =
    let z = line_short (wire_line R w) in
    let y = wires_short R m (suc w) in
    rw (suc-mul m 16) (simp length-append (omega arith))

outs_short : (R : Routine) (m w : ℕ) → length (text_of_lines (out_lines R m w)) ≤ m * 8
unfolding out_lines text_of_lines
outs_short R zero w = omega arith
outs_short R (suc m) w = go (wire R w).out (outs_short R m (suc w)) where
  go : (b : Bool) → length (text_of_lines (out_lines R m (suc w))) ≤ m * 8
      → length (text_of_lines (cond b (Some (L.Out w) ∷ out_lines R m (suc w)) (out_lines R m (suc w)))) ≤ suc m * 8
  go false y = rw (suc-mul m 8) (omega arith)
  go true y = rw (suc-mul m 8) (omega (arith, out_short w, length-append (line_text (Some (L.Out w))) (lf ∷ text_of_lines (out_lines R m (suc w)))))

-- the first line, at most 128 wire lines and 128 `out` lines
pub text_short : (R : Routine) → size R ≤ 128 → length (text_of R) ≤ 3088
unfolding text_of lines_of text_of_lines
text_short R h =
    let m = size R - R.S * R.D in
    let v = wire_lines R m (R.S * R.D) in
    let o = out_lines R (size R) 0 in
    let a = wires_short R m (R.S * R.D) in
    let b = outs_short R (size R) 0 in
    let e = ap length (text_append v o) ∙ length-append (text_of_lines v) (text_of_lines o) in
    omega (arith, line_short (Some (L.Head R.S R.D)), length-append (line_text (Some (L.Head R.S R.D))) (lf ∷ text_of_lines (v ++ o)))
