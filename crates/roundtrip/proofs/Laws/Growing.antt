-- A routine with one wire more, or one wire marked: its records, its counts, its lines, and that it stays well-formed.
use Rattle.std.specs.Prelude.{◌≡◌, refl, Bool, false, cond, ◌≢◌, get_or, set}
use Rattle.std.proofs.Math.Path.{sym, ap, ap₂}
use Rattle.std.proofs.Common.{subst, ◌∙◌, length-append, length-set, get_or-set_same, get_or-set_other}
use Rattle.std.proofs.Math.Bool.{true}
use mathlib.Core.List.{List, [], ◌∷◌, ◌++◌, append_assoc, append-nil}
use Prim.Native.Nat.{ℕ, zero, suc, ◌+◌, ◌-◌, ◌*◌, ◌≤◌, ◌<◌}
use native.Mathlib.Omega.{arith}
use Rattle.std.proofs.Math.ListN.{get_or-append}
use Rattle.std.proofs.Math.Seq.{get_or-append_seam}
use Rattle.data.specs.declared.Kind.{Kind}
use Rattle.data.specs.declared.Kind.TheVariants as K
use Rattle.data.specs.declared.Wire.{Wire}
use Rattle.data.specs.declared.Line.{Line}
use Rattle.std.specs.Prelude.{Option, Some}
use Rattle.data.specs.declared.Line.TheVariants as L
use Rattle.data.specs.Basics.{one, tally}
use Rattle.document.specs.Routine.{Routine, size, wire, blank, is_rand, is_pub, rands_before, pubs_before, outputs, fits, record_fits_lem}
use Rattle.document.specs.Reading.{with_mark}
use Rattle.document.specs.Writing.{line_of_kind, wire_line, wire_lines, out_lines, lines_of}
use Rattle.data.proofs.Laws.Tests.{wire_cases, tally_ext}
use Rattle.roundtrip.proofs.Laws.Tests.{tally_one}
use Rattle.roundtrip.specs.Made.{Made}
use Rattle.roundtrip.proofs.Laws.Formed.{Formed, made_fits, wire_fits}

-- ---- the lines of two routines that agree

wires_same : (R R' : Routine) (m w : ℕ) → ((j : ℕ) → w ≤ j → j < w + m → wire_line R j ≡ wire_line R' j) → wire_lines R m w ≡ wire_lines R' m w
unfolding wire_lines
wires_same R R' zero w f = refl
wires_same R R' (suc m) w f =
    ap₂ (λ (l : Option Line) (ls : List (Option Line)). l ∷ ls) (f w (omega arith) (omega arith)) (wires_same R R' m (suc w) (λ j g h. f j (omega arith) (omega arith)))

outs_same : (R R' : Routine) (m w : ℕ) → ((j : ℕ) → w ≤ j → j < w + m → (wire R j).out ≡ (wire R' j).out) → out_lines R m w ≡ out_lines R' m w
unfolding out_lines
outs_same R R' zero w f = refl
outs_same R R' (suc m) w f =
    ap₂ (λ (b : Bool) (ls : List (Option Line)). cond b (Some (L.Out w) ∷ ls) ls) (f w (omega arith) (omega arith))
    (outs_same R R' m (suc w) (λ j g h. f j (omega arith) (omega arith)))

pub outs_none : (R : Routine) (m w : ℕ) → ((j : ℕ) → w ≤ j → j < w + m → (wire R j).out ≡ false) → out_lines R m w ≡ []
unfolding out_lines
outs_none R zero w f = refl
outs_none R (suc m) w f = rw (f w (omega arith) (omega arith)) (outs_none R m (suc w) (λ j g h. f j (omega arith) (omega arith)))

wires_last : (R : Routine) (m w : ℕ) → wire_lines R (suc m) w ≡ wire_lines R m w ++ wire_line R (w + m) ∷ []
unfolding wire_lines
wires_last R zero w = let z : w ≡ w + 0 = omega arith in ap (λ (n : ℕ). wire_line R n ∷ []) z
wires_last R (suc m) w =
    let z : suc w + m ≡ w + suc m = omega arith in
    ap (λ (ls : List (Option Line)). wire_line R w ∷ ls) (wires_last R m (suc w) ∙ ap (λ (n : ℕ). wire_lines R m (suc w) ++ wire_line R n ∷ []) z)

outs_split : (R : Routine) (m i w : ℕ) → out_lines R (m + i) w ≡ out_lines R m w ++ out_lines R i (w + m)
unfolding out_lines
outs_split R zero i w = let z : 0 + i ≡ i = omega arith in let y : w ≡ w + 0 = omega arith in ap (λ (n : ℕ). out_lines R n w) z ∙ ap (out_lines R i) y
outs_split R (suc m) i w =
    let z : suc m + i ≡ suc (m + i) = omega arith in
    let y : suc w + m ≡ w + suc m = omega arith in
    ap (λ (n : ℕ). out_lines R n w) z ∙ go (wire R w).out (outs_split R m i (suc w) ∙ ap (λ (n : ℕ). out_lines R m (suc w) ++ out_lines R i n) y) where
      go : (b : Bool) → out_lines R (m + i) (suc w) ≡ out_lines R m (suc w) ++ out_lines R i (w + suc m)
          → cond b (Some (L.Out w) ∷ out_lines R (m + i) (suc w)) (out_lines R (m + i) (suc w))
          ≡ cond b (Some (L.Out w) ∷ out_lines R m (suc w)) (out_lines R m (suc w)) ++ out_lines R i (w + suc m)
      go true e = ap (λ (ls : List (Option Line)). Some (L.Out w) ∷ ls) e
      go false e = e

-- ---- other records

abbrev pub with_wires : Routine → List Wire → Routine
with_wires R vs = record { S = R.S; D = R.D; wires = vs }

fits_same : (R : Routine) (vs : List Wire) (w : ℕ) (k : Kind) (a b : ℕ) → fits (with_wires R vs) w k a b ≡ fits R w k a b
unfolding fits
fits_same R vs w K.Share a b = refl
fits_same R vs w K.Rand a b = refl
fits_same R vs w K.Pub a b = refl
fits_same R vs w K.Xor a b = refl
fits_same R vs w K.And a b = refl
fits_same R vs w K.Not a b = refl

fits_at_lem : (R : Routine) (vs : List Wire) (w : ℕ) (x : Wire)
    → get_or vs w blank ≡ x → fits R w x.kind x.a x.b ≡ true → record_fits_lem (with_wires R vs) w ≡ true
unfolding record_fits_lem
fits_at_lem R vs w x e h =
    ap (λ (y : Wire). fits (with_wires R vs) w y.kind y.a y.b) e ∙ fits_same R vs w x.kind x.a x.b ∙ h

-- ---- one wire more

abbrev pub more : Routine → Wire → Routine
more R x = with_wires R (R.wires ++ x ∷ [])

module _ (R : Routine) (x : Wire) where
  pub size_more : size (more R x) ≡ suc (size R)
  size_more = let e = length-append R.wires (x ∷ []) in omega arith

  pub more_old : (j : ℕ) → j < size R → wire (more R x) j ≡ wire R j
  more_old j h = get_or-append R.wires (x ∷ []) blank j h

  pub more_new : wire (more R x) (size R) ≡ x
  more_new = get_or-append_seam R.wires x [] blank

  -- the records of some sort are those before, and the new one if it is of it
  count_more : (f : Wire → Bool) → tally (size (more R x)) (λ u. f (wire (more R x) u)) ≡ tally (size R) (λ u. f (wire R u)) + one (f x)
  unfolding tally
  count_more f =
      let e = ap (λ (n : ℕ). tally n (λ u. f (wire (more R x) u))) size_more in
      let s = tally_ext (size R) (λ u. f (wire (more R x) u)) (λ u. f (wire R u)) (λ u h. ap f (more_old u h)) in
      let n = ap (λ (y : Wire). one (f y)) more_new in
      let z : one (f (wire (more R x) (size R))) + tally (size R) (λ u. f (wire (more R x) u)) ≡ tally (size R) (λ u. f (wire R u)) + one (f x) = omega arith in
      e ∙ z

  pub rands_more : rands_before (more R x) (size (more R x)) ≡ rands_before R (size R) + one (is_rand x.kind)
  unfolding rands_before
  rands_more = count_more (λ y. is_rand y.kind)

  pub pubs_more : pubs_before (more R x) (size (more R x)) ≡ pubs_before R (size R) + one (is_pub x.kind)
  unfolding pubs_before
  pubs_more = count_more (λ y. is_pub y.kind)

  pub outputs_more : outputs (more R x) ≡ outputs R + one x.out
  unfolding outputs
  outputs_more = count_more (λ y. y.out)

  module _ (f : Formed R) (made : Made (size R) x.kind x.a x.b) (unmarked : x.out ≡ false) where
    fits_more : (w : ℕ) → w < size (more R x) → record_fits_lem (more R x) w ≡ true
    fits_more w l = wire_cases w (size R)
        (λ e. fits_at_lem R (R.wires ++ x ∷ []) w x (ap (wire (more R x)) e ∙ more_new)
        (made_fits R w x.kind x.a x.b (let z = f.shares in omega arith) (subst (λ (v : ℕ). Made v x.kind x.a x.b) (sym e) made)))
        (λ n. let v : w < size R = omega (arith, size_more) in fits_at_lem R (R.wires ++ x ∷ []) w (wire R w) (more_old w v) (wire_fits R f w v))

    pub formed_more : size R < 128 → rands_before R (size R) + one (is_rand x.kind) ≤ 64
        → pubs_before R (size R) + one (is_pub x.kind) ≤ 16 → Formed (more R x)
    formed_more h r p = record {
      ranged = f.ranged;
      shares = let z = f.shares in omega (arith, size_more);
      wide = omega (arith, size_more);
      few_rands = omega (arith, rands_more);
      few_pubs = omega (arith, pubs_more);
      few_outs = let z = f.few_outs in let y = ap one unmarked in omega (arith, outputs_more);
      each_fits = fits_more;
    }

    -- the new wire's line is the last one, as long as no wire is marked
    pub lines_more : ((j : ℕ) → j < size R → (wire R j).out ≡ false) → lines_of (more R x) ≡ lines_of R ++ line_of_kind (size R) x.kind x.a x.b ∷ []
    unfolding lines_of
    lines_more none =
        let n = R.S * R.D in
        let m = size R - n in
        let y = f.shares in
        let z : size (more R x) - n ≡ suc m = omega (arith, size_more) in
        let q : n + m ≡ size R = omega arith in
        let new = outs_none (more R x) (size (more R x)) 0
        (λ j g h. wire_cases j (size R) (λ e. ap (λ (i : ℕ). (wire (more R x) i).out) e ∙ ap (λ (v : Wire). v.out) more_new ∙ unmarked)
        (λ d. let i : j < size R = omega (arith, size_more) in ap (λ (v : Wire). v.out) (more_old j i) ∙ none j i)) in
        let old = outs_none R (size R) 0 (λ j g h. none j (omega arith)) in
        let same = wires_same (more R x) R m n (λ j g h. ap (λ (v : Wire). line_of_kind j v.kind v.a v.b) (more_old j (omega arith))) in
        let last = ap (wire_line (more R x)) q ∙ ap (λ (v : Wire). line_of_kind (size R) v.kind v.a v.b) more_new in
        let made-lines = ap (λ (i : ℕ). wire_lines (more R x) i n) z ∙ wires_last (more R x) m n ∙ ap₂ (λ (v : List (Option Line)) (l : Option Line). v ++ l ∷ []) same last in
        ap₂ (λ (v o : List (Option Line)). Some (L.Head R.S R.D) ∷ (v ++ o)) made-lines new
        ∙ ap (λ (v : List (Option Line)). Some (L.Head R.S R.D) ∷ v) (append-nil (wire_lines R m n ++ line_of_kind (size R) x.kind x.a x.b ∷ [])
        ∙ ap (λ (v : List (Option Line)). v ++ line_of_kind (size R) x.kind x.a x.b ∷ [])
        (sym (append-nil (wire_lines R m n)) ∙ ap (λ (o : List (Option Line)). wire_lines R m n ++ o) (sym old)))

-- ---- one wire marked

abbrev pub marking : Routine → ℕ → Routine
marking R w = with_wires R (set R.wires w (with_mark (wire R w)))

module _ (R : Routine) (w : ℕ) where
  pub size_marking : size (marking R w) ≡ size R
  size_marking = length-set R.wires w (with_mark (wire R w))

  pub marking_other : (j : ℕ) → j ≢ w → wire (marking R w) j ≡ wire R j
  marking_other j n = get_or-set_other R.wires w j (with_mark (wire R w)) blank n

  module _ (here : w < size R) where
    pub marking_here : wire (marking R w) w ≡ with_mark (wire R w)
    marking_here = get_or-set_same R.wires w (with_mark (wire R w)) blank here

    -- what the mark does not change
    pub still : {A : Type 0} (f : Wire → A) → ((y : Wire) → f (with_mark y) ≡ f y) → (j : ℕ) → f (wire (marking R w) j) ≡ f (wire R j)
    still f g j = wire_cases j w
        (λ e. ap (λ (i : ℕ). f (wire (marking R w) i)) e ∙ ap f marking_here ∙ g (wire R w) ∙ ap (λ (i : ℕ). f (wire R i)) (sym e))
        (λ n. ap f (marking_other j n))

    count_marking : (f : Wire → Bool) → ((y : Wire) → f (with_mark y) ≡ f y)
        → tally (size (marking R w)) (λ u. f (wire (marking R w) u)) ≡ tally (size R) (λ u. f (wire R u))
    count_marking f g =
        ap (λ (n : ℕ). tally n (λ u. f (wire (marking R w) u))) size_marking
        ∙ tally_ext (size R) (λ u. f (wire (marking R w) u)) (λ u. f (wire R u)) (λ u h. still f g u)

    pub rands_marking : rands_before (marking R w) (size (marking R w)) ≡ rands_before R (size R)
    unfolding rands_before
    rands_marking = count_marking (λ y. is_rand y.kind) (λ y. refl)

    pub pubs_marking : pubs_before (marking R w) (size (marking R w)) ≡ pubs_before R (size R)
    unfolding pubs_before
    pubs_marking = count_marking (λ y. is_pub y.kind) (λ y. refl)

    pub outputs_marking : (wire R w).out ≡ false → outputs (marking R w) ≡ outputs R + 1
    unfolding outputs
    outputs_marking h =
        ap (λ (n : ℕ). tally n (λ u. (wire (marking R w) u).out)) size_marking
        ∙ tally_one (size R) w (λ u. (wire R u).out) (λ u. (wire (marking R w) u).out) here h
        (ap (λ (y : Wire). y.out) marking_here) (λ u n. sym (ap (λ (y : Wire). y.out) (marking_other u n)))

    pub formed_marking : Formed R → outputs (marking R w) ≤ 64 → Formed (marking R w)
    formed_marking f o = record {
      ranged = f.ranged;
      shares = let z = f.shares in omega (arith, size_marking);
      wide = let z = f.wide in omega (arith, size_marking);
      few_rands = let z = f.few_rands in omega (arith, rands_marking);
      few_pubs = let z = f.few_pubs in omega (arith, pubs_marking);
      few_outs = o;
      each_fits = λ v l. let i : v < size R = omega (arith, size_marking) in
          fits_at_lem R (set R.wires w (with_mark (wire R w))) v (wire (marking R w) v) refl
          (still (λ y. fits R v y.kind y.a y.b) (λ y. refl) v ∙ wire_fits R f v i);
    }

    -- its `out` line is the last one, as long as no wire from it on is marked
    pub lines_marking : ((j : ℕ) → w ≤ j → j < size R → (wire R j).out ≡ false) → lines_of (marking R w) ≡ lines_of R ++ Some (L.Out w) ∷ []
    unfolding lines_of out_lines
    lines_marking none =
        let R' = marking R w in
        let n = R.S * R.D in
        let m = size R - w - 1 in
        let z : size R ≡ w + suc m = omega arith in
        let y : 0 + w ≡ w = omega arith in
        let wires_are = ap (λ (i : ℕ). wire_lines R' (i - n) n) size_marking
        ∙ wires_same R' R (size R - n) n (λ j g h. still (λ v. line_of_kind j v.kind v.a v.b) (λ v. refl) j) in
        let below = outs_same R' R w 0 (λ j g h. ap (λ (v : Wire). v.out) (marking_other j (λ e. let v : ⊥ = omega arith in v))) in
        let above = outs_none R' m (suc w)
        (λ j g h. ap (λ (v : Wire). v.out) (marking_other j (λ e. let v : ⊥ = omega arith in v)) ∙ none j (omega arith) (omega arith)) in
        let here-is : (wire R' w).out ≡ true = ap (λ (v : Wire). v.out) marking_here in
        let tail : out_lines R' (suc m) w ≡ Some (L.Out w) ∷ [] = rw here-is (ap (λ (ls : List (Option Line)). Some (L.Out w) ∷ ls) above) in
        let old : out_lines R (suc m) w ≡ [] = outs_none R (suc m) w (λ j g h. none j g (omega arith)) in
        let new-outs = ap (λ (i : ℕ). out_lines R' i 0) (size_marking ∙ z) ∙ outs_split R' w (suc m) 0
        ∙ ap₂ (λ (v u : List (Option Line)). v ++ u) below (ap (out_lines R' (suc m)) y ∙ tail) in
        let old-outs = ap (λ (i : ℕ). out_lines R i 0) z ∙ outs_split R w (suc m) 0
        ∙ ap (λ (u : List (Option Line)). out_lines R w 0 ++ u) (ap (out_lines R (suc m)) y ∙ old) ∙ append-nil (out_lines R w 0) in
        ap₂ (λ (v o : List (Option Line)). Some (L.Head R.S R.D) ∷ (v ++ o)) wires_are (new-outs ∙ ap (λ (v : List (Option Line)). v ++ Some (L.Out w) ∷ []) (sym old-outs))
        ∙ ap (λ (v : List (Option Line)). Some (L.Head R.S R.D) ∷ v) (sym (append_assoc (wire_lines R (size R - n) n) (out_lines R (size R) 0) (Some (L.Out w) ∷ [])))
