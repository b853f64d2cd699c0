-- What a state of a reading stands for: the routine read so far. A line that is taken makes one wire more, or marks one.
use Rattle.std.specs.Prelude.{◌≡◌, refl, Bool, true, false, ◌&&◌, cond, List, [], ◌∷◌, ◌++◌, ℕ, suc, ◌+◌, ◌-◌, ◌≤◌, ◌<◌, leb, eqb, ltb, length, get_or, set, replicate}
use Rattle.std.proofs.Common.{sym, ap, ap₂, subst, ◌∙◌, append_assoc, arith, length-append, length-set, leb-true, eqb-true, ltb-true}
use Rattle.std.proofs.Math.ListN.{get_or-append}
use Rattle.std.proofs.Math.Seq.{set-append_seam}
use Rattle.std.proofs.lemmas.List.{set-append_left}
use Rattle.data.specs.declared.Kind.{Kind}
use Rattle.data.specs.declared.Kind.TheVariants as K
use Rattle.data.specs.declared.Wire.{Wire}
use Rattle.data.specs.declared.Line.{Line}
use Rattle.data.specs.declared.Line.TheVariants as L
use Rattle.data.specs.declared.Refusal.{Refusal}
use Rattle.data.specs.declared.Refusal.TheVariants as No
use Rattle.std.specs.Prelude.{Option, None, Some, Result, Ok, Err}
use Rattle.data.specs.declared.State.{State}
use Rattle.data.specs.Basics.{one, each}
use Rattle.document.specs.Routine.{Routine, size, wire, blank, is_rand, is_pub, rands_before, pubs_before, outputs, operands_of}
use Rattle.document.specs.Reading.{made, with_mark, marked, is_next, earlier, has_room, make, mark_out, take_line}
use Rattle.document.specs.Writing.{line_of_kind}
use Rattle.data.proofs.Laws.Tests.{both}
use Rattle.roundtrip.proofs.Laws.Tests.{not_done}
use Rattle.roundtrip.specs.Made.{Made}
use Rattle.roundtrip.proofs.Laws.Growing.{more, size_more, rands_more, pubs_more, outputs_more}
use Rattle.roundtrip.proofs.Laws.Growing.{marking, size_marking, rands_marking, pubs_marking, outputs_marking}

-- ---- what a state stands for

-- the records, and blank ones up to 128
abbrev pub padded : List Wire → List Wire
padded vs = vs ++ replicate (128 - length vs) blank

pub record StandsFor (st : State) (R : Routine) : Type 0 where
  pub s_is : st.s ≡ R.S
  pub d_is : st.d ≡ R.D
  pub n_is : st.n ≡ size R
  pub rands_are : st.rands ≡ rands_before R (size R)
  pub pubs_are : st.pubs ≡ pubs_before R (size R)
  pub outs_are : st.outs ≡ outputs R
  pub wires_are : st.wires ≡ padded R.wires

-- ---- one wire more

pub set_next : (vs : List Wire) (x : Wire) → length vs < 128 → set (padded vs) (length vs) x ≡ padded (vs ++ x ∷ [])
set_next vs x h =
    let m = 127 - length vs in
    let z : 128 - length vs ≡ suc m = omega arith in
    let y : 128 - length (vs ++ x ∷ []) ≡ m = omega (arith, length-append vs (x ∷ [])) in
    ap (λ (i : ℕ). set (vs ++ replicate i blank) (length vs) x) z ∙ set-append_seam vs blank (replicate m blank) x
    ∙ sym (append_assoc vs (x ∷ []) (replicate m blank)) ∙ ap (λ (i : ℕ). (vs ++ x ∷ []) ++ replicate i blank) (sym y)

-- the record that a line makes
abbrev pub fresh : Kind → ℕ → ℕ → Wire
fresh k a b = record { kind = k; a = a; b = b; out = false }

pub holds_made : (st : State) (R : Routine) (k : Kind) (a b : ℕ) → StandsFor st R → size R < 128 → StandsFor (made st k a b) (more R (fresh k a b))
unfolding made
holds_made st R k a b h l =
    let x = fresh k a b in
    record {
      s_is = h.s_is;
      d_is = h.d_is;
      n_is = let z = h.n_is in omega (arith, size_more R x);
      rands_are = ap (λ (n : ℕ). n + one (is_rand k)) h.rands_are ∙ sym (rands_more R x);
      pubs_are = ap (λ (n : ℕ). n + one (is_pub k)) h.pubs_are ∙ sym (pubs_more R x);
      outs_are = let z = h.outs_are in omega (arith, outputs_more R x);
      wires_are = ap₂ (λ (vs : List Wire) (n : ℕ). set vs n x) h.wires_are h.n_is ∙ set_next R.wires x l;
    }

-- ---- one wire marked

set_within : (vs : List Wire) (w : ℕ) → w < length vs → set (padded vs) w (with_mark (get_or (padded vs) w blank)) ≡ padded (set vs w (with_mark (get_or vs w blank)))
set_within vs w h =
    let r = replicate (128 - length vs) blank in
    ap (λ (x : Wire). set (padded vs) w (with_mark x)) (get_or-append vs r blank w h) ∙ set-append_left vs r w (with_mark (get_or vs w blank)) h
    ∙ ap (λ (n : ℕ). set vs w (with_mark (get_or vs w blank)) ++ replicate (128 - n) blank) (sym (length-set vs w (with_mark (get_or vs w blank))))

pub holds_marked : (st : State) (R : Routine) (w : ℕ) → StandsFor st R → w < size R → (wire R w).out ≡ false → StandsFor (marked st w) (marking R w)
unfolding marked
holds_marked st R w h l u = record {
  s_is = h.s_is;
  d_is = h.d_is;
  n_is = h.n_is ∙ sym (size_marking R w);
  rands_are = h.rands_are ∙ sym (rands_marking R w l);
  pubs_are = h.pubs_are ∙ sym (pubs_marking R w l);
  outs_are = ap (λ (n : ℕ). n + 1) h.outs_are ∙ sym (outputs_marking R w l u);
  wires_are = ap (λ (vs : List Wire). set vs w (with_mark (get_or vs w blank))) h.wires_are ∙ set_within R.wires w l;
}

-- ---- what a line that is taken does

pub data Does (st : State) (l : Option Line) (st' : State) : Type 0 where
  makes : (k : Kind) (a b : ℕ) → st.outs ≡ 0 → Made st.n k a b → st.n < 128 → st.rands + one (is_rand k) ≤ 64 → st.pubs + one (is_pub k) ≤ 16
      → l ≡ line_of_kind st.n k a b → st' ≡ made st k a b → Does st l st'
  marks : (w : ℕ) → st.outs < 64 → w < st.n → st.low ≤ w → l ≡ Some (L.Out w) → st' ≡ marked st w → Does st l st'

-- the test passed, if the line was taken
tested : (b : Bool) (st : State) (f : Refusal) (l : Option Line) (st' : State) (y : Result State Refusal) → (b ≡ true → y ≡ Ok st' → Does st l st')
    → cond b y (Err f) ≡ Ok st' → Does st l st'
tested true st f l st' y g h = g refl h
tested false st f l st' y g h = not_done h

make_does : (st : State) (w : ℕ) (k : Kind) (a b : ℕ) (l : Option Line) (st' : State) → (earlier w k a b ≡ true → Made w k a b) → l ≡ line_of_kind w k a b
    → make st w k a b ≡ Ok st' → Does st l st'
unfolding make is_next has_room
make_does st w k a b l st' m e h =
    tested (eqb w st.n && eqb st.outs 0) st No.Next l st' _
    (λ p. tested (earlier w k a b) st No.Operand l st' _
    (λ q. tested (ltb st.n 128 && leb (st.rands + one (is_rand k)) 64 && leb (st.pubs + one (is_pub k)) 16) st No.Ceiling l st' (Ok (made st k a b))
    (λ r g.
    let t = both (eqb w st.n) (eqb st.outs 0) p in
    let n = eqb-true w st.n t.0 in
    let u = both (ltb st.n 128 && leb (st.rands + one (is_rand k)) 64) (leb (st.pubs + one (is_pub k)) 16) r in
    let v = both (ltb st.n 128) (leb (st.rands + one (is_rand k)) 64) u.0 in
    makes k a b (eqb-true st.outs 0 t.1) (subst (λ (i : ℕ). Made i k a b) n (m q)) (ltb-true st.n 128 v.0)
    (leb-true (st.rands + one (is_rand k)) 64 v.1) (leb-true (st.pubs + one (is_pub k)) 16 u.1) (e ∙ ap (λ (i : ℕ). line_of_kind i k a b) n) (cc)))) h

mark_does : (st : State) (w : ℕ) (st' : State) → mark_out st w ≡ Ok st' → Does st (Some (L.Out w)) st'
unfolding mark_out
mark_does st w st' h =
    tested (ltb st.outs 64) st No.Ceiling (Some (L.Out w)) st' _
    (λ p. tested (ltb w st.n && leb st.low w) st No.Output (Some (L.Out w)) st' (Ok (marked st w))
    (λ q g. let t = both (ltb w st.n) (leb st.low w) q in
    marks w (ltb-true st.outs 64 p) (ltb-true w st.n t.0) (leb-true st.low w t.1) refl (cc))) h

-- both operands are earlier wires
two_earlier : (w a b : ℕ) → (ltb a w && (ltb b w && true)) ≡ true → (a < w) × (b < w)
two_earlier w a b h = let t = both (ltb a w) (ltb b w && true) h in (ltb-true a w t.0, ltb-true b w (both (ltb b w) true t.1).0)

pub does : (st : State) (l : Option Line) (st' : State) → take_line st l ≡ Ok st' → Does st l st'
unfolding take_line earlier each operands_of line_of_kind
does st None st' h = not_done h
does st (Some (L.Head s d)) st' h = not_done h
does st (Some (L.Rand w)) st' h = make_does st w K.Rand 0 0 (Some (L.Rand w)) st' (λ q. (refl, refl)) refl h
does st (Some (L.Pub w)) st' h = make_does st w K.Pub 0 0 (Some (L.Pub w)) st' (λ q. (refl, refl)) refl h
does st (Some (L.Xor w a b)) st' h = make_does st w K.Xor a b (Some (L.Xor w a b)) st' (two_earlier w a b) refl h
does st (Some (L.And w a b)) st' h = make_does st w K.And a b (Some (L.And w a b)) st' (two_earlier w a b) refl h
does st (Some (L.Not w a)) st' h =
    make_does st w K.Not a 0 (Some (L.Not w a)) st' (λ q. (ltb-true a w (both (ltb a w) true q).0, refl)) refl h
does st (Some (L.Out w)) st' h = mark_does st w st' h
