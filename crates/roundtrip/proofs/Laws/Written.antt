-- A well-formed routine's own lines are taken one after the other, and what they lead to is the routine.
use Rattle.std.specs.Prelude.{◌≡◌, Bool, cond, List, ◌∷◌, ◌++◌, length, get_or}
use Rattle.std.proofs.Math.Path.{refl, sym, ap, subst}
use Rattle.std.proofs.Common.{ap₂, ◌∙◌, ext_get_or, ltb-true, ltb-false, lt-ltb, le-leb, eq-eqb}
use Rattle.std.proofs.Math.Bool.{true, false}
use Rattle.std.proofs.lemmas.Bool.{false≢true}
use Prim.Native.Nat.{ℕ, zero, suc, ◌+◌, ◌-◌, ◌*◌, ◌≤◌, ◌<◌}
use native.Mathlib.Omega.{arith}
use Rattle.std.proofs.Math.Dec.{ltb}
use Rattle.document.specs.Lines.{lf}
use Rattle.data.specs.declared.Kind.{Kind}
use Rattle.data.specs.declared.Kind.TheVariants as K
use Rattle.data.specs.declared.Wire.{Wire}
use Rattle.data.specs.declared.Line.{Line}
use Rattle.data.specs.declared.Line.TheVariants as L
use Rattle.data.specs.declared.State.{State}
use Rattle.data.specs.declared.Refusal.{Refusal}
use Rattle.std.specs.Prelude.{Option, Some, Result, Ok}
use Rattle.data.specs.declared.Read.{Read}
use Rattle.data.proofs.Laws.Tests.{and_i, wire_cases, cond_true, tally_ext, tally_mono, tally_le}
use Rattle.data.specs.Basics.{one, tally}
use Rattle.document.specs.Routine.{Routine, size, wire, blank, is_rand, is_pub, rands_before, pubs_before, outputs}
use Rattle.document.specs.Reading.{made, with_mark, marked, is_next, has_room, make, mark_out, take_line}
use Rattle.document.specs.Reading.{read_all, onward, read_lines, begun, from_header, from_first, reading}
use Rattle.document.specs.Writing.{line_of_kind, wire_line, wire_lines, out_lines, lines_of, text_of}
use Rattle.roundtrip.specs.Texts.{read_of}
use Rattle.roundtrip.proofs.Laws.Tests.{tally_none}
use Rattle.roundtrip.proofs.Laws.LineTexts.{texts, text_some, text_last}
use Rattle.roundtrip.specs.Made.{Made}
use Rattle.roundtrip.proofs.Laws.Formed.{Formed, fits_place, made_earlier, made_line, wire_fits, wire_made, lines_below, each_writable, text_short}
use Rattle.roundtrip.proofs.Laws.Growing.{with_wires, more, size_more, more_old, more_new}
use Rattle.roundtrip.proofs.Laws.Growing.{marking, size_marking, marking_other, marking_here, outputs_marking}
use Rattle.roundtrip.proofs.Laws.States.{StandsFor, fresh, holds_made, holds_marked}
use Rattle.roundtrip.proofs.Laws.Shares.{only_shares, shares_length, shares_wire, shares_holds}
use Rattle.roundtrip.proofs.Laws.Read.{holds_read}

-- ---- lines that are taken

pub make_taken : (st : State) (w : ℕ) (k : Kind) (a b : ℕ) → w ≡ st.n → st.outs ≡ 0 → Made w k a b → w < 128
    → st.rands + one (is_rand k) ≤ 64 → st.pubs + one (is_pub k) ≤ 16
    → take_line st (line_of_kind w k a b) ≡ Ok (made st k a b)
unfolding make is_next has_room
make_taken st w k a b e o m h r p =
    made_line st w k a b m
    ∙ cond_true _ _ (and_i _ _ (eq-eqb w st.n e) (eq-eqb st.outs 0 o))
    ∙ cond_true _ _ (made_earlier w k a b m)
    ∙ cond_true _ _
    (and_i _ _ (and_i _ _ (lt-ltb st.n 128 (omega arith)) (le-leb (st.rands + one (is_rand k)) 64 r))
    (le-leb (st.pubs + one (is_pub k)) 16 p))

mark_taken : (st : State) (w : ℕ) → st.outs < 64 → w < st.n → st.low ≤ w → take_line st (Some (L.Out w)) ≡ Ok (marked st w)
unfolding take_line mark_out
mark_taken st w o h l =
    cond_true _ _ (lt-ltb st.outs 64 o) ∙ cond_true _ _ (and_i _ _ (lt-ltb w st.n h) (le-leb st.low w l))

next_line : (k : ℕ) (st : State) (l : Option Line) (ls : List (Option Line)) (st' : State) → take_line st l ≡ Ok st' → read_lines k st (l ∷ ls) ≡ read_lines (k + 1) st' ls
unfolding read_lines
next_line k st l ls st' e = ap (λ (y : Result State Refusal). onward y k (λ next. read_lines (k + 1) next ls)) e

-- ---- the wires, one after the other

-- the record without its mark
abbrev pub without_mark : Wire → Wire
without_mark x = fresh x.kind x.a x.b

-- the first j wires of R, without their marks
pub record Begun (R : Routine) (j : ℕ) (Q : Routine) : Type 0 where
  pub s_same : Q.S ≡ R.S
  pub d_same : Q.D ≡ R.D
  pub count : size Q ≡ j
  pub same : (u : ℕ) → u < j → wire Q u ≡ without_mark (wire R u)

-- the read goes on from where all wires of R are made and none is marked, with these lines still to come
pub record WiresMade (R : Routine) (r : Read) (rest : List (Option Line)) : Type 0 where
  pub line : ℕ
  pub state : State
  pub routine : Routine
  pub all_made : Begun R (size R) routine
  pub holds : StandsFor state routine
  pub low_is : state.low ≡ 0
  pub is : r ≡ read_lines line state rest

-- the first w wires of R as they are, the others without their marks
pub record Partly (R : Routine) (w : ℕ) (Q : Routine) : Type 0 where
  pub s_same : Q.S ≡ R.S
  pub d_same : Q.D ≡ R.D
  pub count : size Q ≡ size R
  pub below : (u : ℕ) → u < w → wire Q u ≡ wire R u
  pub above : (u : ℕ) → w ≤ u → u < size R → wire Q u ≡ without_mark (wire R u)

-- the read is of a state that stands for R
pub record Whole (R : Routine) (r : Read) : Type 0 where
  pub state : State
  pub holds : StandsFor state R
  pub is : r ≡ read_all state

-- a record that has no mark is itself without it; one that has is the marked one
bare : (x : Wire) → x.out ≡ false → without_mark x ≡ x
bare x e = ap (λ (b : Bool). record { kind = x.kind; a = x.a; b = x.b; out = b }) (sym e)

full : (x : Wire) → x.out ≡ true → with_mark (without_mark x) ≡ x
full x e = ap (λ (b : Bool). record { kind = x.kind; a = x.a; b = x.b; out = b }) (sym e)

module _ (R : Routine) (f : Formed R) where
  begun_rands : (j : ℕ) (Q : Routine) → Begun R j Q → rands_before Q (size Q) ≡ rands_before R j
  unfolding rands_before
  begun_rands j Q b =
      ap (λ (n : ℕ). tally n (λ u. is_rand (wire Q u).kind)) b.count
      ∙ tally_ext j (λ u. is_rand (wire Q u).kind) (λ u. is_rand (wire R u).kind) (λ u l. ap (λ (x : Wire). is_rand x.kind) (b.same u l))

  begun_pubs : (j : ℕ) (Q : Routine) → Begun R j Q → pubs_before Q (size Q) ≡ pubs_before R j
  unfolding pubs_before
  begun_pubs j Q b =
      ap (λ (n : ℕ). tally n (λ u. is_pub (wire Q u).kind)) b.count
      ∙ tally_ext j (λ u. is_pub (wire Q u).kind) (λ u. is_pub (wire R u).kind) (λ u l. ap (λ (x : Wire). is_pub x.kind) (b.same u l))

  begun_outs : (j : ℕ) (Q : Routine) → Begun R j Q → outputs Q ≡ 0
  unfolding outputs
  begun_outs j Q b = tally_none (size Q) (λ u. (wire Q u).out) (λ u l. ap (λ (x : Wire). x.out) (b.same u (let z = b.count in omega arith)))

  rands_room : (j : ℕ) → j < size R → rands_before R j + one (is_rand (wire R j).kind) ≤ 64
  unfolding rands_before tally
  rands_room j l = let z = f.few_rands in let y = tally_le (λ u. is_rand (wire R u).kind) (suc j) (size R) l in omega arith

  pubs_room : (j : ℕ) → j < size R → pubs_before R j + one (is_pub (wire R j).kind) ≤ 16
  unfolding pubs_before tally
  pubs_room j l = let z = f.few_pubs in let y = tally_le (λ u. is_pub (wire R u).kind) (suc j) (size R) l in omega arith

  begun_more : (j : ℕ) (Q : Routine) → Begun R j Q → Begun R (suc j) (more Q (without_mark (wire R j)))
  begun_more j Q b =
      let x = without_mark (wire R j) in
      record {
        s_same = b.s_same;
        d_same = b.d_same;
        count = let z = b.count in omega (arith, size_more Q x);
        same = λ u l. wire_cases u j
            (λ e. ap (wire (more Q x)) (e ∙ sym b.count) ∙ more_new Q x ∙ ap (λ (i : ℕ). without_mark (wire R i)) (sym e))
            (λ n. let v : u < j = omega arith in more_old Q x u (let z = b.count in omega arith) ∙ b.same u v);
      }

  wires_taken : (m j k : ℕ) (st : State) (Q : Routine) (rest : List (Option Line)) → j + m ≡ size R → R.S * R.D ≤ j → Begun R j Q → StandsFor st Q → st.low ≡ 0
      → WiresMade R (read_lines k st (wire_lines R m j ++ rest)) rest
  unfolding wire_lines made
  wires_taken zero j k st Q rest e s b h l =
      let z : j ≡ size R = omega arith in
      record { line = k; state = st; routine = Q; all_made = subst (λ (i : ℕ). Begun R i Q) z b; holds = h; low_is = l; is = refl }
  wires_taken (suc m) j k st Q rest e s b h l =
      let x = wire R j in
      let here : j < size R = omega arith in
      let c = b.count in
      let n = h.n_is in
      let hr = h.rands_are ∙ begun_rands j Q b in
      let hp = h.pubs_are ∙ begun_pubs j Q b in
      let wide = f.wide in
      let t = make_taken st j x.kind x.a x.b (omega arith) (h.outs_are ∙ begun_outs j Q b) (wire_made R f j s here) (omega arith)
      (let z = rands_room j here in omega arith) (let z = pubs_room j here in omega arith) in
      let later = wires_taken m (suc j) (k + 1) (made st x.kind x.a x.b) (more Q (without_mark x)) rest (omega arith) (omega arith)
      (begun_more j Q b) (holds_made st Q x.kind x.a x.b h (omega arith)) l in
      subst (λ (r : Read). WiresMade R r rest) (sym (next_line k st (wire_line R j) (wire_lines R m (suc j) ++ rest) (made st x.kind x.a x.b) t)) later

  -- ---- the marks, one after the other

  partly_outs : (w : ℕ) (Q : Routine) → Partly R w Q → outputs Q ≤ outputs R
  unfolding outputs
  partly_outs w Q p =
      let c = ap (λ (n : ℕ). tally n (λ u. (wire Q u).out)) p.count in
      let y = tally_mono (size R) (λ u. (wire Q u).out) (λ u. (wire R u).out) (λ u l t. by_half u l t (ltb u w) refl) in
      omega arith
    where
      by_half : (u : ℕ) → u < size R → (wire Q u).out ≡ true → (b : Bool) → ltb u w ≡ b → (wire R u).out ≡ true
      by_half u l t true e = sym (ap (λ (x : Wire). x.out) (p.below u (ltb-true u w e))) ∙ t
      by_half u l t false e = absurd (false≢true (sym (ap (λ (x : Wire). x.out) (p.above u (ltb-false u w e) l)) ∙ t))

  partly_all : (Q : Routine) → Partly R (size R) Q → Q ≡ R
  partly_all Q p =
      ap₂ (λ (s d : ℕ). record { S = s; D = d; wires = Q.wires }) p.s_same p.d_same
      ∙ ap (with_wires R) (ext_get_or blank Q.wires R.wires p.count (λ u l. p.below u (let c = p.count in omega arith)))

  partly_skip : (w : ℕ) (Q : Routine) → w < size R → (wire R w).out ≡ false → Partly R w Q → Partly R (suc w) Q
  partly_skip w Q h e p = record {
    s_same = p.s_same;
    d_same = p.d_same;
    count = p.count;
    below = λ u l. wire_cases u w (λ d. ap (wire Q) d ∙ p.above w (omega arith) h ∙ bare (wire R w) e ∙ ap (wire R) (sym d)) (λ n. p.below u (omega arith));
    above = λ u g l. p.above u (omega arith) l;
  }

  partly_mark : (w : ℕ) (Q : Routine) → w < size R → (wire R w).out ≡ true → Partly R w Q → Partly R (suc w) (marking Q w)
  partly_mark w Q h e p =
      let c = p.count in
      record {
        s_same = p.s_same;
        d_same = p.d_same;
        count = size_marking Q w ∙ c;
        below = λ u l. wire_cases u w
            (λ d. ap (wire (marking Q w)) d ∙ marking_here Q w (omega arith)
            ∙ ap with_mark (p.above w (omega arith) h) ∙ full (wire R w) e ∙ ap (wire R) (sym d))
            (λ n. marking_other Q w u n ∙ p.below u (omega arith));
        above = λ u g l. marking_other Q w u (λ d. let z : ⊥ = omega arith in z) ∙ p.above u (omega arith) l;
      }

  outs_taken : (m w k : ℕ) (st : State) (Q : Routine) → w + m ≡ size R → Partly R w Q → StandsFor st Q → st.low ≤ w → Whole R (read_lines k st (out_lines R m w))
  unfolding out_lines read_lines marked
  outs_taken zero w k st Q e p h l =
      let z : w ≡ size R = omega arith in
      record { state = st; holds = subst (StandsFor st) (partly_all Q (subst (λ (i : ℕ). Partly R i Q) z p)) h; is = refl }
  outs_taken (suc m) w k st Q e p h l =
      go (wire R w).out refl (λ j s P q g i. outs_taken m (suc w) j s P (omega arith) q g i)
    where
      go : (b : Bool) → (wire R w).out ≡ b
          → ((j : ℕ) (s : State) (P : Routine) → Partly R (suc w) P → StandsFor s P → s.low ≤ suc w → Whole R (read_lines j s (out_lines R m (suc w))))
          → Whole R (read_lines k st (cond b (Some (L.Out w) ∷ out_lines R m (suc w)) (out_lines R m (suc w))))
      go false d rec = rec k st Q (partly_skip w Q (omega arith) d p) h (omega arith)
      go true d rec =
          let c = p.count in
          let n = h.n_is in
          let o = h.outs_are in
          let here : w < size R = omega arith in
          let q = partly_mark w Q here d p in
          let before : (wire Q w).out ≡ false = ap (λ (x : Wire). x.out) (p.above w (omega arith) here) in
          let more-outs = outputs_marking Q w (omega arith) before in
          let few = partly_outs (suc w) (marking Q w) q in
          let most = f.few_outs in
          let t = mark_taken st w (omega arith) (omega arith) l in
          subst (Whole R) (sym (next_line k st (Some (L.Out w)) (out_lines R m (suc w)) (marked st w) t))
          (rec (k + 1) (marked st w) (marking Q w) q (holds_marked st Q w h (omega arith) before) (omega arith))

  -- ---- from the first line on

  begun_shares : Begun R (R.S * R.D) (only_shares R.S R.D)
  begun_shares = record {
    s_same = refl;
    d_same = refl;
    count = shares_length R.D (R.S * R.D);
    same = λ u l.
        let g = fits_place R u (wire R u).kind (wire R u).a (wire R u).b l (wire_fits R f u (let z = f.shares in omega arith)) in
        shares_wire R.S R.D f.ranged u (let z = shares_length R.D (R.S * R.D) in omega arith)
        ∙ sym (ap (λ (k : Kind). fresh k (wire R u).a (wire R u).b) g.is_share ∙ ap₂ (λ (a b : ℕ). fresh K.Share a b) g.secret g.number);
  }

  partly_none : (Q : Routine) → Begun R (size R) Q → Partly R 0 Q
  partly_none Q b = record {
    s_same = b.s_same;
    d_same = b.d_same;
    count = b.count;
    below = λ u l. let w : ⊥ = omega arith in absurd w;
    above = λ u g l. b.same u l;
  }

  wired_whole : (r : Read) → WiresMade R r (out_lines R (size R) 0) → Whole R r
  wired_whole r v =
      subst (Whole R) (sym v.is)
      (outs_taken (size R) 0 v.line v.state v.routine (omega arith) (partly_none v.routine v.all_made) v.holds
      (let z = v.low_is in omega arith))

  lines_taken : Whole R (read_lines 2 (begun R.S R.D) (wire_lines R (size R - R.S * R.D) (R.S * R.D) ++ out_lines R (size R) 0))
  unfolding begun
  lines_taken = wired_whole _
      (wires_taken (size R - R.S * R.D) (R.S * R.D) 2 (begun R.S R.D) (only_shares R.S R.D) (out_lines R (size R) 0)
      (let z = f.shares in omega arith) (omega arith) begun_shares (shares_holds R.S R.D f.ranged) refl)

  -- reading the written text is reading its lines
  pub written_read : reading (text_of R) ≡ read_of R
  unfolding reading from_first from_header text_of lines_of
  written_read =
      let t = text_of R in
      let g = texts (lines_of R) (each_writable (lines_of R) (lines_below R f)) in
      let rest = wire_lines R (size R - R.S * R.D) (R.S * R.D) ++ out_lines R (size R) 0 in
      let o = lines_taken in
      let short = text_short R f.wide in
      cond_true _ _ (and_i _ _ (lt-ltb 0 (length t) (text_some (Some (L.Head R.S R.D)) rest)) (le-leb (length t) 4096 (omega arith)))
      ∙ cond_true _ _ (and_i _ _ g.typed (eq-eqb (get_or t (length t - 1) 0) lf (text_last (Some (L.Head R.S R.D)) rest)))
      ∙ ap from_first g.back
      ∙ cond_true _ _ f.ranged
      ∙ o.is ∙ holds_read o.state R o.holds
