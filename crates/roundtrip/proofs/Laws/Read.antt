-- What is read is well-formed, and its lines are those of the text.
use Rattle.std.specs.Prelude.{◌≡◌, refl, Bool, true, false, ◌&&◌, cond, List, [], ◌∷◌, ◌++◌, ℕ, ◌+◌, ◌-◌, ◌≤◌, ◌<◌, leb, eqb, ltb, length, get_or, replicate}
use Rattle.std.proofs.Common.{sym, ap₂, ◌∙◌, append_assoc, append-nil, arith, eqb-true, ltb-true}
use Rattle.std.proofs.Math.Path.{ap, subst}
use Rattle.std.proofs.Math.Seq.{take-append_seam}
use Rattle.data.specs.declared.Wire.{Wire}
use Rattle.data.specs.declared.Line.{Line}
use Rattle.data.specs.declared.Line.TheVariants as L
use Rattle.data.specs.declared.Refusal.{Refusal}
use Rattle.data.specs.declared.Refusal.TheVariants as No
use Rattle.std.specs.Prelude.{Option, None, Some, Result, Ok, Err}
use Rattle.data.specs.declared.State.{State}
use Rattle.data.specs.declared.Read.{Read}
use Rattle.data.proofs.Laws.Tests.{both, wire_cases}
use Rattle.data.specs.Basics.{each}
use Rattle.document.specs.Routine.{Routine, size, wire, blank, outputs, in_range}
use Rattle.document.specs.Lines.{cut, heads, lines_in, text_of_lines, lf}
use Rattle.document.specs.Reading.{made, marked, take_line, not_read, read_all, onward, read_lines, begun, from_header, from_first, letter, reading, routine_in}
use Rattle.document.specs.Writing.{line_of_kind, lines_of, text_of}
use Rattle.roundtrip.specs.Texts.{Below, Each, listing_for, read_of}
use Rattle.roundtrip.proofs.Laws.Tests.{not_done, none_tally}
use Rattle.roundtrip.proofs.Laws.Cuts.{ended_text}
use Rattle.roundtrip.proofs.Laws.LineTexts.{text_lines_lem}
use Rattle.roundtrip.specs.Made.{Made}
use Rattle.roundtrip.proofs.Laws.Formed.{Formed, lines_below, each_writable}
use Rattle.roundtrip.proofs.Laws.Growing.{with_wires, more, size_more, more_old, more_new, formed_more, lines_more}
use Rattle.roundtrip.proofs.Laws.Growing.{marking, size_marking, marking_other, outputs_marking, formed_marking, lines_marking}
use Rattle.roundtrip.proofs.Laws.States.{StandsFor, fresh, holds_made, holds_marked, Does, makes, marks, does}
use Rattle.roundtrip.proofs.Laws.Shares.{only_shares, shares_wire, shares_holds, shares_formed, shares_lines}

-- ---- line by line

-- these lines led to the state: they are the lines of the routine it stands for, which is well-formed
pub record Known (st : State) (R : Routine) (ls : List (Option Line)) : Type 0 where
  pub holds : StandsFor st R
  pub is_formed : Formed R
  pub unmarked : (j : ℕ) → st.low ≤ j → j < size R → (wire R j).out ≡ false
  pub said : lines_of R ≡ ls

begun_known : (s d : ℕ) → in_range s d ≡ true → Known (begun s d) (only_shares s d) (Some (L.Head s d) ∷ [])
begun_known s d h = record {
  holds = shares_holds s d h;
  is_formed = shares_formed s d h;
  unmarked = λ j g l. ap (λ (x : Wire). x.out) (shares_wire s d h j l);
  said = shares_lines s d h;
}

-- some routine is known of the state
pub record Stands (st : State) (ls : List (Option Line)) : Type 0 where
  pub routine : Routine
  pub known : Known st routine ls

no_outs : (R : Routine) → outputs R ≡ 0 → (j : ℕ) → j < size R → (wire R j).out ≡ false
unfolding outputs
no_outs R h = none_tally (size R) (λ u. (wire R u).out) h

-- one line more was said, and the routine has grown by it
does_known : (st : State) (R : Routine) (ls : List (Option Line)) (l : Option Line) (st' : State) → Known st R ls → Does st l st' → Stands st' (ls ++ l ∷ [])
unfolding made marked
does_known st R ls l st' g (makes k a b o m n r p q e) =
    let x = fresh k a b in
    let h = g.holds in
    let f = g.is_formed in
    let hn = h.n_is in
    let hr = h.rands_are in
    let hp = h.pubs_are in
    let room : size R < 128 = omega arith in
    let fitting : Made (size R) k a b = subst (λ (i : ℕ). Made i k a b) hn m in
    let none = no_outs R (sym h.outs_are ∙ o) in
    subst (λ (s : State). Stands s (ls ++ l ∷ [])) (sym e) (record {
      routine = more R x;
      known = record {
        holds = holds_made st R k a b h room;
        is_formed = formed_more R x f fitting refl room (omega arith) (omega arith);
        unmarked = λ j i v. wire_cases j (size R) (λ d. ap (λ (u : ℕ). (wire (more R x) u).out) d ∙ ap (λ (y : Wire). y.out) (more_new R x))
            (λ d. let u : j < size R = omega (arith, size_more R x) in ap (λ (y : Wire). y.out) (more_old R x j u) ∙ none j u);
        said = lines_more R x f fitting refl none ∙ ap₂ (λ (v : List (Option Line)) (i : Option Line). v ++ i ∷ []) g.said (sym (q ∙ ap (λ (i : ℕ). line_of_kind i k a b) hn));
      };
    })
does_known st R ls l st' g (marks w o n low q e) =
    let h = g.holds in
    let hn = h.n_is in
    let ho = h.outs_are in
    let here : w < size R = omega arith in
    let before : (wire R w).out ≡ false = g.unmarked w low here in
    subst (λ (s : State). Stands s (ls ++ l ∷ [])) (sym e) (record {
      routine = marking R w;
      known = record {
        holds = holds_marked st R w h here before;
        is_formed = formed_marking R w here g.is_formed (omega (arith, outputs_marking R w here before));
        unmarked = λ j i v. ap (λ (y : Wire). y.out) (marking_other R w j (λ d. let z : ⊥ = omega arith in z))
            ∙ g.unmarked j (omega arith) (omega (arith, size_marking R w));
        said = lines_marking R w here (λ j i v. g.unmarked j (omega arith) v) ∙ ap₂ (λ (v : List (Option Line)) (i : Option Line). v ++ i ∷ []) g.said (sym q);
      };
    })

-- the read is of a state that these lines led to
pub record Reached (r : Read) (ls : List (Option Line)) : Type 0 where
  pub state : State
  pub routine : Routine
  pub known : Known state routine ls
  pub is : r ≡ read_all state

lines_reached : (k : ℕ) (st : State) (R : Routine) (ls more-ls : List (Option Line))
    → Known st R ls → (read_lines k st more-ls).outcome ≡ Ok tt → Reached (read_lines k st more-ls) (ls ++ more-ls)
unfolding read_lines
lines_reached k st R ls [] g h = record { state = st; routine = R; known = subst (Known st R) (sym (append-nil ls)) g; is = refl }
lines_reached k st R ls (l ∷ rest) g h =
    go (take_line st l) refl (λ next R' g' h'. lines_reached (k + 1) next R' (ls ++ l ∷ []) rest g' h') h
  where
    go : (o : Result State Refusal) → take_line st l ≡ o
        → ((next : State) (R' : Routine) → Known next R' (ls ++ l ∷ []) → (read_lines (k + 1) next rest).outcome ≡ Ok tt
        → Reached (read_lines (k + 1) next rest) ((ls ++ l ∷ []) ++ rest))
        → (onward o k (λ next. read_lines (k + 1) next rest)).outcome ≡ Ok tt
        → Reached (onward o k (λ next. read_lines (k + 1) next rest)) (ls ++ l ∷ rest)
    go (Err f) e rec h = not_done h
    go (Ok next) e rec h =
        let s = does_known st R ls l next g (does st l next e) in
        subst (Reached (read_lines (k + 1) next rest)) (append_assoc ls (l ∷ []) rest) (rec next s.routine s.known h)

-- ---- the whole text

-- the test passed, if the text was read
tested : (b : Bool) (f : Refusal) (k : ℕ) (r : Read) → (cond b r (not_read f k)).outcome ≡ Ok tt → (b ≡ true) × (cond b r (not_read f k) ≡ r)
tested true f k r h = (refl, refl)
tested false f k r h = not_done h

head_reached : (l : Option Line) (ls : List (Option Line)) → (from_header l ls).outcome ≡ Ok tt → Reached (from_header l ls) (l ∷ ls)
unfolding from_header
head_reached None ls h = not_done h
head_reached (Some (L.Rand w)) ls h = not_done h
head_reached (Some (L.Pub w)) ls h = not_done h
head_reached (Some (L.Xor w a b)) ls h = not_done h
head_reached (Some (L.And w a b)) ls h = not_done h
head_reached (Some (L.Not w a)) ls h = not_done h
head_reached (Some (L.Out w)) ls h = not_done h
head_reached (Some (L.Head s d)) ls h =
    let t = tested (in_range s d) No.Range 1 (read_lines 2 (begun s d) ls) h in
    subst (λ (r : Read). Reached r (Some (L.Head s d) ∷ ls)) (sym t.1)
    (lines_reached 2 (begun s d) (only_shares s d) (Some (L.Head s d) ∷ []) ls (begun_known s d t.0) (sym (ap (λ (r : Read). r.outcome) t.1) ∙ h))

first_reached : (ls : List (Option Line)) → (from_first ls).outcome ≡ Ok tt → Reached (from_first ls) ls
unfolding from_first
first_reached [] h = not_done h
first_reached (l ∷ ls) h = head_reached l ls h

-- what is true of a text that was read
pub record ReadWhole (t : List ℕ) : Type 0 where
  pub some : 0 < length t
  pub shut : get_or t (length t - 1) 0 ≡ lf
  pub reached : Reached (reading t) (lines_in t)

pub accepted : (t : List ℕ) → (reading t).outcome ≡ Ok tt → ReadWhole t
unfolding reading
accepted t h =
    let typed = each letter t && eqb (get_or t (length t - 1) 0) lf in
    let a = tested (ltb 0 (length t) && leb (length t) 4096) No.Length 0 (cond typed (from_first (lines_in t)) (not_read No.Byte 0)) h in
    let h' = sym (ap (λ (r : Read). r.outcome) a.1) ∙ h in
    let b = tested typed No.Byte 0 (from_first (lines_in t)) h' in
    let h'' = sym (ap (λ (r : Read). r.outcome) b.1) ∙ h' in
    record {
      some = ltb-true 0 (length t) (both (ltb 0 (length t)) (leb (length t) 4096) a.0).0;
      shut = eqb-true (get_or t (length t - 1) 0) lf (both (each letter t) (eqb (get_or t (length t - 1) 0) lf) b.0).1;
      reached = subst (λ (r : Read). Reached r (lines_in t)) (sym (a.1 ∙ b.1)) (first_reached (lines_in t) h'');
    }

-- ---- what follows of it

pub routine_of_read : (R : Routine) → routine_in (listing_for R) ≡ R
routine_of_read R = ap (with_wires R) (take-append_seam R.wires (replicate (128 - size R) blank))

abbrev read_with : ℕ → ℕ → ℕ → List Wire → Read
read_with s d n vs = record { outcome = Ok tt; line = 0; listing = record { shape = record { s = s; d = d; n = n }; wires = vs } }

pub holds_read : (st : State) (R : Routine) → StandsFor st R → read_all st ≡ read_of R
holds_read st R h =
    ap₂ (λ (s d : ℕ). read_with s d st.n st.wires) h.s_is h.d_is
    ∙ ap₂ (λ (n : ℕ) (vs : List Wire). read_with R.S R.D n vs) h.n_is h.wires_are

-- of a text with what its lines led to
module _ (t : List ℕ) (whole : ReadWhole t) where
  abbrev reach : Reached (reading t) (lines_in t)
  reach = whole.reached

  routine_is : routine_in (reading t).listing ≡ reach.routine
  routine_is =
      ap (λ (r : Read). routine_in r.listing) (reach.is ∙ holds_read reach.state reach.routine reach.known.holds)
      ∙ routine_of_read reach.routine

  formed_by : Formed (routine_in (reading t).listing)
  formed_by = subst Formed (sym routine_is) reach.known.is_formed

  lines_by : lines_of (routine_in (reading t).listing) ≡ lines_in t
  lines_by = ap lines_of routine_is ∙ reach.known.said

  whole_by : reading t ≡ read_of (routine_in (reading t).listing)
  whole_by = reach.is ∙ holds_read reach.state reach.routine reach.known.holds ∙ ap (λ (R : Routine). read_of R) (sym routine_is)

  text_by : text_of (routine_in (reading t).listing) ≡ t
  unfolding text_of
  text_by =
      let below : Each (Below 128) (lines_in t) = subst (Each (Below 128)) lines_by (lines_below (routine_in (reading t).listing) formed_by) in
      ap text_of_lines lines_by ∙ text_lines_lem (heads (cut lf t)) (each_writable (lines_in t) below) ∙ ended_text t whole.some whole.shut

module _ (t : List ℕ) (h : (reading t).outcome ≡ Ok tt) where
  pub read_formed : Formed (routine_in (reading t).listing)
  read_formed = formed_by t (accepted t h)

  pub read_lines_lem : lines_of (routine_in (reading t).listing) ≡ lines_in t
  read_lines_lem = lines_by t (accepted t h)

  pub read_whole : reading t ≡ read_of (routine_in (reading t).listing)
  read_whole = whole_by t (accepted t h)

  pub read_text : text_of (routine_in (reading t).listing) ≡ t
  read_text = text_by t (accepted t h)
