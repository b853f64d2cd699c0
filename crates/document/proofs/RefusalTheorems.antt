-- What is proved of the refusals (section 7 of docs/SPECIFICATION.md): their numbers, call by call, and what a refused call gives and leaves.
use Rattle.std.specs.Prelude.{◌≡◌, refl, Bool, true, false, ◌&&◌, cond, ◌≢◌, List, [], ◌∷◌, ℕ, suc, ◌+◌, ◌-◌, eqb, ltb, leb, length, get_or, replicate}
use Rattle.std.proofs.Common.{sym, ap, ◌∙◌, true≢false}
use Rattle.data.specs.Basics.{each}
use Rattle.data.specs.Refusals.{outcome_number}
use Rattle.document.specs.Routine.{size, in_range, well_formed, routine_of, records_fit}
use Rattle.document.specs.Lines.{lf, lines_in}
use Rattle.document.specs.Reading.{is_next, earlier, has_room, make, mark_out, take_line, outcome_of, blanks, not_read, onward, read_lines, begun}
use Rattle.document.specs.Reading.{from_header, from_first, letter, reading}
use Rattle.document.specs.Writing.{text_of, write_refusal, written, written_into}
use Rattle.document.specs.Running.{bits_fit, run_refusal, ran, ran_into}
use Rattle.data.specs.ProbeSets.{held, empty_set, may_add, adding}
use Rattle.document.specs.Padding.{steps}
use Rattle.document.specs.Judgements.{Judgement, first_open, judgement, order_fits, probes_fit, judged, set_refusal}
use Rattle.document.specs.Judgements.{told, needing, no_step, padding, step_list}
use Rattle.document.specs.Lent.{read_for, filled_with, lent_read, lent_read_into, lent, lent_written, lent_written_into, lent_ran, lent_ran_into}
use Rattle.document.specs.Lent.{lent_needing, lent_padding, lent_judged}
use Rattle.data.proofs.Laws.Tests.{cond_cases, cond_both, cond_of, cond_and}
use Rattle.data.specs.declared.Refusal.{Refusal}
use Rattle.data.specs.declared.Refusal.TheVariants as No
use Rattle.data.specs.Refusals.{Outcome}
use Rattle.std.specs.Prelude.{Option, None, Some, Result, Ok, Err}
use Rattle.data.specs.declared.Verdict.TheVariants as Says
use Rattle.data.specs.declared.Verdict.{Verdict}
use Rattle.data.specs.declared.Kind.{Kind}
use Rattle.data.specs.declared.Line.{Line}
use Rattle.data.specs.declared.Line.TheVariants as L
use Rattle.data.specs.declared.Wire.{Wire}
use Rattle.data.specs.declared.Shape.{Shape}
use Rattle.data.specs.declared.State.{State}
use Rattle.data.specs.declared.Read.{Read}
use Rattle.data.specs.declared.Listing.{Listing}
use Rattle.data.specs.declared.Written.{Written}
use Rattle.data.specs.declared.Ran.{Ran}
use Rattle.data.specs.declared.ProbeSet.{ProbeSet}
use Rattle.data.specs.declared.Added.{Added}
use Rattle.data.specs.declared.Needed.{Needed}
use Rattle.data.specs.declared.Padded.{Padded}
use Rattle.data.specs.declared.Judged.{Judged}

-- ---- the numbers of the answers

abbrev of_read : Read → ℕ
of_read r = outcome_number r.outcome

abbrev of_taken : Result State Refusal → ℕ
of_taken r = outcome_number (outcome_of r)

abbrev of_written : Written → ℕ
of_written r = outcome_number r.outcome

abbrev of_ran : Ran → ℕ
of_ran r = outcome_number r.outcome

abbrev of_added : Added → ℕ
of_added r = outcome_number r.outcome

abbrev of_needed : Needed → ℕ
of_needed r = outcome_number r.outcome

abbrev of_padded : Padded → ℕ
of_padded r = outcome_number r.outcome

abbrev of_judged : Judged → ℕ
of_judged r = (told r.verdict).number

-- ---- reading

-- 7.1, 7.2, 7.18: 1 for the length, then 2 for the bytes; what comes then is up to the lines
pub reading_number : (text : List ℕ) → outcome_number (reading text).outcome
    ≡ cond (ltb 0 (length text) && leb (length text) 4096)
    (cond (each letter text && eqb (get_or text (length text - 1) 0) lf) (outcome_number (from_first (lines_in text)).outcome) 2) 1
unfolding reading
reading_number text =
    let a = ltb 0 (length text) && leb (length text) 4096 in
    cond_of of_read a _ _ ∙ ap (λ (k : ℕ). cond a k 1) (cond_of of_read (each letter text && eqb (get_or text (length text - 1) 0) lf) _ _)

-- 7.3: 3 where the first line is no header
pub no_header_number : (l : Option Line) (ls : List (Option Line)) → ((s d : ℕ) → l ≢ Some (L.Head s d)) → outcome_number (from_first (l ∷ ls)).outcome ≡ 3
unfolding from_first from_header
no_header_number (Some (L.Head s d)) ls other = absurd (other s d refl)
no_header_number None ls other = refl
no_header_number (Some (L.Rand w)) ls other = refl
no_header_number (Some (L.Pub w)) ls other = refl
no_header_number (Some (L.Xor w a b)) ls other = refl
no_header_number (Some (L.And w a b)) ls other = refl
no_header_number (Some (L.Not w a)) ls other = refl
no_header_number (Some (L.Out w)) ls other = refl

-- 7.4: 4 for S or D out of range; what comes then is up to the later lines
pub header_number : (s d : ℕ) (ls : List (Option Line))
    → outcome_number (from_first (Some (L.Head s d) ∷ ls)).outcome ≡ cond (in_range s d) (outcome_number (read_lines 2 (begun s d) ls).outcome) 4
unfolding from_first from_header
header_number s d ls = cond_of of_read (in_range s d) _ _

-- 7.5: 5 for a line of no form, and for a second header
pub form_number : (st : State) (s d : ℕ) → (outcome_number (outcome_of (take_line st None)) ≡ 5) × (outcome_number (outcome_of (take_line st (Some (L.Head s d)))) ≡ 5)
unfolding take_line
form_number st s d = (refl, refl)

-- 7.6 to 7.8: of a wire line 6 for its number, then 7 for its operands, then 8 for a ceiling
pub wire_number : (st : State) (w : ℕ) (k : Kind) (a b : ℕ)
    → outcome_number (outcome_of (make st w k a b)) ≡ cond (is_next st w) (cond (earlier w k a b) (cond (has_room st k) 0 8) 7) 6
unfolding make
wire_number st w k a b =
    cond_of of_taken (is_next st w) _ _
    ∙ ap (λ (n : ℕ). cond (is_next st w) n 6)
    (cond_of of_taken (earlier w k a b) _ _ ∙ ap (λ (n : ℕ). cond (earlier w k a b) n 7) (cond_of of_taken (has_room st k) _ _))

-- 7.8, 7.9: of an `out` line 8 for the 65th output, then 9 for its wire
pub out_number : (st : State) (w : ℕ)
    → outcome_number (outcome_of (mark_out st w)) ≡ cond (ltb st.outs 64) (cond (ltb w st.n && leb st.low w) 0 9) 8
unfolding mark_out
out_number st w =
    cond_of of_taken (ltb st.outs 64) _ _ ∙ ap (λ (n : ℕ). cond (ltb st.outs 64) n 8) (cond_of of_taken (ltb w st.n && leb st.low w) _ _)

-- 7.10, 7.18: into a lent list, 10 for its length before anything else
pub read_number : (text : List ℕ) (list : List Wire)
    → outcome_number (lent_read text list).outcome ≡ cond (leb 128 (length list)) (outcome_number (reading text).outcome) 10
unfolding lent_read read_for
read_number text list = cond_of of_read (leb 128 (length list)) _ _

-- 7.23: a refused read gives 0 as S, D and n, and blank records
abbrev no_sizes : Shape
no_sizes = record { s = 0; d = 0; n = 0 }

abbrev ReadsNothing : Read → Type 0
ReadsNothing r = outcome_number r.outcome ≢ 0 → (r.listing.shape ≡ no_sizes) × (r.listing.wires ≡ blanks)

lines_nothing : (k : ℕ) (st : State) (ls : List (Option Line)) → ReadsNothing (read_lines k st ls)
unfolding read_lines
lines_nothing k st [] = λ h. absurd (h refl)
lines_nothing k st (l ∷ ls) = go (take_line st l) (λ next. read_lines (k + 1) next ls) (λ next. lines_nothing (k + 1) next ls)
  where
    go : (o : Result State Refusal) (rest : State → Read) → ((next : State) → ReadsNothing (rest next)) → ReadsNothing (onward o k rest)
    go (Ok next) rest r = r next
    go (Err f) rest r = λ _. (refl, refl)

header_nothing : (l : Option Line) (ls : List (Option Line)) → ReadsNothing (from_header l ls)
unfolding from_header
header_nothing (Some (L.Head s d)) ls = cond_cases ReadsNothing (in_range s d) _ _ (λ _. lines_nothing 2 (begun s d) ls) (λ _ _. (refl, refl))
header_nothing None ls = λ _. (refl, refl)
header_nothing (Some (L.Rand w)) ls = λ _. (refl, refl)
header_nothing (Some (L.Pub w)) ls = λ _. (refl, refl)
header_nothing (Some (L.Xor w a b)) ls = λ _. (refl, refl)
header_nothing (Some (L.And w a b)) ls = λ _. (refl, refl)
header_nothing (Some (L.Not w a)) ls = λ _. (refl, refl)
header_nothing (Some (L.Out w)) ls = λ _. (refl, refl)

first_nothing : (ls : List (Option Line)) → ReadsNothing (from_first ls)
unfolding from_first
first_nothing [] = λ _. (refl, refl)
first_nothing (l ∷ ls) = header_nothing l ls

pub refused_reading : (text : List ℕ) → outcome_number (reading text).outcome ≢ 0
    → ((reading text).listing.shape ≡ record { s = 0; d = 0; n = 0 }) × ((reading text).listing.wires ≡ blanks)
unfolding reading
refused_reading text =
    cond_cases ReadsNothing (ltb 0 (length text) && leb (length text) 4096) _ _
    (λ _. cond_cases ReadsNothing (each letter text && eqb (get_or text (length text - 1) 0) lf) _ _ (λ _. first_nothing (lines_in text)) (λ _ _. (refl, refl)))
    (λ _ _. (refl, refl))

-- 6.13, 7.23: into a lent list too, and the list keeps its content
pub refused_read : (text : List ℕ) (list : List Wire) → outcome_number (lent_read text list).outcome ≢ 0
    → ((lent_read text list).shape ≡ record { s = 0; d = 0; n = 0 }) × (lent_read_into text list ≡ list)
unfolding lent_read lent_read_into read_for
refused_read text list h =
    let r = cond (leb 128 (length list)) (reading text) (not_read No.Lent 0) in (
      (cond_cases ReadsNothing (leb 128 (length list)) _ _ (λ _. refused_reading text) (λ _ _. (refl, refl)) h).0,
      go r.outcome r.listing h,
    )
  where
    go : (o : Outcome) (l : Listing) → outcome_number o ≢ 0 → filled_with o l list ≡ list
    go (Ok u) l h = absurd (h refl)
    go (Err f) l h = refl

-- ---- writing and running

-- 7.11, 7.15, 7.19: of a writing 11, then 15
pub write_number : (σ : Shape) (ws : List Wire) (buffer : List ℕ) → outcome_number (lent_written σ ws buffer).outcome
    ≡ cond (records_fit σ ws) (cond (leb (length (text_of (routine_of σ ws))) (length buffer)) 0 15) 11
unfolding lent_written lent written write_refusal records_fit
write_number σ ws buffer =
    cond_and of_written (leb σ.n (length ws)) (well_formed (routine_of σ ws)) _ _
    ∙ ap (λ (k : ℕ). cond (records_fit σ ws) k 11) (cond_of of_written (leb (length (text_of (routine_of σ ws))) (length buffer)) _ _)

-- 6.13, 7.24: refused, it gives the length 0 and leaves the buffer as it was
pub refused_write : (σ : Shape) (ws : List Wire) (buffer : List ℕ) → outcome_number (lent_written σ ws buffer).outcome ≢ 0
    → ((lent_written σ ws buffer).len ≡ 0) × (lent_written_into σ ws buffer ≡ buffer)
unfolding lent_written lent_written_into lent written written_into write_refusal
refused_write σ ws buffer =
    cond_both Q (leb σ.n (length ws)) _ _ _ _
    (cond_both Q (well_formed (routine_of σ ws)) _ _ _ _
    (cond_both Q (leb (length (text_of (routine_of σ ws))) (length buffer)) _ _ _ _ (λ h. absurd (h refl)) (λ _. (refl, refl))) (λ _. (refl, refl)))
    (λ _. (refl, refl))
  where
    Q : Written → List ℕ → Type 0
    Q r after = outcome_number r.outcome ≢ 0 → (r.len ≡ 0) × (after ≡ buffer)

-- 7.11, 7.14, 7.15, 7.20: of a run 11, then 14, then 15
pub run_number : (σ : Shape) (ws : List Wire) (shares randoms publics : ℕ) (buffer : List ℕ)
    → outcome_number (lent_ran σ ws shares randoms publics buffer).outcome
    ≡ cond (records_fit σ ws) (cond (bits_fit (routine_of σ ws) shares randoms publics) (cond (leb (size (routine_of σ ws)) (length buffer)) 0 15) 14) 11
unfolding lent_ran lent ran run_refusal records_fit
run_number σ ws shares randoms publics buffer =
    let c = bits_fit (routine_of σ ws) shares randoms publics in
    cond_and of_ran (leb σ.n (length ws)) (well_formed (routine_of σ ws)) _ _
    ∙ ap (λ (k : ℕ). cond (records_fit σ ws) k 11)
    (cond_of of_ran c _ _ ∙ ap (λ (k : ℕ). cond c k 14) (cond_of of_ran (leb (size (routine_of σ ws)) (length buffer)) _ _))

-- 6.13, 7.24: refused, it gives the length 0 and leaves the buffer as it was
pub refused_run : (σ : Shape) (ws : List Wire) (shares randoms publics : ℕ) (buffer : List ℕ)
    → outcome_number (lent_ran σ ws shares randoms publics buffer).outcome ≢ 0
    → ((lent_ran σ ws shares randoms publics buffer).len ≡ 0) × (lent_ran_into σ ws shares randoms publics buffer ≡ buffer)
unfolding lent_ran lent_ran_into lent ran ran_into run_refusal
refused_run σ ws shares randoms publics buffer =
    cond_both Q (leb σ.n (length ws)) _ _ _ _
    (cond_both Q (well_formed (routine_of σ ws)) _ _ _ _
    (cond_both Q (bits_fit (routine_of σ ws) shares randoms publics) _ _ _ _
    (cond_both Q (leb (size (routine_of σ ws)) (length buffer)) _ _ _ _ (λ h. absurd (h refl)) (λ _. (refl, refl))) (λ _. (refl, refl))) (λ _. (refl, refl)))
    (λ _. (refl, refl))
  where
    Q : Ran → List ℕ → Type 0
    Q r after = outcome_number r.outcome ≢ 0 → (r.len ≡ 0) × (after ≡ buffer)

-- ---- probe sets

-- 7.13: an addition is refused with 13
pub add_number : (s : ProbeSet) (w : ℕ) → outcome_number (adding s w).outcome ≡ cond (may_add s w) 0 13
unfolding adding
add_number s w = cond_of of_added (may_add s w) _ _

-- 7.27: and gives back the set that it got
pub refused_add : (s : ProbeSet) (w : ℕ) → outcome_number (adding s w).outcome ≢ 0 → (adding s w).set ≡ s
unfolding adding
refused_add s w =
    cond_cases (λ (r : Added). outcome_number r.outcome ≢ 0 → r.set ≡ s) (may_add s w) _ _ (λ _ h. absurd (h refl)) (λ _ _. refl)

-- ---- the calls on one set

-- 7.22: 11, then 12, then 13
abbrev set_number : Shape → List Wire → ℕ → ProbeSet → ℕ → ℕ
set_number σ ws t s later = cond (records_fit σ ws) (cond (order_fits (routine_of σ ws) t) (cond (probes_fit (routine_of σ ws) t s) later 13) 12) 11

-- 7.11 to 7.13, 7.22
pub needs_number : (σ : Shape) (ws : List Wire) (t : ℕ) (s : ProbeSet) → outcome_number (lent_needing σ ws t s).outcome ≡ set_number σ ws t s 0
unfolding lent_needing lent needing set_refusal records_fit
needs_number σ ws t s =
    let c = order_fits (routine_of σ ws) t in
    cond_and of_needed (leb σ.n (length ws)) (well_formed (routine_of σ ws)) _ _
    ∙ ap (λ (k : ℕ). cond (records_fit σ ws) k 11)
    (cond_of of_needed c _ _ ∙ ap (λ (k : ℕ). cond c k 12) (cond_of of_needed (probes_fit (routine_of σ ws) t s) _ _))

-- 7.11 to 7.13, 7.16, 7.22: and 16 last
pub pads_number : (σ : Shape) (ws : List Wire) (t : ℕ) (s : ProbeSet)
    → outcome_number (lent_padding σ ws t s).outcome ≡ set_number σ ws t s (cond (leb (length (steps (routine_of σ ws) (held s))) 128) 0 16)
unfolding lent_padding lent padding set_refusal step_list records_fit
pads_number σ ws t s =
    let c = order_fits (routine_of σ ws) t in
    let d = probes_fit (routine_of σ ws) t s in
    cond_and of_padded (leb σ.n (length ws)) (well_formed (routine_of σ ws)) _ _
    ∙ ap (λ (k : ℕ). cond (records_fit σ ws) k 11)
    (cond_of of_padded c _ _ ∙ ap (λ (k : ℕ). cond c k 12)
    (cond_of of_padded d _ _ ∙ ap (λ (k : ℕ). cond d k 13) (cond_of of_padded (leb (length (steps (routine_of σ ws) (held s))) 128) _ _)))

-- 7.26: refused, the word is 0 and the flag is false
pub refused_needs : (σ : Shape) (ws : List Wire) (t : ℕ) (s : ProbeSet) → outcome_number (lent_needing σ ws t s).outcome ≢ 0
    → ((lent_needing σ ws t s).shares ≡ 0) × ((lent_needing σ ws t s).undecided ≡ false)
unfolding lent_needing lent needing set_refusal
refused_needs σ ws t s =
    cond_cases Q (leb σ.n (length ws)) _ _
    (λ _. cond_cases Q (well_formed (routine_of σ ws)) _ _
    (λ _. cond_cases Q (order_fits (routine_of σ ws) t) _ _
    (λ _. cond_cases Q (probes_fit (routine_of σ ws) t s) _ _ (λ _ h. absurd (h refl)) (λ _ _. (refl, refl))) (λ _ _. (refl, refl))) (λ _ _. (refl, refl)))
    (λ _ _. (refl, refl))
  where
    Q : Needed → Type 0
    Q r = outcome_number r.outcome ≢ 0 → (r.shares ≡ 0) × (r.undecided ≡ false)

-- 7.26: refused, the length is 0, each pair is (0, 0) and the flag is false
pub refused_pads : (σ : Shape) (ws : List Wire) (t : ℕ) (s : ProbeSet) → outcome_number (lent_padding σ ws t s).outcome ≢ 0
    → ((lent_padding σ ws t s).len ≡ 0) × ((lent_padding σ ws t s).steps ≡ replicate 128 no_step) × ((lent_padding σ ws t s).undecided ≡ false)
unfolding lent_padding lent padding set_refusal step_list
refused_pads σ ws t s =
    cond_cases Q (leb σ.n (length ws)) _ _
    (λ _. cond_cases Q (well_formed (routine_of σ ws)) _ _
    (λ _. cond_cases Q (order_fits (routine_of σ ws) t) _ _
    (λ _. cond_cases Q (probes_fit (routine_of σ ws) t s) _ _
    (λ _. cond_cases Q (leb (length (steps (routine_of σ ws) (held s))) 128) _ _ (λ _ h. absurd (h refl)) (λ _ _. (refl, refl, refl)))
    (λ _ _. (refl, refl, refl))) (λ _ _. (refl, refl, refl))) (λ _ _. (refl, refl, refl)))
    (λ _ _. (refl, refl, refl))
  where
    Q : Padded → Type 0
    Q r = outcome_number r.outcome ≢ 0 → (r.len ≡ 0) × (r.steps ≡ replicate 128 no_step) × (r.undecided ≡ false)

-- ---- the judgements

-- 7.28: what a verdict says tells which it is
pub told_pass : (v : Verdict) → (told v).passes ≡ true → v ≡ Says.Pass (told v).count
told_pass (Says.Pass k) h = refl
told_pass (Says.Open k) h = absurd (true≢false (sym h))
told_pass (Says.Refused f) h = absurd (true≢false (sym h))

pub told_open : (v : Verdict) → (told v).opens ≡ true → v ≡ Says.Open (told v).count
told_open (Says.Pass k) h = absurd (true≢false (sym h))
told_open (Says.Open k) h = refl
told_open (Says.Refused f) h = absurd (true≢false (sym h))

-- a judgement that is made is no refusal
made_number : (opens : List ℕ → Bool) (k : ℕ) (ss : List (List ℕ)) → (told (first_open opens k ss).verdict).number ≡ 0
unfolding first_open
made_number opens k [] = refl
made_number opens k (s ∷ ss) = cond_cases (λ (r : Judged). of_judged r ≡ 0) (opens s) _ _ (λ _. refl) (λ _. made_number opens (suc k) ss)

-- 7.11, 7.12, 7.21: 11, then 12
pub judge_number : (J : Judgement) (σ : Shape) (ws : List Wire) (t : ℕ)
    → (told (lent_judged J σ ws t).verdict).number ≡ cond (records_fit σ ws) (cond (order_fits (routine_of σ ws) t) 0 12) 11
unfolding lent_judged lent judged judgement records_fit
judge_number J σ ws t =
    let c = order_fits (routine_of σ ws) t in
    cond_and of_judged (leb σ.n (length ws)) (well_formed (routine_of σ ws)) _ _
    ∙ ap (λ (k : ℕ). cond (records_fit σ ws) k 11) (cond_of of_judged c _ _ ∙ ap (λ (k : ℕ). cond c k 12) (made_number _ 0 _))

-- 5.15, 7.25: refused, the count is 0 and the set is empty
pub refused_judge : (J : Judgement) (σ : Shape) (ws : List Wire) (t : ℕ) → (told (lent_judged J σ ws t).verdict).number ≢ 0
    → ((told (lent_judged J σ ws t).verdict).count ≡ 0) × ((lent_judged J σ ws t).set ≡ empty_set)
unfolding lent_judged lent judged judgement
refused_judge J σ ws t =
    cond_cases Q (leb σ.n (length ws)) _ _
    (λ _. cond_cases Q (well_formed (routine_of σ ws)) _ _
    (λ _. cond_cases Q (order_fits (routine_of σ ws) t) _ _ (λ _ h. absurd (h (made_number _ 0 _))) (λ _ _. (refl, refl))) (λ _ _. (refl, refl)))
    (λ _ _. (refl, refl))
  where
    Q : Judged → Type 0
    Q r = (told r.verdict).number ≢ 0 → ((told r.verdict).count ≡ 0) × (r.set ≡ empty_set)

-- 5.15: a pass has the empty set too
passed_empty : (opens : List ℕ → Bool) (k : ℕ) (ss : List (List ℕ)) → (told (first_open opens k ss).verdict).opens ≡ false
    → (first_open opens k ss).set ≡ empty_set
unfolding first_open
passed_empty opens k [] h = refl
passed_empty opens k (s ∷ ss) h =
    cond_cases (λ (r : Judged). (told r.verdict).opens ≡ false → r.set ≡ empty_set) (opens s) _ _
    (λ _ h. absurd (true≢false h)) (λ _. passed_empty opens (suc k) ss) h

pub not_open_empty : (J : Judgement) (σ : Shape) (ws : List Wire) (t : ℕ) → (told (lent_judged J σ ws t).verdict).opens ≡ false
    → (lent_judged J σ ws t).set ≡ empty_set
unfolding lent_judged lent judged judgement
not_open_empty J σ ws t =
    cond_cases Q (leb σ.n (length ws)) _ _
    (λ _. cond_cases Q (well_formed (routine_of σ ws)) _ _
    (λ _. cond_cases Q (order_fits (routine_of σ ws) t) _ _ (λ _. passed_empty _ 0 _) (λ _ _. refl)) (λ _ _. refl))
    (λ _ _. refl)
  where
    Q : Judged → Type 0
    Q r = (told r.verdict).opens ≡ false → r.set ≡ empty_set
