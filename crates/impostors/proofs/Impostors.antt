-- Impostors: calls that refuse everything, always or never say open, make no padding step or only the first, or invent a count. What a call
-- would answer is a function f, and its contract asks that f answers each input so: the theorems say of each impostor that it does not.
-- They speak of the calls over a lent list, of lists of any length; the calls on values cite the same definitions.
use Rattle.std.specs.Prelude.{◌≡◌, Bool, true, false, ℕ, ◌≤◌, ltb, replicate}
use Rattle.std.proofs.Math.Path.{sym, ap}
use Rattle.std.proofs.Common.{◌∙◌, arith}
use Rattle.std.proofs.Math.Bool.{true≢false}
use mathlib.Core.List.{List, [], ◌∷◌}
use Rattle.std.proofs.Math.ListN.{get_or}
use Rattle.document.specs.Reading.{blanks}
use Rattle.data.specs.Refusals.{outcome_number}
use Rattle.data.specs.ProbeSets.{set_of}
use Rattle.document.specs.Judgements.{Judgement, plain, strong, told, step_list}
use Rattle.document.specs.Lent.{lent_read, lent_read_into, lent_written, lent_written_into, lent_ran, lent_ran_into, lent_needing, lent_padding, lent_judged}
use Rattle.data.specs.declared.Judged.{Judged}
use Rattle.data.specs.declared.Needed.{Needed}
use Rattle.data.specs.Refusals.{Outcome}
use Rattle.std.specs.Prelude.{Ok}
use Rattle.data.specs.declared.Padded.{Padded}
use Rattle.data.specs.declared.ProbeSet.{ProbeSet}
use Rattle.data.specs.declared.Ran.{Ran}
use Rattle.data.specs.declared.Wire.{Wire}
use Rattle.data.specs.declared.Written.{Written}
use Rattle.document.proofs.Examples.{example_a, example_b}
use Rattle.data.specs.declared.Filled.{Filled}
use Rattle.data.specs.declared.Shape.{Shape}
use Rattle.reader.proofs.Laws.TextExamples.{bytes}
use Rattle.impostors.proofs.Laws.Worked.{sized, list_a, list_b, sum, pair, bare, text_bare, shares_after, opens_after}
use Rattle.impostors.proofs.Laws.Worked.{worked_plain, worked_strong, worked_needs, worked_pads, too_few_steps, too_few_open}
use Rattle.impostors.proofs.Laws.Worked.{worked_read, worked_write, worked_run}

-- no is not yes
apart : {b : Bool} → false ≡ b → true ≡ b → ⊥
apart p q = true≢false (q ∙ sym p)

-- ---- the judgements

-- f answers as the contract of a judging call asks
abbrev pub JudgesAll : Judgement → (Shape → List Wire → ℕ → Judged) → Type 0
JudgesAll J f = (σ : Shape) (list : List Wire) (t : ℕ) → f σ list t ≡ lent_judged J σ list t

module _ (f : Shape → List Wire → ℕ → Judged) where
  -- it refuses everything or always says open, and so passes nothing; or it always says pass
  abbrev pub PassesOnly : Bool → Type 0
  PassesOnly b = (σ : Shape) (list : List Wire) (t : ℕ) → (told (f σ list t).verdict).passes ≡ b

  pub plain_not_one : JudgesAll plain f → (b : Bool) → PassesOnly b → ⊥
  plain_not_one meets b one = apart
      (sym (ap (λ (j : Judged). (told j.verdict).passes) (meets (sized example_b) list_b 1 ∙ worked_plain.1)) ∙ one (sized example_b) list_b 1)
      (sym (ap (λ (j : Judged). (told j.verdict).passes) (meets (sized example_a) list_a 1 ∙ worked_plain.0)) ∙ one (sized example_a) list_a 1)

  pub strong_not_one : JudgesAll strong f → (b : Bool) → PassesOnly b → ⊥
  strong_not_one meets b one = apart
      (sym (ap (λ (j : Judged). (told j.verdict).passes) (meets (sized pair) pair.wires 2 ∙ worked_strong.1)) ∙ one (sized pair) pair.wires 2)
      (sym (ap (λ (j : Judged). (told j.verdict).passes) (meets (sized example_a) list_a 1 ∙ worked_strong.0)) ∙ one (sized example_a) list_a 1)

  -- it never says open
  pub plain_not_closed : JudgesAll plain f → ((σ : Shape) (list : List Wire) (t : ℕ) → (told (f σ list t).verdict).opens ≡ false) → ⊥
  plain_not_closed meets never =
      apart (sym (never (sized example_b) list_b 1)) (sym (ap (λ (j : Judged). (told j.verdict).opens) (meets (sized example_b) list_b 1 ∙ worked_plain.1)))

  pub strong_not_closed : JudgesAll strong f → ((σ : Shape) (list : List Wire) (t : ℕ) → (told (f σ list t).verdict).opens ≡ false) → ⊥
  strong_not_closed meets never = apart
      (sym (never (sized pair) pair.wires 2)) (sym (ap (λ (j : Judged). (told j.verdict).opens) (meets (sized pair) pair.wires 2 ∙ worked_strong.1)))

  -- it invents its count
  pub plain_count : JudgesAll plain f → (told (f (sized example_a) list_a 1).verdict).count ≡ 9
  plain_count meets = ap (λ (j : Judged). (told j.verdict).count) (meets (sized example_a) list_a 1 ∙ worked_plain.0)

  pub strong_count : JudgesAll strong f → (told (f (sized pair) pair.wires 2).verdict).count ≡ 4
  strong_count meets = ap (λ (j : Judged). (told j.verdict).count) (meets (sized pair) pair.wires 2 ∙ worked_strong.1)

-- ---- one probe set

-- the call is refused
abbrev pub refuses : Outcome → Bool
refuses o = ltb 0 (outcome_number o)

abbrev pub NeedsAll : (Shape → List Wire → ℕ → ProbeSet → Needed) → Type 0
NeedsAll f = (σ : Shape) (list : List Wire) (t : ℕ) (set : ProbeSet) → f σ list t set ≡ lent_needing σ list t set

module _ (f : Shape → List Wire → ℕ → ProbeSet → Needed) (meets : NeedsAll f) where
  none : f (sized sum) sum.wires 1 (set_of (10 ∷ [])) ≡ record { outcome = Ok tt; shares = 0; undecided = false }
  none = meets (sized sum) sum.wires 1 (set_of (10 ∷ [])) ∙ worked_needs.0

  -- it refuses everything, or nothing
  pub needs_not_one : (b : Bool) → ((σ : Shape) (list : List Wire) (t : ℕ) (set : ProbeSet) → refuses (f σ list t set).outcome ≡ b) → ⊥
  needs_not_one b one = apart
      (sym (ap (λ (a : Needed). refuses a.outcome) none) ∙ one (sized sum) sum.wires 1 (set_of (10 ∷ [])))
      (sym (ap (λ (a : Needed). refuses a.outcome) (meets (sized pair) pair.wires 0 (set_of (3 ∷ [])) ∙ worked_needs.2))
      ∙ one (sized pair) pair.wires 0 (set_of (3 ∷ [])))

  -- it always says open, or never
  pub needs_not_always : (b : Bool) → ((σ : Shape) (list : List Wire) (t : ℕ) (set : ProbeSet) → (f σ list t set).undecided ≡ b) → ⊥
  needs_not_always b always = true≢false
      (sym (ap (λ (a : Needed). a.undecided) (meets (sized pair) pair.wires 1 (set_of (3 ∷ [])) ∙ worked_needs.1))
      ∙ always (sized pair) pair.wires 1 (set_of (3 ∷ []))
      ∙ sym (always (sized sum) sum.wires 1 (set_of (10 ∷ []))) ∙ ap (λ (a : Needed). a.undecided) none)

  -- it makes no padding step, or the first alone
  pub needs_no_step : (f (sized sum) sum.wires 1 (set_of (10 ∷ []))).shares ≡ shares_after 0 sum (10 ∷ []) → ⊥
  needs_no_step e = omega (arith, e, ap (λ (a : Needed). a.shares) none, too_few_steps.0)

  pub needs_first_step : (f (sized sum) sum.wires 1 (set_of (10 ∷ []))).shares ≡ shares_after 1 sum (10 ∷ []) → ⊥
  needs_first_step e = omega (arith, e, ap (λ (a : Needed). a.shares) none, too_few_steps.1)

abbrev pub PadsAll : (Shape → List Wire → ℕ → ProbeSet → Padded) → Type 0
PadsAll f = (σ : Shape) (list : List Wire) (t : ℕ) (set : ProbeSet) → f σ list t set ≡ lent_padding σ list t set

module _ (f : Shape → List Wire → ℕ → ProbeSet → Padded) (meets : PadsAll f) where
  -- it refuses everything, or nothing
  pub pads_not_one : (b : Bool) → ((σ : Shape) (list : List Wire) (t : ℕ) (set : ProbeSet) → refuses (f σ list t set).outcome ≡ b) → ⊥
  unfolding step_list
  pads_not_one b one = apart
      (sym (ap (λ (a : Padded). refuses a.outcome) (meets (sized sum) sum.wires 1 (set_of (10 ∷ [])) ∙ worked_pads.0))
      ∙ one (sized sum) sum.wires 1 (set_of (10 ∷ [])))
      (sym (ap (λ (a : Padded). refuses a.outcome) (meets (sized pair) pair.wires 0 (set_of (3 ∷ [])) ∙ worked_pads.2))
      ∙ one (sized pair) pair.wires 0 (set_of (3 ∷ [])))

  -- it always says open, or never
  pub pads_not_always : (b : Bool) → ((σ : Shape) (list : List Wire) (t : ℕ) (set : ProbeSet) → (f σ list t set).undecided ≡ b) → ⊥
  unfolding step_list
  pads_not_always b always = true≢false
      (sym (ap (λ (a : Padded). a.undecided) (meets (sized pair) pair.wires 1 (set_of (3 ∷ [])) ∙ worked_pads.1))
      ∙ always (sized pair) pair.wires 1 (set_of (3 ∷ []))
      ∙ sym (always (sized sum) sum.wires 1 (set_of (10 ∷ [])))
      ∙ ap (λ (a : Padded). a.undecided) (meets (sized sum) sum.wires 1 (set_of (10 ∷ [])) ∙ worked_pads.0))

  -- it makes no padding step, or the first alone, and lists no more: there are five
  pub pads_steps : (f (sized sum) sum.wires 1 (set_of (10 ∷ []))).len ≡ 5
  unfolding step_list
  pads_steps = ap (λ (a : Padded). a.len) (meets (sized sum) sum.wires 1 (set_of (10 ∷ [])) ∙ worked_pads.0)

  -- it makes no step, or the first alone, and lists all five: the set would be open then, and is not
  pub pads_only_listed : (k : ℕ) → k ≤ 1 → (f (sized sum) sum.wires 1 (set_of (10 ∷ []))).undecided ≡ opens_after k sum 1 (10 ∷ []) → ⊥
  unfolding step_list
  pads_only_listed k few e =
      apart (sym (ap (λ (a : Padded). a.undecided) (meets (sized sum) sum.wires 1 (set_of (10 ∷ [])) ∙ worked_pads.0)) ∙ e) (sym (too_few_open k few))

-- ---- reading, writing and running

abbrev pub ReadsAll : (List ℕ → List Wire → Filled) → (List ℕ → List Wire → List Wire) → Type 0
ReadsAll f after = (text : List ℕ) (list : List Wire) → (f text list ≡ lent_read text list) × (after text list ≡ lent_read_into text list)

module _ (f : List ℕ → List Wire → Filled) (after : List ℕ → List Wire → List Wire) (meets : ReadsAll f after) where
  -- it refuses everything, or nothing
  pub read_not_one : (b : Bool) → ((text : List ℕ) (list : List Wire) → refuses (f text list).outcome ≡ b) → ⊥
  read_not_one b one = apart
      (sym (ap (λ (a : Filled). refuses a.outcome) ((meets text_bare blanks).0 ∙ worked_read.0)) ∙ one text_bare blanks)
      (sym (ap (λ (a : Filled). refuses a.outcome) ((meets [] blanks).0 ∙ worked_read.2)) ∙ one [] blanks)

  -- it invents n
  pub read_count : (f text_bare blanks).shape.n ≡ 2
  read_count = ap (λ (a : Filled). a.shape.n) ((meets text_bare blanks).0 ∙ worked_read.0)

abbrev pub WritesAll : (Shape → List Wire → List ℕ → Written) → (Shape → List Wire → List ℕ → List ℕ) → Type 0
WritesAll f after = (σ : Shape) (list : List Wire) (buf : List ℕ) → (f σ list buf ≡ lent_written σ list buf) × (after σ list buf ≡ lent_written_into σ list buf)

module _ (f : Shape → List Wire → List ℕ → Written) (after : Shape → List Wire → List ℕ → List ℕ) (meets : WritesAll f after) where
  -- it refuses everything, or nothing
  pub write_not_one : (b : Bool) → ((σ : Shape) (list : List Wire) (buf : List ℕ) → refuses (f σ list buf).outcome ≡ b) → ⊥
  write_not_one b one = apart
      (sym (ap (λ (a : Written). refuses a.outcome) ((meets (sized bare) bare.wires (replicate 12 0)).0 ∙ worked_write.0))
      ∙ one (sized bare) bare.wires (replicate 12 0))
      (sym (ap (λ (a : Written). refuses a.outcome) ((meets (sized bare) bare.wires []).0 ∙ worked_write.2)) ∙ one (sized bare) bare.wires [])

  -- it invents its length
  pub write_count : (f (sized bare) bare.wires (replicate 12 0)).len ≡ 12
  write_count = ap (λ (a : Written). a.len) ((meets (sized bare) bare.wires (replicate 12 0)).0 ∙ worked_write.0)

  -- it says done, and writes nothing
  pub write_nothing : after (sized bare) bare.wires (replicate 12 0) ≡ replicate 12 0 → ⊥
  unfolding bytes
  write_nothing e = omega (arith, ap (λ (xs : List ℕ). get_or xs 0 0) (sym e ∙ (meets (sized bare) bare.wires (replicate 12 0)).1 ∙ worked_write.1))

abbrev pub RunsAll : (Shape → List Wire → ℕ → ℕ → ℕ → List ℕ → Ran) → (Shape → List Wire → ℕ → ℕ → ℕ → List ℕ → List ℕ) → Type 0
RunsAll f after = (σ : Shape) (list : List Wire) (shares randoms publics : ℕ) (buf : List ℕ)
    → (f σ list shares randoms publics buf ≡ lent_ran σ list shares randoms publics buf)
    × (after σ list shares randoms publics buf ≡ lent_ran_into σ list shares randoms publics buf)

module _ (f : Shape → List Wire → ℕ → ℕ → ℕ → List ℕ → Ran) (after : Shape → List Wire → ℕ → ℕ → ℕ → List ℕ → List ℕ) (meets : RunsAll f after) where
  -- it refuses everything, or nothing
  pub run_not_one : (b : Bool) → ((σ : Shape) (list : List Wire) (shares randoms publics : ℕ) (buf : List ℕ)
      → refuses (f σ list shares randoms publics buf).outcome ≡ b) → ⊥
  run_not_one b one = apart
      (sym (ap (λ (a : Ran). refuses a.outcome) ((meets (sized bare) bare.wires 1 0 0 (9 ∷ 9 ∷ 9 ∷ [])).0 ∙ worked_run.0))
      ∙ one (sized bare) bare.wires 1 0 0 (9 ∷ 9 ∷ 9 ∷ []))
      (sym (ap (λ (a : Ran). refuses a.outcome) ((meets (sized bare) bare.wires 1 0 0 []).0 ∙ worked_run.2)) ∙ one (sized bare) bare.wires 1 0 0 [])

  -- it invents its length
  pub run_count : (f (sized bare) bare.wires 1 0 0 (9 ∷ 9 ∷ 9 ∷ [])).len ≡ 2
  run_count = ap (λ (a : Ran). a.len) ((meets (sized bare) bare.wires 1 0 0 (9 ∷ 9 ∷ 9 ∷ [])).0 ∙ worked_run.0)

  -- it writes 0 for each wire, or writes on behind the last
  pub run_values : after (sized bare) bare.wires 1 0 0 (9 ∷ 9 ∷ 9 ∷ []) ≡ 1 ∷ 0 ∷ 9 ∷ []
  run_values = (meets (sized bare) bare.wires 1 0 0 (9 ∷ 9 ∷ 9 ∷ [])).1 ∙ worked_run.1
