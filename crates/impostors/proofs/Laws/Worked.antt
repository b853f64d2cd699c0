-- Answers that the contracts of the calls over a lent list ask for, computed from the definitions.
use Rattle.std.specs.Prelude.{◌≡◌, refl, Bool, true, false, List, [], ◌∷◌, ◌++◌, ℕ, zero, suc, ◌*◌, ◌≤◌, ltb, replicate, take}
use Rattle.std.proofs.Common.{arith}
use Rattle.std.specs.Int.Count.{ones}
use Rattle.data.specs.Basics.{some, at}
use Rattle.document.specs.Routine.{Routine, size, blank}
use Rattle.document.specs.Reading.{blanks, whole_reading}
use Rattle.document.specs.Lines.{whole_lines}
use Rattle.document.specs.Writing.{whole_writing}
use Rattle.document.specs.Running.{whole_running}
use Rattle.data.specs.ProbeSets.{set_of}
use Rattle.document.specs.Padding.{probed, first_leaves, live, steps, leaves_after, word, bits_of}
use Rattle.document.specs.Judgements.{plain, strong, passed, opened, needed_not, padded_not, step_list, whole_judgements}
use Rattle.document.specs.Lent.{lent, lent_read, lent_read_into, lent_written, lent_written_into, lent_ran, lent_ran_into, lent_needing, lent_padding, lent_judged}
use Rattle.document.specs.Lent.{whole_lent}
use Rattle.document.proofs.Examples.{example_a, example_b, lines, cases}
use Rattle.data.specs.declared.Kind.TheVariants.{Share, Rand, Xor}
use Rattle.std.specs.Prelude.{Ok, Err}
use Rattle.data.specs.declared.Refusal.TheVariants as No
use Rattle.data.specs.declared.Shape.{Shape}
use Rattle.data.specs.declared.Step.{Step}
use Rattle.data.specs.declared.Wire.{Wire}
use Rattle.reader.proofs.Laws.TextExamples.{bytes}

-- ---- lists

-- the sizes of a routine
abbrev pub sized : Routine → Shape
sized R = record { s = R.S; d = R.D; n = size R }

abbrev pub list_a : List Wire
list_a = example_a.wires

abbrev pub list_b : List Wire
list_b = example_b.wires

abbrev share : ℕ → Wire
share j = record { kind = Share; a = 0; b = j; out = false }

abbrev rand : Wire
rand = record { kind = Rand; a = 0; b = 0; out = false }

abbrev xor : ℕ → ℕ → Wire
xor a b = record { kind = Xor; a = a; b = b; out = false }

-- each of three shares padded by a random of its own, and the three added up
abbrev pub sum : Routine
sum = record {
  S = 1;
  D = 3;
  wires = share 0 ∷ share 1 ∷ share 2 ∷ rand ∷ rand ∷ rand ∷ xor 0 3 ∷ xor 1 4 ∷ xor 2 5 ∷ xor 6 7 ∷ xor 8 9 ∷ [];
}

-- two shares of three, added up
abbrev pub pair : Routine
pair = record { S = 1; D = 3; wires = share 0 ∷ share 1 ∷ share 2 ∷ xor 0 1 ∷ [] }

-- two shares and nothing else
abbrev pub bare : Routine
bare = record { S = 1; D = 2; wires = share 0 ∷ share 1 ∷ [] }

-- ---- the judgements

pub worked_plain : (lent_judged plain (sized example_a) list_a 1 ≡ passed 9) × (lent_judged plain (sized example_b) list_b 1 ≡ opened 3 (2 ∷ []))
unfolding lent lent_judged
worked_plain = (lines.0, cases.1.1.1.1.1.0)

pub worked_strong : (lent_judged strong (sized example_a) list_a 1 ≡ passed 9) × (lent_judged strong (sized pair) pair.wires 2 ≡ opened 4 (3 ∷ []))
unfolding whole_lent whole_judgements
worked_strong = (lines.1, refl)

-- ---- one probe set

abbrev step : ℕ → ℕ → Step
step w r = record { w = w; r = r }

-- the shares that are live when only the first k steps are made
unfoldable pub shares_after : ℕ → Routine → List ℕ → ℕ
shares_after k R ps = word (R.S * R.D) (at (live R (probed ps) (leaves_after (take k (steps R ps)) (first_leaves R))))

pub worked_needs :
    (lent_needing (sized sum) sum.wires 1 (set_of (10 ∷ [])) ≡ record { outcome = Ok tt; shares = 0; undecided = false })
    × (lent_needing (sized pair) pair.wires 1 (set_of (3 ∷ [])) ≡ record { outcome = Ok tt; shares = 3; undecided = true })
    × (lent_needing (sized pair) pair.wires 0 (set_of (3 ∷ [])) ≡ needed_not No.Order)
unfolding whole_lent whole_judgements
worked_needs = (refl, refl, refl)

pub worked_pads :
    (lent_padding (sized sum) sum.wires 1 (set_of (10 ∷ [])) ≡ step_list (step 6 3 ∷ step 7 4 ∷ step 8 5 ∷ step 9 6 ∷ step 10 8 ∷ []) false)
    × (lent_padding (sized pair) pair.wires 1 (set_of (3 ∷ [])) ≡ step_list [] true)
    × (lent_padding (sized pair) pair.wires 0 (set_of (3 ∷ [])) ≡ padded_not No.Order)
unfolding whole_lent whole_judgements
worked_pads = (refl, refl, refl)

-- without a step all three shares would be needed, and with the first alone two of them
pub too_few_steps : (shares_after 0 sum (10 ∷ []) ≡ 7) × (shares_after 1 sum (10 ∷ []) ≡ 6)
unfolding shares_after whole_judgements
too_few_steps = (refl, refl)

-- whether the set would be open at order t by the plain judgement then
unfoldable pub opens_after : ℕ → Routine → ℕ → List ℕ → Bool
opens_after k R t ps = some R.S (λ i. ltb t (ones (bits_of R i (shares_after k R ps))))

-- with at most one step it would
pub too_few_open : (k : ℕ) → k ≤ 1 → opens_after k sum 1 (10 ∷ []) ≡ true
unfolding opens_after shares_after whole_judgements
too_few_open zero h = refl
too_few_open (suc zero) h = refl
too_few_open (suc (suc k)) h = absurd (omega arith)

-- ---- texts

abbrev pub text_bare : List ℕ
text_bare = bytes "routine\t1\t2\n"

pub worked_read :
    (lent_read text_bare blanks ≡ record { outcome = Ok tt; line = 0; shape = sized bare })
    × (lent_read_into text_bare blanks ≡ bare.wires ++ replicate 126 blank)
    × (lent_read [] blanks ≡ record { outcome = Err No.Length; line = 0; shape = record { s = 0; d = 0; n = 0 } })
unfolding whole_lent whole_reading bytes
worked_read = (refl, refl, refl)

pub worked_write :
    (lent_written (sized bare) bare.wires (replicate 12 0) ≡ record { outcome = Ok tt; len = 12 })
    × (lent_written_into (sized bare) bare.wires (replicate 12 0) ≡ text_bare)
    × (lent_written (sized bare) bare.wires [] ≡ record { outcome = Err No.Buffer; len = 0 })
unfolding whole_lent whole_lines whole_writing bytes
worked_write = (refl, refl, refl)

pub worked_run :
    (lent_ran (sized bare) bare.wires 1 0 0 (9 ∷ 9 ∷ 9 ∷ []) ≡ record { outcome = Ok tt; len = 2 })
    × (lent_ran_into (sized bare) bare.wires 1 0 0 (9 ∷ 9 ∷ 9 ∷ []) ≡ 1 ∷ 0 ∷ 9 ∷ [])
    × (lent_ran (sized bare) bare.wires 1 0 0 [] ≡ record { outcome = Err No.Buffer; len = 0 })
unfolding whole_lent whole_running
worked_run = (refl, refl, refl)
