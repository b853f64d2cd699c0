-- The lines of the orders take no more than their room.
use Rattle.std.specs.Prelude.{Bool, cond, List, [], ◌∷◌, ◌++◌, ℕ, zero, suc, ◌+◌, ◌*◌, ◌≤◌, length, replicate}
use Rattle.std.proofs.Common.{arith, length-append, length-take}
use Rattle.data.proofs.Laws.Tests.{cond_cases}
use Rattle.document.specs.Routine.{Routine, well_formed}
use Rattle.data.specs.ProbeSets.{set_of}
use Rattle.document.specs.Judgements.{Judgement, is_open, sets_judged, first_open, judgement, judged, judged_not, opened, order_fits, judgement_of}
use Rattle.document.specs.Desk.{plain_word, strong_word, order_lines}
use Rattle.data.specs.declared.Judged.{Judged}
use Rattle.data.specs.declared.Refusal.TheVariants as No
use Rattle.data.specs.declared.Which.{Which}
use Rattle.data.specs.declared.Which.TheVariants.{Plain, Strong}
use Rattle.printer.specs.Rooms.{answer_room}
use Rattle.printer.proofs.Laws.Rooms.{answer_few}
use Rattle.answers.specs.Orders.{judgement_line, order_pair, order_room}
use Rattle.answers.proofs.Laws.Orders.{orders_none, orders_next}

abbrev Short : Judged → Type 0
Short a = length a.set.places ≤ 4

first_short : (opens : List ℕ → Bool) (k : ℕ) (sets : List (List ℕ)) → Short (first_open opens k sets)
unfolding first_open set_of
first_short opens k [] = omega arith
first_short opens k (ps ∷ later) =
    cond_cases Short (opens ps) (opened (suc k) ps) (first_open opens (suc k) later)
    (λ e. omega (arith, length-take 4 (ps ++ replicate 4 0)))
    (λ e. first_short opens (suc k) later)

judged_short : (J : Judgement) (R : Routine) (t : ℕ) → Short (judged J R t)
unfolding judged judgement
judged_short J R t =
    cond_cases Short (well_formed R) (cond (order_fits R t) (judgement J R t) (judged_not No.Order)) (judged_not No.Records)
    (λ e. cond_cases Short (order_fits R t) (judgement J R t) (judged_not No.Order) (λ f. first_short (is_open J R t) 0 (sets_judged J R t)) (λ f. omega arith))
    (λ e. omega arith)

pub line_few : (which : Which) (R : Routine) (t : ℕ) → length (judgement_line which R t) ≤ answer_room
unfolding judgement_line
line_few Plain R t = answer_few plain_word t (judged (judgement_of Plain) R t) (omega arith) (judged_short (judgement_of Plain) R t)
line_few Strong R t = answer_few strong_word t (judged (judgement_of Strong) R t) (omega arith) (judged_short (judgement_of Strong) R t)

pair_few : (R : Routine) (t : ℕ) → length (order_pair R t) ≤ order_room
unfolding order_pair
pair_few R t =
    let p = line_few Plain R t in
    let q = line_few Strong R t in
    simp length-append (omega arith)

pub orders_few : (R : Routine) (m : ℕ) → length (order_lines R m 1) ≤ order_room * m
orders_few R zero = rw (orders_none R 1) (omega arith)
orders_few R (suc m) =
    let p = pair_few R (1 + m) in
    let q = orders_few R m in
    rw (orders_next R m 1) (simp length-append (omega arith))
