-- The lines of the orders with an order more, and where a line ends.
use Rattle.std.specs.Prelude.{◌≡◌, List, ◌++◌, ℕ, ◌+◌, ◌≤◌}
use Rattle.std.proofs.Common.{ap, ◌∙◌, add-one, arith}
use Rattle.document.specs.Routine.{Routine}
use Rattle.document.specs.Desk.{order_lines}
use Rattle.data.specs.declared.Which.{Which}
use Rattle.buffer.specs.Put.{Put}
use Rattle.printer.specs.Rooms.{answer_room}
use Rattle.answers.specs.Orders.{judgement_line, order_pair}
use Rattle.answers.proofs.Laws.Orders.{orders_next}
use Rattle.answers.proofs.Laws.Rooms.{line_few}

-- an order more
pub orders_more : (R : Routine) (m : ℕ) → order_lines R (m + 1) 1 ≡ order_lines R m 1 ++ order_pair R (m + 1)
orders_more R m =
    let e : 1 + m ≡ m + 1 = omega arith in
    rw (add-one m) (orders_next R m 1) ∙ ap (λ (k : ℕ). order_lines R m 1 ++ order_pair R k) e

-- where a line ends
pub line_ends : {b c : List ℕ} {at r : ℕ} (which : Which) (R : Routine) (t : ℕ) → Put b at (judgement_line which R t) r c → r ≤ at + answer_room
line_ends which R t put = omega (arith, put.next, line_few which R t)
