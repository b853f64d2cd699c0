-- `answers::put_orders` meets its contract. The loop's invariant: the lines of the orders before t were put.
use Rattle.std.specs.Prelude.{◌+◌, ◌-◌, ◌≤◌}
use Rattle.document.specs.Desk.{order_lines}
use Rattle.document.specs.Routine.{routine_of}
use Rattle.buffer.specs.Sinks.{Puts}
use Rattle.answers.proofs.put_orders.Given as goal

abbrev pub invariant-loop-t : goal.invariant-loop-t
invariant-loop-t l = (l.t ≤ l.m + 1) × Puts l.initial.out (order_lines (routine_of l.listing.shape l.listing.wires) (l.t - 1) 1) l.out
