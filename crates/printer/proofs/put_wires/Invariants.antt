-- `printer::put_wires` meets its contract. The loop's invariant: the wires up to the index were put.
use Rattle.std.specs.Prelude.{◌≤◌, length, take}
use Rattle.buffer.specs.Sinks.{Puts}
use Rattle.printer.specs.Fields.{wire_fields}
use Rattle.printer.proofs.put_wires.Given as goal

abbrev pub invariant-loop-w : goal.invariant-loop-w
invariant-loop-w l = (l.w-index ≤ length l.wires) × Puts l.initial.out (wire_fields (take l.w-index l.wires)) l.out
