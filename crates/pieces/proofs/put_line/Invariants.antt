-- `pieces::put_line` meets its contract. The loop's invariant: the numbers up to the index were put.
use Rattle.std.specs.Prelude.{◌≤◌, length, take}
use Rattle.pieces.specs.Pieces.{numbers}
use Rattle.pieces.proofs.put_line.Given as goal

abbrev pub invariant-loop-n : goal.invariant-loop-n
invariant-loop-n g l = (l.n-index ≤ length l.numbers) × g.S.Sink.puts l.initial.out (numbers (take l.n-index l.numbers)) l.out
