-- `Sink::put_word` meets its contract. The loop's invariant: the bytes up to the index were put.
use Rattle.std.specs.Prelude.{◌≤◌, length, take}
use Rattle.buffer.proofs.Sink.put_word.Given as goal

abbrev pub invariant-loop-b : goal.invariant-loop-b
invariant-loop-b g l = (l.b-index ≤ length l.word) × g.Self.Sink.puts l.initial.self (take l.b-index l.word) l.self
