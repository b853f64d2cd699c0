-- `writer::put_section` meets its contract. The loop's invariant: what the part has of the first i wires was put.
use Rattle.writer.specs.Parts.{section}
use Rattle.writer.proofs.put_section.Given as goal

abbrev pub invariant-loop-i : goal.invariant-loop-i
invariant-loop-i g l = g.S.Sink.puts l.initial.out (section l.p l.ws l.first l.i) l.out
