-- `writer::put_section` meets its contract. The loop's invariant: what the part has of the first i wires was put.
use Rattle.std.proofs.Common.{arith}
use Rattle.writer.proofs.Laws.Sections.{section_within}
use Rattle.writer.proofs.put_section.Goals as goal

pub put_piece-requires : goal.put_piece-requires
put_piece-requires g c =
    let a = c.args in
    let i = c.loop-i in
    let z = section_within a.p a.ws a.first i.i a.m (omega arith) in
    omega (arith, c.requires.1, g.met.S.Sink.laws.left i.invariant)
