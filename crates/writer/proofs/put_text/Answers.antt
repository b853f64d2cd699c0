-- `writer::put_text` meets its contract: the three parts, one after the other.
use Rattle.writer.specs.Parts.{text_parts}
use Rattle.writer.proofs.put_text.Goals as goal

pub returns : goal.returns
unfolding text_parts
returns g c = let m = g.met.S.Sink.laws in m.then (m.then c.put_line.ensures c.put_section.ensures) c.put_section-2.ensures
