-- `printer::put_answer` meets its contract: the word, the other fields, the LF.
use Rattle.std.specs.Prelude.{◌≡◌, ◌≤◌, length}
use Rattle.std.proofs.Common.{arith, rules, length-take}
use Rattle.data.specs.ProbeSets.{held}
use Rattle.buffer.specs.Laws.{page_laws}
use Rattle.buffer.proofs.Laws.Sinks.{puts_same}
use Rattle.printer.proofs.Laws.Lines.{answer_line_is}
use Rattle.printer.proofs.Laws.Rooms.{verdict_few}
use Rattle.printer.proofs.put_answer.Goals as goal

pub put_verdict-requires : goal.put_verdict-requires
put_verdict-requires c = omega (arith, c.requires.0, c.requires.1, page_laws.left c.put_word.ensures)

pub put_byte-requires : goal.put_byte-requires
put_byte-requires c =
    let a = c.args.answer in
    let four : length a.set.places ≡ 4 = search rules in
    let few : length (held a.set) ≤ 4 = omega (arith, length-take a.set.len a.set.places) in
    omega (
      arith,
      c.requires.0,
      c.requires.1,
      verdict_few c.args.t a.verdict (held a.set) few,
      page_laws.left c.put_word.ensures,
      page_laws.left c.put_verdict.ensures,
    )

pub returns : goal.returns
returns c =
    let a = c.args in
    puts_same page_laws (page_laws.then (page_laws.then c.put_word.ensures c.put_verdict.ensures) c.put_byte.ensures) (answer_line_is a.word.now a.t a.answer)
