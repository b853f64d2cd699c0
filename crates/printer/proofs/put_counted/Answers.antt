-- `printer::put_counted` meets its contract, field by field.
use Rattle.std.proofs.Common.{arith}
use Rattle.buffer.specs.Laws.{page_laws}
use Rattle.buffer.proofs.Laws.Digits.{printed_few}
use Rattle.printer.proofs.put_counted.Goals as goal

pub put_word-requires : goal.put_word-requires
put_word-requires c = omega (arith, printed_few c.args.t, c.requires, page_laws.left c.put_spaced.ensures)

pub put_spaced-requires-2 : goal.put_spaced-requires-2
put_spaced-requires-2 c = omega (arith, printed_few c.args.t, c.requires, page_laws.left c.put_spaced.ensures, page_laws.left c.put_word.ensures)

pub returns : goal.returns
returns c = page_laws.then (page_laws.then c.put_spaced.ensures c.put_word.ensures) c.put_spaced-2.ensures
