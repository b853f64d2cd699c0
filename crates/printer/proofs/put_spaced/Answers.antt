-- `printer::put_spaced` meets its contract: a space, then at most 20 digits.
use Rattle.std.specs.Prelude.{◌∷◌, ℕ}
use Rattle.std.proofs.Common.{ap, arith}
use Rattle.document.specs.Desk.{space, printed}
use Rattle.buffer.specs.Laws.{page_laws}
use Rattle.buffer.proofs.Laws.Digits.{printed_few}
use Rattle.buffer.proofs.Laws.Sinks.{puts_same}
use Rattle.printer.proofs.put_spaced.Goals as goal

pub put_number-requires : goal.put_number-requires
put_number-requires c = grind (arith, printed_few, c.requires, page_laws.left c.put_byte.ensures)

-- what is put is n, however the code names it
pub returns : goal.returns
returns c = puts_same page_laws (page_laws.then c.put_byte.ensures c.put_number.ensures) (ap (λ (k : ℕ). space ∷ printed k) (omega arith))
