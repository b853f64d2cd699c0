-- `answers::put_order` meets its contract: the lines of the two judgements, the second behind the first.
use Rattle.std.proofs.Common.{arith}
use Rattle.document.specs.Routine.{routine_of}
use Rattle.data.specs.declared.Which.TheVariants.{Plain}
use Rattle.buffer.specs.Laws.{page_laws}
use Rattle.answers.specs.Orders.{order_pair}
use Rattle.answers.proofs.Laws.Rooms.{line_few}
use Rattle.answers.proofs.put_order.Goals as goal

pub put_judgement-requires-2 : goal.put_judgement-requires-2
put_judgement-requires-2 c =
    let a = c.args in
    (c.requires.0, omega (arith, c.requires.1, line_few Plain (routine_of a.listing.shape a.listing.wires) a.t, page_laws.left c.put_judgement.ensures))

pub returns : goal.returns
unfolding order_pair
returns c = page_laws.then c.put_judgement.ensures c.put_judgement-2.ensures
