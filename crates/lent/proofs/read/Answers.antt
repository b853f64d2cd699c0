-- `lent::read` stores as many records as the read has: no more than the list.
use Rattle.filling.proofs.Laws.Stored.{fits_list, read_answers}
use Rattle.lent.proofs.read.Goals as goal

pub store-requires : goal.store-requires
store-requires c = rw c.size_of.ensures (fits_list c.args.text.now c.args.list.now c.read_for-r.ensures)

pub returns : goal.returns
returns c =
    read_answers c.args.text.now c.args.list.now c.read_for-r.ensures c.answer_of.ensures
    (rw (c.wires_of.ensures, c.size_of.ensures) at c.store.ensures)
