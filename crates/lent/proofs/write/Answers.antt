-- `lent::write` answers of the list what it answers of the listing, and leaves the same in the buffer.
use Rattle.lent.proofs.Laws.Same.{write_same}
use Rattle.lent.proofs.write.Goals as goal

pub returns : goal.returns
returns c = write_same c.args.shape c.args.list.now c.args.buf.now (rw c.listing_of.ensures at c.write.ensures)
