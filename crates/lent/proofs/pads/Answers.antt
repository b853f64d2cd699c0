-- `lent::pads` answers of the list what it answers of the listing.
use Rattle.lent.proofs.Laws.Same.{pads_same}
use Rattle.lent.proofs.pads.Goals as goal

pub returns : goal.returns
returns c = pads_same c.args.shape c.args.list.now c.args.t c.args.set (rw c.listing_of.ensures at c.pads.ensures)
