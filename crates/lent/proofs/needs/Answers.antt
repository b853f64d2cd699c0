-- `lent::needs` answers of the list what it answers of the listing.
use Rattle.lent.proofs.Laws.Same.{needs_same}
use Rattle.lent.proofs.needs.Goals as goal

pub returns : goal.returns
returns c = needs_same c.args.shape c.args.list.now c.args.t c.args.set (rw c.listing_of.ensures at c.needs.ensures)
