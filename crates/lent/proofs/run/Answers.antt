-- `lent::run` answers of the list what it answers of the listing, and leaves the same in the buffer.
use Rattle.lent.proofs.Laws.Same.{run_same}
use Rattle.lent.proofs.run.Goals as goal

pub returns : goal.returns
returns c =
    run_same c.args.shape c.args.list.now c.args.buf.now c.args.shares c.args.randoms c.args.publics
    (rw c.listing_of.ensures at c.run.ensures)
