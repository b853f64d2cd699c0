-- The measure of `searching::grow` is places left times wires left.
use Rattle.std.proofs.Common.{◌*◌, ◌-◌}
use Rattle.searching.proofs.+grow.Given as goal

abbrev pub decreases-grow : goal.decreases-grow
decreases-grow l = l.places * (l.q.listing.now.shape.n - l.from)
