-- `searching::search_sizes` meets its contract. The loop's invariant: nothing is open among the sets of the sizes passed.
use Rattle.std.proofs.Common.{◌≡◌, Ok}
use Rattle.growing.specs.Growing.{opens_in}
use Rattle.searching.specs.Search.{found_up_to}
use Rattle.searching.proofs.search_sizes.Given as goal

abbrev pub invariant-loop-size : goal.invariant-loop-size
invariant-loop-size l = Ok l.count ≡ found_up_to (opens_in l.q) l.size l.q.listing.now.shape.n
