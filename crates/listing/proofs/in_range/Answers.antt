-- `listing::in_range` meets its contract: the definition, opened.
use mathlib.Core.Path.{refl}
use Rattle.document.specs.Routine.{in_range}
use Rattle.listing.proofs.in_range.Goals as goal

pub returns : goal.returns
unfolding in_range
returns c = refl
