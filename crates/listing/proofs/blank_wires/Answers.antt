-- `listing::blank_wires` meets its contract.
use mathlib.Core.Path.{refl}
use Rattle.document.specs.Reading.{blanks}
use Rattle.listing.proofs.blank_wires.Goals as goal

pub returns : goal.returns
unfolding blanks
returns c = refl
