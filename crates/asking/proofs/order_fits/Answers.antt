-- `asking::order_fits` meets its contract. The definition is the test.
use mathlib.Core.Path.{refl}
use Rattle.asking.specs.Checks.{order_in}
use Rattle.asking.proofs.order_fits.Goals as goal

pub returns : goal.returns
unfolding order_in
returns c = refl
