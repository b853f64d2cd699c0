-- `cones::without` meets its contract.
use native.Mathlib.Omega.{arith}
use Rattle.cones.proofs.Laws.Bits.{minus_masked}
use Rattle.cones.proofs.without.Goals as goal

pub returns : goal.returns
returns c = minus_masked c.args.x c.args.y (omega arith) (omega arith)
