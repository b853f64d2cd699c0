-- `cones::Cone::with` meets its contract.
use Rattle.std.proofs.Common.{rules}
use Rattle.cones.specs.Seen.{see}
use Rattle.cones.proofs.Cone.with.Goals as goal

pub returns : goal.returns
unfolding see
returns c = search rules
