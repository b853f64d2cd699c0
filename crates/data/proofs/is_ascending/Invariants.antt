-- The set ascends exactly when it does from the wire before place i on.
use Rattle.std.proofs.Common.{◌≡◌, ◌-◌, drop}
use Rattle.data.specs.ProbeSets.{ascending}
use Rattle.data.proofs.is_ascending.Given as goal

abbrev pub invariant-loop-i : goal.invariant-loop-i
invariant-loop-i l = ascending (drop (l.i - 1) l.held) ≡ ascending l.held
