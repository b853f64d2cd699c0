-- All numbers are wires exactly when those from place i on are.
use Rattle.std.proofs.Common.{◌≡◌, drop}
use Rattle.std.proofs.Math.Dec.{ltb}
use Rattle.data.specs.Basics.{each}
use Rattle.asking.proofs.all_named.Given as goal

abbrev pub invariant-loop-w : goal.invariant-loop-w
invariant-loop-w l = each (λ w. ltb w l.n) (drop l.w-index l.held) ≡ each (λ w. ltb w l.n) l.held
