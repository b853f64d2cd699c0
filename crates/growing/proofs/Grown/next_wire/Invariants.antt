-- `growing::Grown::next_wire` meets its contract. The loop's invariant: each wire passed makes a set with an own random.
use Rattle.growing.specs.Growing.{Skipped}
use Rattle.growing.proofs.Grown.next_wire.Given as goal

abbrev pub invariant-loop-w : goal.invariant-loop-w
invariant-loop-w l = Skipped l.places l.from l.n l.cones l.self.cone l.w
