-- The search from wire w on finds what the whole search does.
use Rattle.std.specs.Prelude.{◌≡◌, ◌-◌, length}
use Rattle.step.specs.Searching.{lowest_in}
use Rattle.step.proofs.Search.lowest_pad.Given as goal

abbrev pub invariant-loop-w : goal.invariant-loop-w
invariant-loop-w l = let n = length l.self.wires.list.now in lowest_in l.self (n - l.w) l.w ≡ lowest_in l.self n 0
