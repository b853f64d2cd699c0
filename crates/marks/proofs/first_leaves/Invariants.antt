-- The randoms from wire u on, marked too, make the first leaves.
use Rattle.std.specs.Prelude.{◌≡◌, ◌-◌, length}
use Rattle.document.specs.Padding.{rands_from, first_leaves}
use Rattle.data.specs.Basics.{mark}
use Rattle.marks.specs.Passes.{only_wires}
use Rattle.marks.proofs.first_leaves.Given as goal

abbrev pub invariant-loop-u : goal.invariant-loop-u
invariant-loop-u l = let ws = l.fn.wires.list.now in mark (rands_from (only_wires ws) (length ws - l.u) l.u) l.leaf ≡ first_leaves (only_wires ws)
