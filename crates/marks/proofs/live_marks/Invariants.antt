-- The passes below u, made too, give the live wires.
use Rattle.std.specs.Prelude.{◌≡◌}
use Rattle.document.specs.Padding.{live_down, live}
use Rattle.marks.specs.Passes.{only_wires}
use Rattle.marks.proofs.live_marks.Given as goal

abbrev pub invariant-loop-u : goal.invariant-loop-u
invariant-loop-u l = live_down (only_wires l.fn.wires.list.now) l.leaf l.u l.m ≡ live (only_wires l.fn.wires.list.now) l.fn.probe l.leaf
