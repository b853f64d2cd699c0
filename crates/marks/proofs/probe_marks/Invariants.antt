-- The held wires from place i on, marked too, make the probed ones.
use Rattle.std.specs.Prelude.{◌≡◌, drop}
use Rattle.document.specs.Padding.{probed}
use Rattle.data.specs.Basics.{mark}
use Rattle.data.specs.ProbeSets.{held}
use Rattle.marks.proofs.probe_marks.Given as goal

abbrev pub invariant-loop-w : goal.invariant-loop-w
invariant-loop-w l = mark (drop l.w-index (held l.fn.set)) l.m ≡ probed (held l.fn.set)
