-- `marks::probe_marks` meets its contract.
use Rattle.std.proofs.Common.{sym, ◌∙◌, arith, refl}
use Rattle.data.specs.ProbeSets.{held}
use Rattle.document.specs.Padding.{probed}
use Rattle.marks.proofs.Laws.Passes.{probed_turn, probed_end}
use Rattle.marks.proofs.probe_marks.Goals as goal

pub loop-w-init : goal.loop-w-init
unfolding probed
loop-w-init c = refl

pub loop-w-preserved : goal.loop-w-preserved
loop-w-preserved c = rw c.from.ensures (sym (probed_turn (held c.args.set) c.loop-w.w-index c.loop-w.m (omega arith)) ∙ c.loop-w.invariant)

pub returns : goal.returns
returns c = sym (probed_end (held c.args.set) c.loop-w.w-index c.loop-w.m (omega arith)) ∙ c.loop-w.invariant
