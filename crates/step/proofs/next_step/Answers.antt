-- `step::next_step` meets its contract. The live wires are those of this state.
use Rattle.std.proofs.Common.{ap, ◌∙◌, length}
use Rattle.data.specs.Basics.{Marks}
use Rattle.document.specs.Padding.{lowest_pad, pads_by, next_step}
use Rattle.marks.specs.Passes.{only_wires}
use Rattle.step.proofs.next_step.Goals as goal

pub returns : goal.returns
unfolding next_step
returns c = let R = only_wires c.args.wires.list.now in
    c.lowest_pad.ensures
    ∙ ap (λ (a : Marks). lowest_pad R (pads_by R c.args.probe.now c.args.leaf.now a) (length R.wires) 0) c.live_marks-alive.ensures
