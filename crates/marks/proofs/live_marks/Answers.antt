-- `marks::live_marks` meets its contract.
use Rattle.std.proofs.Common.{sym, ap, ◌∙◌, ◌-◌, Bool, not, ◌&&◌, arith, refl}
use Rattle.data.specs.Basics.{at}
use Rattle.data.proofs.Laws.Tests.{and_false}
use Rattle.document.specs.Padding.{live}
use Rattle.marks.proofs.Laws.Passes.{live_on, live_off, live_end}
use Rattle.marks.proofs.live_marks.Goals as goal
use Rattle.marks.proofs.live_marks.Goals.{else-m-u-via-then-m-u+else-not-leaf-u, else-m-u-via-else-m-u}

pub loop-u-init : goal.loop-u-init
unfolding live
loop-u-init c = refl

pub mark_operands-requires : goal.mark_operands-requires
mark_operands-requires c = c.args.wires.marked.low _ (omega arith)

pub loop-u-preserved-then-not-leaf-u : goal.loop-u-preserved-then-not-leaf-u
loop-u-preserved-then-not-leaf-u c =
    rw c.mark_operands.ensures (live_on c.args.wires.list.now c.args.leaf.now c.loop-u.u c.loop-u.m (omega arith) c.if-m-u.true c.if-not-leaf-u.true
    ∙ c.loop-u.invariant)

pub loop-u-preserved : goal.loop-u-preserved
loop-u-preserved c =
    let u = c.loop-u.u in
    let leaf = c.args.leaf.now in
    live_off c.args.wires.list.now leaf u c.loop-u.m (omega arith)
    (elim c.else-m-u.branch [
      | else-m-u-via-then-m-u+else-not-leaf-u w ↦ and_false (at c.loop-u.m (u - 1)) (not (at leaf (u - 1))) (ap not w.if-not-leaf-u.false)
      | else-m-u-via-else-m-u w ↦ ap (λ (b : Bool). b && not (at leaf (u - 1))) w.if-m-u.false
    ])
    ∙ c.loop-u.invariant

pub returns : goal.returns
returns c = sym (live_end c.args.wires.list.now c.args.leaf.now c.loop-u.u c.loop-u.m (omega arith)) ∙ c.loop-u.invariant
