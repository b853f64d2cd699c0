-- `marks::first_leaves` meets its contract.
use Rattle.std.proofs.Common.{sym, ◌∙◌, arith}
use Rattle.marks.proofs.Laws.Passes.{leaves_turn, leaves_end, leaves_all, rand_same}
use Rattle.marks.proofs.first_leaves.Goals as goal
use Rattle.marks.proofs.first_leaves.Goals.{then-eq, else-eq}

pub loop-u-init : goal.loop-u-init
loop-u-init c = leaves_all c.args.wires.list.now

pub loop-u-preserved : goal.loop-u-preserved
loop-u-preserved c =
    let turn = leaves_turn c.args.wires.list.now c.loop-u.u c.loop-u.leaf c.eq.result (omega arith) (c.eq.ensures ∙ rand_same _) in
    elim c.if-eq.branch [
      | then-eq w ↦ rw w.leaf-is (rw w.if-eq.true at turn ∙ c.loop-u.invariant)
      | else-eq w ↦ rw w.leaf-is (rw w.if-eq.false at turn ∙ c.loop-u.invariant)
    ]

pub returns : goal.returns
returns c = sym (leaves_end c.args.wires.list.now c.loop-u.u c.loop-u.leaf (omega arith)) ∙ c.loop-u.invariant
