-- `consumers::consumer_counts` meets its contract.
use Rattle.std.proofs.Common.{arith, rules}
use Rattle.consumers.proofs.Laws.Consumers.{counts_none, counts_spare, counts_on, counts_off}
use Rattle.consumers.proofs.consumer_counts.Goals as goal

pub loop-u-init : goal.loop-u-init
loop-u-init c = counts_none c.args.wires.list.now c.args.leaf.now c.args.alive.now

pub count_operands-requires : goal.count_operands-requires
count_operands-requires c = (c.args.wires.marked.low _ (omega arith), counts_spare c.args.wires.list.now c.args.leaf.now c.args.alive.now c.loop-u.u c.loop-u.counts c.args.wires.marked.few c.loop-u.invariant)

pub loop-u-preserved-then-not-leaf-u : goal.loop-u-preserved-then-not-leaf-u
loop-u-preserved-then-not-leaf-u c =
    rw c.count_operands.ensures (counts_on c.args.wires.list.now c.args.leaf.now c.args.alive.now c.loop-u.u c.loop-u.counts (omega arith)
    (c.args.wires.marked.low _ (omega arith)) (search rules) (search rules) c.loop-u.invariant)

pub loop-u-preserved : goal.loop-u-preserved
loop-u-preserved c = counts_off c.args.wires.list.now c.args.leaf.now c.args.alive.now c.loop-u.u c.loop-u.counts (omega arith) (grind arith) c.loop-u.invariant
