-- `rule::run_to_end` meets its contract.
use Rattle.std.proofs.Common.{sym, ap, ◌∙◌, ◌≡◌, refl, ◌+◌, ◌-◌, length, arith}
use Rattle.marks.specs.Passes.{only_wires}
use Rattle.step.specs.Next.{step_in}
use Rattle.rule.specs.declared.Run.{Run}
use Rattle.rule.proofs.Laws.Run.{run_full, run_ended, run_more, next_below, run_all}
use Rattle.rule.proofs.run_to_end.Goals as goal

pub loop-init : goal.loop-init
loop-init c = (refl, run_all (only_wires c.args.wires.list.now) c.args.probe.now _ c.first_leaves-leaf.ensures)

pub make-requires : goal.make-requires
make-requires c = let R = only_wires c.args.wires.list.now in
    let few = c.args.wires.marked.few in
    let below = next_below R c.args.probe.now c.loop.run.leaf c.in-Some.step (sym c.next_step.ensures ∙ ap step_in c.in-Some.is) in
    (omega arith, omega arith)

pub returns-in-None : goal.returns-in-None
returns-in-None c = let R = only_wires c.args.wires.list.now in
    sym (run_ended R c.args.probe.now (length R.wires - c.loop.counter) c.loop.run (sym c.next_step.ensures ∙ ap step_in c.in-None.is)) ∙ c.loop.invariant.1

pub loop-preserved : goal.loop-preserved
loop-preserved c = let R = only_wires c.args.wires.list.now in
    let k : c.make.new.self.len ≡ c.loop.run.len + 1 = ap (λ (r : Run). r.len) c.make.ensures in (
      omega arith,
      rw c.make.ensures (run_more R c.args.probe.now (length R.wires) c.loop.counter c.loop.run c.in-Some.step (omega arith)
          (sym c.next_step.ensures ∙ ap step_in c.in-Some.is) ∙ c.loop.invariant.1),
    )

pub returns : goal.returns
returns c = let R = only_wires c.args.wires.list.now in
    sym (run_full R c.args.probe.now (length R.wires - c.loop.counter) c.loop.run (omega arith)) ∙ c.loop.invariant.1
