-- One turn passes a number that is a wire's.
use Rattle.std.proofs.Common.{sym, ◌∙◌, arith}
use Rattle.asking.proofs.Laws.Checks.{named_on, named_not, named_end}
use Rattle.asking.proofs.all_named.Goals as goal

pub returns-then-n-w : goal.returns-then-n-w
returns-then-n-w c = sym (named_not c.args.held.now c.args.n c.loop-w.w-index (omega arith) c.if-n-w.true) ∙ c.loop-w.invariant

pub loop-w-preserved : goal.loop-w-preserved
loop-w-preserved c = sym (named_on c.args.held.now c.args.n c.loop-w.w-index (omega arith) c.if-n-w.false) ∙ c.loop-w.invariant

pub returns : goal.returns
returns c = sym (named_end c.args.held.now c.args.n c.loop-w.w-index (omega arith)) ∙ c.loop-w.invariant
