-- `growing::Question::inner_of` meets its contract. The loop's invariant: the count is that of the wires passed that are no outputs.
use Rattle.std.proofs.Common.{not, ap, ◌∙◌, zero-le, arith}
use Rattle.data.specs.ProbeSets.{held}
use Rattle.growing.proofs.Laws.Growing.{inner_none, inner_counts, inner_stays}
use Rattle.growing.proofs.Question.inner_of.Goals as goal
use Rattle.growing.proofs.Question.inner_of.Goals.{then-not-self-from, else-not-self-from}

pub loop-w-init : goal.loop-w-init
loop-w-init c = record { few = zero-le; counted = inner_none _ }

pub loop-w-preserved : goal.loop-w-preserved
loop-w-preserved c = let v = c.loop-w.invariant in let h = c.loop-w-test.true in elim c.if-not-self-from.branch [
  | then-not-self-from w ↦ record {
    few = omega arith;
    counted = w.inner-is ∙ inner_counts c.args.self.listing.now.wires (held c.args.set) c.loop-w.w-index c.loop-w.inner h v.counted
        (rw c.from.ensures at (ap not w.if-not-self-from.true));
  }
  | else-not-self-from w ↦ record {
    few = omega arith;
    counted = w.inner-is ∙ inner_stays c.args.self.listing.now.wires (held c.args.set) c.loop-w.w-index c.loop-w.inner h v.counted
        (rw c.from.ensures at (ap not w.if-not-self-from.false));
  }
]
