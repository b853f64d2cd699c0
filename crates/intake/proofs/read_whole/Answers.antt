-- Each read adds what it gave to the bytes that were there.
use Rattle.std.proofs.Common.{arith, rules}
use Rattle.intake.proofs.Answers.{taken_so}
use Rattle.intake.proofs.read_whole.Goals as goal

pub loop-done-preserved : goal.loop-done-preserved
loop-done-preserved g c =
    record {
      within = omega (arith, c.in-Ok.ensures.bound.0, c.loop-done.auto.buf, c.read-last.auto.buf);
      unfailed = search (rules, c.in-Ok.is);
      bytes = taken_so _ _ _ _ _ _ _ _ _ (omega arith) c.loop-done.invariant.within c.in-Ok.ensures.bound.0 c.in-Ok.ensures.bytes.0 c.loop-done.invariant.bytes;
    }
