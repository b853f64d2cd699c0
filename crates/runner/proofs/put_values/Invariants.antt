-- `runner::put_values` meets its contract. The loop's invariant: the first w values stand in the buffer, the rest of it is as it came,
-- and the counts are those of the records passed.
use mathlib.Core.List.{◌++◌}
use mathlib.Core.Path.{◌≡◌}
use lib.ListN.{length, drop}
use Rattle.counts.specs.Counting.{counts_of}
use Rattle.runner.specs.Run.{values}
use Rattle.runner.proofs.put_values.Given as goal

abbrev pub invariant-loop-w : goal.invariant-loop-w
invariant-loop-w l = record {
  kept : length l.buf ≡ length l.initial.buf;
  counted : l.c ≡ counts_of l.w l.ws;
  written : l.buf ≡ values (length l.ws) l.ws l.inputs.shares l.inputs.randoms l.inputs.publics l.w ++ drop l.w l.initial.buf;
}
