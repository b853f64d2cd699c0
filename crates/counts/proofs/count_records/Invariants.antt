-- `counts::count_records` meets its contract. The loop's invariant: the counts are those of the records passed.
use mathlib.Core.Path.{◌≡◌}
use Rattle.counts.specs.Counting.{counts_of}
use Rattle.counts.proofs.count_records.Given as goal

abbrev pub invariant-loop-x : goal.invariant-loop-x
invariant-loop-x l = l.c ≡ counts_of l.x-index l.ws
