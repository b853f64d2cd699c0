-- `cones::cones_of` meets its contract. The loop's invariant: the cones and the counts are those of the wires passed.
use Rattle.std.proofs.Common.{◌≡◌, ℕ, ◌<◌, length, get_or}
use Rattle.document.specs.Reading.{routine_in}
use Rattle.counts.specs.Counting.{counts_of}
use Rattle.cones.specs.Seen.{unseen}
use Rattle.cones.specs.Making.{cone_in}
use Rattle.cones.proofs.cones_of.Given as goal

abbrev pub invariant-loop-w : goal.invariant-loop-w
invariant-loop-w l = record {
  room : length l.cones ≡ 128;
  made : (v : ℕ) → v < l.w → get_or l.cones v unseen ≡ cone_in (routine_in l.fn.listing) v;
  counted : l.counts ≡ counts_of l.w l.fn.listing.wires;
}
