-- `lines::share_records` meets its contract: the records of the first `i` shares are made.
use mathlib.Core.Path.{◌≡◌}
use Rattle.document.specs.Reading.{share_records}
use Rattle.lines.proofs.share_records.Given as goal

abbrev pub invariant-loop-i : goal.invariant-loop-i
invariant-loop-i l = l.wires ≡ share_records l.d l.i
