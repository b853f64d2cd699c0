-- `records::all_fit` meets its contract. The loop's invariant: all records passed fit.
use mathlib.Core.Path.{◌≡◌}
use mathlib.Core.Bool.{true}
use Rattle.data.specs.Basics.{all}
use Rattle.counts.specs.Counting.{record_at}
use Rattle.records.specs.Records.{fits_at}
use Rattle.records.proofs.all_fit.Given as goal

abbrev pub invariant-loop-w : goal.invariant-loop-w
invariant-loop-w l = all l.w (λ u. fits_at l.s l.d u (record_at l.ws u)) ≡ true
