-- None of the secrets passed is over the bound.
use Rattle.std.specs.Prelude.{◌≡◌, false}
use Rattle.shares.specs.Words.{some_over}
use Rattle.shares.proofs.over.Given as goal

abbrev pub invariant-loop-i : goal.invariant-loop-i
invariant-loop-i l = some_over l.i l.d l.fn.shares l.bound ≡ false
