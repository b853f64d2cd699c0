-- The word has the bits below k.
use Rattle.std.specs.Prelude.{◌≡◌}
use Rattle.document.specs.Padding.{word}
use Rattle.data.specs.Basics.{at}
use Rattle.shares.proofs.share_word.Given as goal

abbrev pub invariant-loop-k : goal.invariant-loop-k
invariant-loop-k l = l.shares ≡ word l.k (at l.alive)
