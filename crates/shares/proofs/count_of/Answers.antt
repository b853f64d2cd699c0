-- `shares::count_of` meets its contract. The mask leaves one secret's bits.
use mathlib.Core.Path.{ap, ◌∙◌}
use Prim.Native.Nat.{ℕ, ◌*◌}
use native.Mathlib.Omega.{arith}
use lib.Count.{ones}
use lib.Bits.{bit_and}
use Rattle.shares.proofs.Laws.Words.{mask_word, ones_masked}
use Rattle.shares.proofs.count_of.Goals as goal

pub returns : goal.returns
returns c = ap (λ (m : ℕ). ones (bit_and c.args.shares m)) (mask_word c.args.d (c.args.i * c.args.d) (omega arith) (omega arith))
    ∙ ones_masked c.args.shares c.args.d c.args.i
