-- `values::bit_at` meets its contract: a shift and a mask give the bit, and no word has one from 64 on.
use Rattle.values.proofs.Laws.Bits.{bit_is, bit_none}
use Rattle.values.proofs.bit_at.Goals as goal

pub returns-then-k-lt64 : goal.returns-then-k-lt64
returns-then-k-lt64 c = bit_is c.args.word c.args.k c.if-k-lt64.true

pub returns-else-k-lt64 : goal.returns-else-k-lt64
returns-else-k-lt64 c = bit_none c.args.word c.args.k c.if-k-lt64.false
