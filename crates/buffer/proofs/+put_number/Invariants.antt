-- `buffer::put_number` meets its contract: the digits of a tenth, then the last. The measure is the number.
use Rattle.buffer.proofs.+put_number.Given as goal

abbrev pub decreases-put_number : goal.decreases-put_number
decreases-put_number g l = l.n
