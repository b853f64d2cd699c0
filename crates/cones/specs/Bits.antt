-- The bits of one word without those of another.
use Rattle.std.specs.Prelude.{ℕ}
use Rattle.std.specs.Int.Bits.{bit_and, bit_or, bit_xor}

-- the bits of x that are not in y
unfoldable pub minus : ℕ → ℕ → ℕ
minus x y = bit_xor x (bit_and x y)

-- the own randoms of two together, own and rands of the one, mine and rand of the other: those of each that the other does not hold
abbrev pub own_with : ℕ → ℕ → ℕ → ℕ → ℕ
own_with own rands rand mine = bit_or (minus own rand) (minus mine rands)
