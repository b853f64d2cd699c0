-- What the reader keeps true of the operands of a line.
use Rattle.std.specs.Prelude.{Bool, true, ◌&&◌, ℕ, eqb}
use Rattle.data.specs.declared.Kind.{Kind}
use Rattle.data.specs.declared.Kind.TheVariants.{Share, Rand, Pub, Xor, And, Not}

-- 1.27: what the kind has no use for is 0
abbrev pub unused_zero : Kind → ℕ → ℕ → Bool
unused_zero Share a b = eqb a 0 && eqb b 0
unused_zero Rand a b = eqb a 0 && eqb b 0
unused_zero Pub a b = eqb a 0 && eqb b 0
unused_zero Xor a b = true
unused_zero And a b = true
unused_zero Not a b = eqb b 0
