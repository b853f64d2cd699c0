-- The tables as the code makes them: the cone of one wire from its record and the cones of its operands.
use Rattle.std.specs.Prelude.{◌≡◌, cond, List, ℕ, ◌≤◌, ◌<◌, eqb, length, get_or}
use Rattle.std.specs.Int.Bits.{bit_or}
use Rattle.document.specs.Routine.{Routine, size, routine_of}
use Rattle.data.specs.declared.Kind.{Kind}
use Rattle.data.specs.declared.Kind.TheVariants.{Share, Rand, Pub, Xor, And, Not}
use Rattle.data.specs.declared.Wire.{Wire}
use Rattle.data.specs.declared.Shape.{Shape}
use Rattle.cones.specs.Bits.{own_with}
use Rattle.cones.specs.Tables.{share_cones, rand_cones, own_rands}
use Rattle.cones.specs.Seen.{unseen}
use Rattle.cones.specs.declared.Cone.{Cone}

-- all bits of the operands' words x and y
abbrev pub gather_of : Kind → ℕ → ℕ → ℕ
gather_of Share x y = 0
gather_of Rand x y = 0
gather_of Pub x y = 0
gather_of Xor x y = bit_or x y
gather_of And x y = bit_or x y
gather_of Not x y = x

-- the own randoms of a wire of the kind, from its bit if it is a random and the cones of its operands a and b
abbrev pub own_between : Kind → ℕ → ℕ → ℕ → Cone → Cone → ℕ
own_between Share bit a b p q = 0
own_between Rand bit a b p q = bit
own_between Pub bit a b p q = 0
own_between Xor bit a b p q = cond (eqb a b) 0 (own_with p.own p.rands q.rands q.own)
own_between And bit a b p q = 0
own_between Not bit a b p q = p.own

abbrev pub own_from : Wire → ℕ → Cone → Cone → ℕ
own_from x bit p q = own_between x.kind bit x.a x.b p q

-- the cone of a record, from its bit among the shares, its bit among the randoms and the cones of its operands
abbrev pub cone_from : Wire → ℕ → ℕ → Cone → Cone → Cone
cone_from x share rand p q = record {
  shares = bit_or share (gather_of x.kind p.shares q.shares);
  rands = bit_or rand (gather_of x.kind p.rands q.rands);
  own = own_from x rand p q;
}

-- what the tables say of wire w
abbrev pub cone_in : Routine → ℕ → Cone
cone_in R w = record {
  shares = get_or (share_cones R (size R)) w 0;
  rands = get_or (rand_cones R (size R)) w 0;
  own = get_or (own_rands R (size R)) w 0;
}

-- the cones of the routine's wires
pub record TablesOf (σ : Shape) (ws : List Wire) (cones : List Cone) : Type 0 where
  pub long : σ.n ≤ length cones
  pub each : (w : ℕ) → w < σ.n → get_or cones w unseen ≡ cone_in (routine_of σ ws) w
