-- What is seen of a growing set: the randoms and shares in its cones, and the randoms that are own to one of its wires.
use Rattle.std.specs.Prelude.{List, [], ◌∷◌, ℕ, get_or}
use Rattle.std.specs.Int.Bits.{bit_or}
use Rattle.document.specs.Routine.{Routine, size}
use Rattle.cones.specs.Bits.{own_with}
use Rattle.cones.specs.Tables.{share_cones, rand_cones, own_rands}
use Rattle.cones.specs.declared.Cone.{Cone}

-- three words of a set
abbrev pub Seen : Type 0
Seen = Cone

-- a set with one wire more, by the wire's words
unfoldable pub see : Seen → ℕ → ℕ → ℕ → Seen
see z share rand own = record { shares = bit_or z.shares share; rands = bit_or z.rands rand; own = own_with z.own z.rands rand own }

abbrev pub unseen : Seen
unseen = record { shares = 0; rands = 0; own = 0 }

unfoldable pub see_wire : Routine → Seen → ℕ → Seen
see_wire R z w = see z (get_or (share_cones R (size R)) w 0) (get_or (rand_cones R (size R)) w 0) (get_or (own_rands R (size R)) w 0)

-- wire by wire
unfoldable pub see_all : Routine → Seen → List ℕ → Seen
see_all R z [] = z
see_all R z (p ∷ ps) = see_all R (see_wire R z p) ps
