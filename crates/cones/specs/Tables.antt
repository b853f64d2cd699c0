-- The tables of the cones, a word for each wire: the shares and the randoms in its cone, and its own randoms.
use Rattle.std.specs.Prelude.{cond, List, [], ◌∷◌, ◌++◌, ℕ, zero, suc, ◌*◌, ◌^◌, eqb, ltb, get_or}
use Rattle.std.specs.Int.Bits.{bit_or}
use Rattle.document.specs.Routine.{Routine, size, wire, is_rand, rands_before, operands}
use Rattle.data.specs.declared.Kind.{Kind}
use Rattle.data.specs.declared.Kind.TheVariants.{Share, Rand, Pub, Xor, And, Not}
use Rattle.cones.specs.Bits.{minus}

-- ---- a list made wire by wire, each from those before it

unfoldable pub built : ((ℕ → ℕ) → ℕ → ℕ) → ℕ → List ℕ
built f zero = []
built f (suc k) = let ws = built f k in ws ++ (f (λ v. get_or ws v 0) k ∷ [])

-- ---- cones

-- the bit of a share, of a random
unfoldable pub share_bit : Routine → ℕ → ℕ
share_bit R w = cond (ltb w (R.S * R.D)) (2 ^ w) 0

unfoldable pub rand_bit : Routine → ℕ → ℕ
rand_bit R w = cond (is_rand (wire R w).kind) (2 ^ rands_before R w) 0

-- all bits of the listed wires
unfoldable pub gather : (ℕ → ℕ) → List ℕ → ℕ
gather e [] = 0
gather e (v ∷ vs) = bit_or (e v) (gather e vs)

unfoldable pub cone_at : Routine → (ℕ → ℕ) → (ℕ → ℕ) → ℕ → ℕ
cone_at R bit e w = bit_or (bit w) (gather e (operands R w))

unfoldable pub share_cones : Routine → ℕ → List ℕ
share_cones R k = built (cone_at R (share_bit R)) k

unfoldable pub rand_cones : Routine → ℕ → List ℕ
rand_cones R k = built (cone_at R (rand_bit R)) k

-- ---- own randoms

-- from the bit of a random, the own randoms of one operand that the other does not hold, or those of the one operand that there is
unfoldable pub own_of : Kind → ℕ → ℕ → ℕ → (ℕ → ℕ) → (ℕ → ℕ) → ℕ
own_of Share bit a b cone own = 0
own_of Rand bit a b cone own = bit
own_of Pub bit a b cone own = 0
own_of Xor bit a b cone own = cond (eqb a b) 0 (bit_or (minus (own a) (cone b)) (minus (own b) (cone a)))
own_of And bit a b cone own = 0
own_of Not bit a b cone own = own a

unfoldable pub own_at : Routine → (ℕ → ℕ) → (ℕ → ℕ) → ℕ → ℕ
own_at R cone own w = own_of (wire R w).kind (2 ^ rands_before R w) (wire R w).a (wire R w).b cone own

unfoldable pub own_rands : Routine → ℕ → List ℕ
own_rands R k = built (own_at R (λ v. get_or (rand_cones R (size R)) v 0)) k
