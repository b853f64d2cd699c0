-- Routines and their wire records (section 1 of docs/SPECIFICATION.md): what a record holds, and every ceiling.
use Rattle.std.specs.Prelude.{Bool, true, false, ◌&&◌, List, [], ◌∷◌, ℕ, ◌*◌, ◌/◌, ◌%◌, eqb, ltb, leb, length, get_or, take}
use Rattle.data.specs.Basics.{tally, all, whole_basics}
use Rattle.data.specs.declared.Kind.{Kind}
use Rattle.data.specs.declared.Kind.TheVariants.{Share, Rand, Pub, Xor, And, Not}
use Rattle.data.specs.declared.Wire.{Wire}
use Rattle.data.specs.declared.Shape.{Shape}

-- 1.1, 1.24: S secrets of D shares each, and a record for each wire, in their order
pub record Routine : Type 0 where
  pub S : ℕ
  pub D : ℕ
  pub wires : List Wire

-- 1.13: n, how many wires there are
abbrev pub size : Routine → ℕ
size R = length R.wires

-- 1.28: the blank record, which stands where there is no wire
abbrev pub blank : Wire
blank = record { kind = Share; a = 0; b = 0; out = false }

-- 1.24: the record of wire w
abbrev pub wire : Routine → ℕ → Wire
wire R w = get_or R.wires w blank

-- 1.23: what counts as a random
abbrev pub is_rand : Kind → Bool
is_rand Share = false
is_rand Rand = true
is_rand Pub = false
is_rand Xor = false
is_rand And = false
is_rand Not = false

-- 1.23: what counts as a public
abbrev pub is_pub : Kind → Bool
is_pub Share = false
is_pub Rand = false
is_pub Pub = true
is_pub Xor = false
is_pub And = false
is_pub Not = false

-- 3.3: an `xor` and an `and` have two operands, a `not` has one, the others have none
unfoldable pub operands_of : Kind → ℕ → ℕ → List ℕ
operands_of Share a b = []
operands_of Rand a b = []
operands_of Pub a b = []
operands_of Xor a b = a ∷ b ∷ []
operands_of And a b = a ∷ b ∷ []
operands_of Not a b = a ∷ []

-- 3.3: the operands of wire w
unfoldable pub operands : Routine → ℕ → List ℕ
operands R w = operands_of (wire R w).kind (wire R w).a (wire R w).b

-- 2.3: how many `rand` lines come before wire w
unfoldable pub rands_before : Routine → ℕ → ℕ
rands_before R w = tally w (λ u. is_rand (wire R u).kind)

-- 2.3: how many `pub` lines come before wire w
unfoldable pub pubs_before : Routine → ℕ → ℕ
pubs_before R w = tally w (λ u. is_pub (wire R u).kind)

-- 1.31: how many wires have the output mark
unfoldable pub outputs : Routine → ℕ
outputs R = tally (size R) (λ u. (wire R u).out)

-- 1.12: S lies between 1 and 8, D between 2 and 8
unfoldable pub in_range : ℕ → ℕ → Bool
in_range s d = leb 1 s && leb s 8 && leb 2 d && leb d 8

-- 1.32, 1.33: a record of this kind, a and b may stand at place w
unfoldable pub fits : Routine → ℕ → Kind → ℕ → ℕ → Bool
-- 1.32: the shares stand below S-as-D, each with the numbers of its secret and of itself
fits R w Share a b = ltb w (R.S * R.D) && eqb a (w / R.D) && eqb b (w % R.D)
-- 1.32, 1.33: the others stand from S-as-D on, with operands below w and 0 for what the kind has no use for
fits R w Rand a b = leb (R.S * R.D) w && eqb a 0 && eqb b 0
fits R w Pub a b = leb (R.S * R.D) w && eqb a 0 && eqb b 0
fits R w Xor a b = leb (R.S * R.D) w && ltb a w && ltb b w
fits R w And a b = leb (R.S * R.D) w && ltb a w && ltb b w
fits R w Not a b = leb (R.S * R.D) w && ltb a w && eqb b 0

-- 1.32, 1.33: the record at place w may stand there
unfoldable pub record_fits_lem : Routine → ℕ → Bool
record_fits_lem R w = fits R w (wire R w).kind (wire R w).a (wire R w).b

-- 1.23, 1.31: 128 wires with the shares, 64 randoms, 16 publics, 64 outputs
unfoldable pub ceilings : Routine → Bool
ceilings R = leb (size R) 128 && leb (rands_before R (size R)) 64 && leb (pubs_before R (size R)) 16 && leb (outputs R) 64

-- 1.29, 1.30: S and D are in range, the shares are all there, no ceiling is passed, and every record fits
unfoldable pub well_formed : Routine → Bool
well_formed R = in_range R.S R.D && leb (R.S * R.D) (size R) && ceilings R && all (size R) (record_fits_lem R)

-- 6.3: the routine meant is S, D and the first n records, whatever stands behind them
abbrev pub routine_of : Shape → List Wire → Routine
routine_of σ ws = record { S = σ.s; D = σ.d; wires = take σ.n ws }

-- 6.4, 6.6, 7.11: there are n records, and the first n are those of a well-formed routine
unfoldable pub records_fit : Shape → List Wire → Bool
records_fit σ ws = leb σ.n (length ws) && well_formed (routine_of σ ws)

-- the definitions above, to unfold at once where a proof computes
unfoldable pub whole_routine : Unit {0}
unfolding whole_basics operands_of operands rands_before pubs_before outputs in_range fits record_fits_lem ceilings well_formed records_fit
whole_routine = tt
