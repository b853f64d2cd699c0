-- Words of the theorems: lines whose numbers can be written, and the read that a routine's own text gives.
use Rattle.std.specs.Prelude.{Option, None, Some, List, [], ◌∷◌, ◌++◌, ℕ, ◌-◌, ◌<◌, replicate}
use Rattle.data.specs.declared.Line.{Line}
use Rattle.data.specs.declared.Line.TheVariants as L
use Rattle.std.specs.Prelude.{Ok}
use Rattle.data.specs.declared.Shape.{Shape}
use Rattle.data.specs.declared.Listing.{Listing}
use Rattle.data.specs.declared.Read.{Read}
use Rattle.document.specs.Routine.{Routine, size, blank}

-- ---- lines

-- it is a line, and each of its numbers is below m
abbrev pub Below : ℕ → Option Line → Type 0
Below m None = ⊥
Below m (Some (L.Head s d)) = (s < m) × (d < m)
Below m (Some (L.Rand w)) = w < m
Below m (Some (L.Pub w)) = w < m
Below m (Some (L.Xor w a b)) = (w < m) × (a < m) × (b < m)
Below m (Some (L.And w a b)) = (w < m) × (a < m) × (b < m)
Below m (Some (L.Not w a)) = (w < m) × (a < m)
Below m (Some (L.Out w)) = w < m

-- a line whose numbers can be written
abbrev pub Writable : Option Line → Type 0
Writable l = Below 1000 l

-- true of each line
abbrev pub Each : (Option Line → Type 0) → List (Option Line) → Type 0
Each P [] = Unit {0}
Each P (l ∷ ls) = P l × Each P ls

-- ---- reads

abbrev pub shape_of : Routine → Shape
shape_of R = record { s = R.S; d = R.D; n = size R }

-- 1.37: the records of the n wires, and blank ones up to 128
abbrev pub listing_for : Routine → Listing
listing_for R = record { shape = shape_of R; wires = R.wires ++ replicate (128 - size R) blank }

-- the read that stands for a routine
abbrev pub read_of : Routine → Read
read_of R = record { outcome = Ok tt; line = 0; listing = listing_for R }
