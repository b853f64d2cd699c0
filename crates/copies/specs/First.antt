-- The first records of a lent list, as an array by value holds them.
use Rattle.std.specs.Prelude.{◌&&◌, cond, List, ◌++◌, ℕ, leb, length, take, drop}
use Rattle.document.specs.Reading.{blanks}
use Rattle.data.specs.declared.Wire.{Wire}
use Rattle.data.specs.declared.Shape.{Shape}
use Rattle.data.specs.declared.Listing.{Listing}

-- the first k records, and blanks behind them
abbrev pub fetched : ℕ → List Wire → List Wire
fetched k list = take k list ++ drop k blanks

-- n, or 0 where a list of this length or an array of 128 has not so many
unfoldable pub clipped : ℕ → ℕ → ℕ
clipped len n = cond (leb n len && leb n 128) n 0

-- the first n records, or only blanks where there are not so many
unfoldable pub first_of : ℕ → List Wire → List Wire
first_of n list = fetched (clipped (length list) n) list

-- the routine of the shape and the list by value
abbrev pub listing_of : Shape → List Wire → Listing
listing_of σ list = record { shape = σ; wires = first_of σ.n list }
