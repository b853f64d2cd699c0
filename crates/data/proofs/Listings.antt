-- A listing's array has 128 records, as the proofs of the functions that take one need it.
use mathlib.Core.Path.{◌≡◌}
use lib.ListN.{length}
use denote.Laws.{Is}
use denote.Struct.Declared.{row}
use denote.Struct.Laws as S
use Rattle.data.specs.declared.Listing.{Listing}
use Rattle.data.specs.contracts.Listing as L
use Rattle.data.proofs.Listing.TheLaws as L'

pub listing_long : (l : Listing) → Is (row L.the_type) l (S.vals L.the_type L'.the_laws l) → length l.wires ≡ 128
listing_long l g = g.1.1.1.0.1.0.1
