-- What a read leaves in the list that it was lent.
use Rattle.std.specs.Prelude.{List, ◌++◌, take, drop}
use Rattle.data.specs.declared.Read.{Read}
use Rattle.data.specs.declared.Wire.{Wire}

-- what a read leaves in a list
abbrev pub stored : Read → List Wire → List Wire
stored r list = take r.listing.shape.n r.listing.wires ++ drop r.listing.shape.n list
