-- The parts of a run: the values wire by wire, and a refusal.
use Rattle.std.specs.Prelude.{List, ℕ, get_or, take}
use Rattle.document.specs.Routine.{routine_of}
use Rattle.document.specs.Running.{bit, gives, bits, first_values}
use Rattle.std.specs.Prelude.{Err}
use Rattle.data.specs.declared.Ran.{Ran}
use Rattle.data.specs.declared.Refusal.{Refusal}
use Rattle.data.specs.declared.Shape.{Shape}
use Rattle.data.specs.declared.Wire.{Wire}

-- a refused run wrote nothing
abbrev pub ran_not : Refusal → Ran
ran_not f = record { outcome = Err f; len = 0 }

-- the value of wire w of record x, where the values of the wires before it stand in the buffer
abbrev pub value_from : List ℕ → ℕ → Wire → ℕ → ℕ → ℕ → ℕ
value_from buffer w x share random public = gives bit x.kind share random public (get_or (take w buffer) x.a 0) (get_or (take w buffer) x.b 0)

-- n wires of any S and D, on which no value depends
abbrev pub unsized : ℕ → Shape
unsized n = record { s = 0; d = 0; n = n }

-- the values of the first k wires
unfoldable pub values : ℕ → List Wire → ℕ → ℕ → ℕ → ℕ → List ℕ
values n ws shares randoms publics k = first_values bit (routine_of (unsized n) ws) (bits 64 shares) (bits 64 randoms) (bits 64 publics) k
