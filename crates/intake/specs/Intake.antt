-- What an input is by its last read, and when it is whole.
use Rattle.std.specs.Prelude.{◌≡◌, ℕ, ◌≤◌, ◌<◌, List, Option, Result, Ok, Err}
use Rattle.std.specs.declared.io.Error.{Error}
use Rattle.std.specs.Io.KnownBytes.{IsAtEnd}

-- 8.3: what `done` bytes are of an input whose last read answered this: all of it, or a part, where that read failed
abbrev pub input_of : ℕ → Result ℕ Error → Result ℕ Error
input_of done (Ok n) = Ok done
input_of done (Err e) = Err e

-- 8.1, 8.2: how a reading ends: where there is no room for more, where the last read found the end, or where it failed
abbrev pub InputEnded : ℕ → Result ℕ Error → ℕ → Type 0
InputEnded done (Ok n) room = (done ≤ room) × (done < room → n ≡ 0)
InputEnded done (Err e) room = done < room

-- a whole input lies within the room
abbrev pub InputWithin : Result ℕ Error → ℕ → Type 0
InputWithin (Ok n) room = n ≤ room
InputWithin (Err e) room = Unit {0}

-- a whole input that leaves room is all that the reader had, where that is known
abbrev pub InputExhausts : ℕ → Result ℕ Error → ℕ → Option (List ℕ) → Type 0
InputExhausts done (Ok n) room left = done < room → IsAtEnd left
InputExhausts done (Err e) room left = Unit {0}
