-- What the desk program prints of its input.
use Rattle.std.specs.Prelude.{List, [], ℕ, take, Result, Ok, Err}
use Rattle.std.specs.declared.io.Error.{Error}
use Rattle.buffer.specs.Begins.{Begins}
use Rattle.document.specs.Desk.{desk_prints}

-- a whole input is answered as its text is; of one that failed nothing is printed, whatever of it was read
unfoldable pub desk_answers : Result ℕ Error → List ℕ → List ℕ
desk_answers (Ok n) bytes = desk_prints (take n bytes)
desk_answers (Err e) bytes = []

-- the buffer holds what is printed of the input whose bytes are these, r bytes
abbrev pub DeskAnswered : Result ℕ Error → List ℕ → List ℕ → ℕ → List ℕ → Type 0
DeskAnswered input bytes buffer r after = Begins (desk_answers input bytes) buffer r after
