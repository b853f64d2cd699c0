-- What a read input promises its callers.
use Rattle.std.specs.Prelude.{ℕ, Result, Ok, Err}
use Rattle.std.specs.declared.io.Error.{Error}
use Rattle.intake.specs.Intake.{input_of, InputEnded, InputWithin}

-- however an input ended, it lies within the room
pub ended_within : (done : ℕ) (last : Result ℕ Error) (room : ℕ) → InputEnded done last room → InputWithin (input_of done last) room
ended_within done (Ok n) room e = e.0
ended_within done (Err f) room e = tt
