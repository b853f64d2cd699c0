-- The answer to a whole input, and to one that failed.
use Rattle.std.specs.Prelude.{refl, List, ℕ, take, Ok, Err}
use Rattle.std.specs.declared.io.Error.{Error}
use Rattle.buffer.specs.Begins.{Begins}
use Rattle.document.specs.Desk.{desk_prints}
use Rattle.desk.specs.Answers.{desk_answers, DeskAnswered}

pub whole_answered : (n : ℕ) (bytes : List ℕ) {buffer : List ℕ} {r : ℕ} {after : List ℕ} →
    Begins (desk_prints (take n bytes)) buffer r after → DeskAnswered (Ok n) bytes buffer r after
unfolding desk_answers
whole_answered n bytes p = p

pub failed_answered : (e : Error) (bytes buffer : List ℕ) → DeskAnswered (Err e) bytes buffer 0 buffer
unfolding desk_answers
failed_answered e bytes buffer = record { said = refl; left = refl }
