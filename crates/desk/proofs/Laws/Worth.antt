-- What a pass is worth that the desk program has printed, and that it prints of an input what the whole of it says.
use Rattle.std.specs.Prelude.{◌≡◌, refl, List, [], ◌∷◌, ◌++◌, ℕ, length, take}
use Rattle.std.proofs.Common.{ap, ◌∙◌, subst, arith, length-append}
use Rattle.document.specs.Lines.{lf, join}
use Rattle.document.specs.Reading.{reading, routine_in}
use Rattle.document.specs.Worth.{PassesPlain}
use Rattle.document.specs.Desk.{space, printed, plain_word, pass_word, printed_line, desk_prints, pass_line, HasLine}
use Rattle.document.proofs.Theorems.{printed_pass_keeps, cut_prints_same}
use Rattle.std.specs.Prelude.{Result, Ok, Err}
use Rattle.std.specs.declared.io.Error.{Error}
use Rattle.buffer.proofs.Laws.Beginning.{begins_first}
use Rattle.desk.specs.Answers.{desk_answers, DeskAnswered}

-- a line is not nothing
no_line : (t c : ℕ) → HasLine (pass_line t c) [] → ⊥
unfolding printed_line
no_line t c l =
    let fields = join space (plain_word ∷ printed t ∷ pass_word ∷ printed c ∷ []) in
    let e = ap length l.splits in
    let a = length-append l.before (pass_line t c ++ l.after) in
    let b = length-append (pass_line t c) l.after in
    let d = length-append fields (lf ∷ []) in
    omega arith

-- what has the line is of a whole input, and its bytes are read as a routine that passes at t
kept : (input : Result ℕ Error) (bytes : List ℕ) (t c : ℕ) → HasLine (pass_line t c) (desk_answers input bytes)
    → (n : ℕ) × (input ≡ Ok n) × ((reading (take n bytes)).outcome ≡ Ok tt) × PassesPlain (routine_in (reading (take n bytes)).listing) t c
unfolding desk_answers
kept (Ok n) bytes t c l = let p = printed_pass_keeps (take n bytes) t c l in (n, refl, p.0, p.1)
kept (Err e) bytes t c l = absurd (no_line t c l)

-- 8.4, 9.26: where the r bytes that are written have the line `plain t pass c`, the input is whole, and its bytes are read as a routine that
-- passes there and keeps its secrets
pub desk_pass_keeps : (input : Result ℕ Error) (bytes buffer : List ℕ) (r : ℕ) (after : List ℕ) (t c : ℕ) → DeskAnswered input bytes buffer r after
    → HasLine (pass_line t c) (take r after)
    → (n : ℕ) × (input ≡ Ok n) × ((reading (take n bytes)).outcome ≡ Ok tt) × PassesPlain (routine_in (reading (take n bytes)).listing) t c
desk_pass_keeps input bytes buffer r after t c p l = kept input bytes t c (subst (HasLine (pass_line t c)) (begins_first p) l)

-- 8.5, 8.16: where the bytes are the first 4,097 of a text, or all it has, its answer is that of the whole text
pub desk_whole : (text bytes : List ℕ) (n : ℕ) → take n bytes ≡ take 4097 text → desk_answers (Ok n) bytes ≡ desk_prints text
unfolding desk_answers
desk_whole text bytes n e = ap desk_prints e ∙ cut_prints_same text
