-- A line of its word and its numbers, as the code puts it together.
use Rattle.std.specs.Prelude.{Option, None, List, [], ◌∷◌, ℕ}
use Rattle.document.specs.Lines.{with1, with2, with3}
use Rattle.data.specs.declared.Word.{Word}
use Rattle.data.specs.declared.Line.{Line}

-- 1.9: each word has one, two or three numbers
abbrev pub with_numbers : Word → List ℕ → Option Line
with_numbers k [] = None
with_numbers k (w ∷ []) = with1 k w
with_numbers k (w ∷ a ∷ []) = with2 k w a
with_numbers k (w ∷ a ∷ b ∷ []) = with3 k w a b
with_numbers k (w ∷ a ∷ b ∷ c ∷ cs) = None
