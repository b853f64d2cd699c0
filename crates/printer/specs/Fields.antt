-- The printed lines field by field: each field behind the first with its space.
use Rattle.std.specs.Prelude.{List, [], ◌∷◌, ◌++◌, ℕ}
use Rattle.document.specs.Desk.{printed, space, printed_line, refused_word}
use Rattle.data.specs.Refusals.{number_of}
use Rattle.data.specs.declared.Refusal.{Refusal}

-- the fields, each behind a space
unfoldable pub spaced : List (List ℕ) → List ℕ
spaced [] = []
spaced (f ∷ fs) = (space ∷ f) ++ spaced fs

-- a space and a number
abbrev pub number_field : ℕ → List ℕ
number_field n = space ∷ printed n

-- the wires of a set, each behind a space
unfoldable pub wire_fields : List ℕ → List ℕ
wire_fields [] = []
wire_fields (p ∷ ps) = number_field p ++ wire_fields ps

-- the line of a refused text
abbrev pub refused_line : Refusal → ℕ → List ℕ
refused_line f line = printed_line (refused_word ∷ printed (number_of f) ∷ printed line ∷ [])
