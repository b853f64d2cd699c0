-- A routine's text in the order of the code: the first line, then the wires and the outputs, record by record.
use Rattle.std.specs.Prelude.{List, [], ◌∷◌, ◌++◌, ℕ, zero, suc, ◌+◌, ◌-◌, ◌*◌}
use Rattle.document.specs.Lines.{spelled}
use Rattle.std.specs.Prelude.{Err}
use Rattle.data.specs.declared.Refusal.{Refusal}
use Rattle.data.specs.declared.Shape.{Shape}
use Rattle.data.specs.declared.Wire.{Wire}
use Rattle.data.specs.declared.Word.TheVariants as W
use Rattle.data.specs.declared.Written.{Written}
use Rattle.counts.specs.Counting.{record_at}
use Rattle.pieces.specs.Pieces.{line, piece}
use Rattle.pieces.specs.declared.Part.{Part}
use Rattle.pieces.specs.declared.Part.TheVariants.{Wires, Outputs}

-- the first line
abbrev pub head_line : ℕ → ℕ → List ℕ
head_line s d = line (spelled W.Routine) (s ∷ d ∷ [])

-- what a part of the text has of the m wires from `first` on
unfoldable pub section : Part → List Wire → ℕ → ℕ → List ℕ
section p ws first zero = []
section p ws first (suc m) = section p ws first m ++ piece p (first + m) (record_at ws (first + m))

-- the text
unfoldable pub text_parts : Shape → List Wire → List ℕ
text_parts σ ws = head_line σ.s σ.d ++ section Wires ws (σ.s * σ.d) (σ.n - σ.s * σ.d) ++ section Outputs ws 0 σ.n

-- a refused writing wrote nothing
abbrev pub written_not : Refusal → Written
written_not f = record { outcome = Err f; len = 0 }
