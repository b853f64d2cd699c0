-- What each part of a routine's text has of one wire.
use Rattle.std.specs.Prelude.{Bool, true, false, List, [], ◌∷◌, ◌++◌, ℕ}
use Rattle.document.specs.Lines.{tab, lf, decimal, spelled}
use Rattle.data.specs.declared.Kind.{Kind}
use Rattle.data.specs.declared.Kind.TheVariants as K
use Rattle.data.specs.declared.Wire.{Wire}
use Rattle.data.specs.declared.Word.TheVariants as W
use Rattle.pieces.specs.declared.Part.{Part}
use Rattle.pieces.specs.declared.Part.TheVariants.{Wires, Outputs}

-- numbers, each behind a tab
unfoldable pub numbers : List ℕ → List ℕ
numbers [] = []
numbers (n ∷ ns) = (tab ∷ decimal n) ++ numbers ns

-- a line with its LF
abbrev pub line : List ℕ → List ℕ → List ℕ
line word ns = (word ++ numbers ns) ++ lf ∷ []

-- the line that makes wire w; a share has none
unfoldable pub of_kind : ℕ → Kind → ℕ → ℕ → List ℕ
of_kind w K.Share a b = []
of_kind w K.Rand a b = line (spelled W.Rand) (w ∷ [])
of_kind w K.Pub a b = line (spelled W.Pub) (w ∷ [])
of_kind w K.Xor a b = line (spelled W.Xor) (w ∷ a ∷ b ∷ [])
of_kind w K.And a b = line (spelled W.And) (w ∷ a ∷ b ∷ [])
of_kind w K.Not a b = line (spelled W.Not) (w ∷ a ∷ [])

-- the `out` line of wire w, if it is an output
unfoldable pub of_mark : ℕ → Bool → List ℕ
of_mark w true = line (spelled W.Out) (w ∷ [])
of_mark w false = []

-- what a part of the text has of wire w, whose record is x
unfoldable pub piece : Part → ℕ → Wire → List ℕ
piece Wires w x = of_kind w x.kind x.a x.b
piece Outputs w x = of_mark w x.out
