-- A part of a routine's text with a wire more, how long it is, and how long the text is.
use Rattle.std.specs.Prelude.{◌≡◌, List, ◌++◌, ℕ, ◌+◌, ◌-◌, ◌*◌, length}
use Rattle.std.proofs.Common.{ap, ◌∙◌, add-one, arith, length-append}
use Rattle.document.specs.Lines.{decimal, spelled}
use Rattle.data.specs.declared.Shape.{Shape}
use Rattle.data.specs.declared.Wire.{Wire}
use Rattle.data.specs.declared.Word.TheVariants as W
use Rattle.counts.specs.Counting.{record_at}
use Rattle.pieces.specs.Pieces.{piece}
use Rattle.pieces.specs.declared.Part.{Part}
use Rattle.pieces.specs.declared.Part.TheVariants.{Wires, Outputs}
use Rattle.writer.specs.Parts.{section, text_parts}
use Rattle.writer.proofs.Laws.Sections as Sections
use Rattle.laws.proofs.Pieces.{line2_long}

-- a wire more
pub section_more : (p : Part) (ws : List Wire) (first m : ℕ)
    → section p ws first (m + 1) ≡ section p ws first m ++ piece p (first + m) (record_at ws (first + m))
unfolding section
section_more p ws first m = simp add-one

-- its length
pub section_longer : (p : Part) (ws : List Wire) (first m : ℕ)
    → length (section p ws first (m + 1)) ≡ length (section p ws first m) + length (piece p (first + m) (record_at ws (first + m)))
section_longer p ws first m = ap length (section_more p ws first m) ∙ length-append (section p ws first m) (piece p (first + m) (record_at ws (first + m)))

-- the text: the first line has 10 bytes beside its two numbers
pub text_long : (σ : Shape) (ws : List Wire) → length (text_parts σ ws)
    ≡ 10 + length (decimal σ.s) + length (decimal σ.d) + length (section Wires ws (σ.s * σ.d) (σ.n - σ.s * σ.d)) + length
    (section Outputs ws 0 σ.n)
text_long σ ws = Sections.text_long σ ws ∙ rw (line2_long (spelled W.Routine) σ.s σ.d) (omega arith)
