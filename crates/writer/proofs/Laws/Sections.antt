-- The laws of a part of the text: one wire more, the wire at its front, and its length.
use Rattle.std.specs.Prelude.{◌≡◌, refl, List, [], ◌∷◌, ◌++◌, ℕ, zero, suc, ◌+◌, ◌-◌, ◌*◌, ◌≤◌, ◌<◌, length}
use Rattle.std.proofs.Common.{sym, ap, ap₂, ◌∙◌, append_assoc, append-nil, not-suc-le-zero, arith, length-append}
use Rattle.data.proofs.Laws.Tests.{wire_cases}
use Rattle.document.specs.Lines.{spelled}
use Rattle.data.specs.declared.Shape.{Shape}
use Rattle.data.specs.declared.Wire.{Wire}
use Rattle.data.specs.declared.Word.TheVariants as W
use Rattle.counts.specs.Counting.{record_at}
use Rattle.pieces.specs.Pieces.{piece}
use Rattle.pieces.proofs.Laws.Lengths.{line_few, piece_few}
use Rattle.pieces.specs.declared.Part.{Part}
use Rattle.pieces.specs.declared.Part.TheVariants.{Wires, Outputs}
use Rattle.writer.specs.Parts.{head_line, section, text_parts}

pub section_none : (p : Part) (ws : List Wire) (first : ℕ) → section p ws first 0 ≡ []
unfolding section
section_none p ws first = refl

-- what is behind the first i wires still fits where the whole section does
pub section_within : (p : Part) (ws : List Wire) (first i m : ℕ) → i < m
    → length (section p ws first i) + length (piece p (first + i) (record_at ws (first + i))) ≤ length (section p ws first m)
unfolding section
section_within p ws first i zero h = absurd (not-suc-le-zero h)
section_within p ws first i (suc m) h =
    let z = length-append (section p ws first m) (piece p (first + m) (record_at ws (first + m))) in
    wire_cases i m
    (λ e. rw e (omega arith))
    (λ o. let y = section_within p ws first i m (omega arith) in omega arith)

-- from the front
pub section_front : (p : Part) (ws : List Wire) (first m : ℕ) → section p ws first (suc m) ≡ piece p first (record_at ws first) ++ section p ws (suc first) m
unfolding section
section_front p ws first zero =
    let e : first + 0 ≡ first = omega arith in
    ap (λ (w : ℕ). piece p w (record_at ws w)) e ∙ sym (append-nil (piece p first (record_at ws first)))
section_front p ws first (suc m) =
    let e : first + suc m ≡ suc first + m = omega arith in
    ap₂ ◌++◌ (section_front p ws first m) (ap (λ (w : ℕ). piece p w (record_at ws w)) e)
    ∙ append_assoc (piece p first (record_at ws first)) (section p ws (suc first) m) (piece p (suc first + m) (record_at ws (suc first + m)))

-- a wire has at most 16 bytes of it
section_few : (p : Part) (ws : List Wire) (first m : ℕ) → length (section p ws first m) ≤ 16 * m
unfolding section
section_few p ws first zero = omega arith
section_few p ws first (suc m) =
    let z = section_few p ws first m in
    let x = record_at ws (first + m) in
    omega (arith, piece_few p (first + m) x, length-append (section p ws first m) (piece p (first + m) x))

-- the three parts of the text
pub text_long : (σ : Shape) (ws : List Wire) → length (text_parts σ ws)
    ≡ length (head_line σ.s σ.d) + length (section Wires ws (σ.s * σ.d) (σ.n - σ.s * σ.d)) + length (section Outputs ws 0 σ.n)
unfolding text_parts
text_long σ ws =
    let head = head_line σ.s σ.d in
    let wires = section Wires ws (σ.s * σ.d) (σ.n - σ.s * σ.d) in
    length-append (head ++ wires) (section Outputs ws 0 σ.n) ∙ rw (length-append head wires) refl

-- no text is longer than a count counts
pub text_few : (σ : Shape) (ws : List Wire) → σ.n ≤ 128 → length (text_parts σ ws) ≤ 4112
text_few σ ws h = omega (
  arith,
  text_long σ ws,
  line_few (spelled W.Routine) (σ.s ∷ σ.d ∷ []),
  section_few Wires ws (σ.s * σ.d) (σ.n - σ.s * σ.d),
  section_few Outputs ws 0 σ.n,
)
