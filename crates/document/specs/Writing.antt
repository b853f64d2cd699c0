-- The text of a routine, and writing it into a lent buffer (1.47, 1.48 and section 6 of docs/SPECIFICATION.md).
use Rattle.std.specs.Prelude.{cond, Option, None, Some, List, [], ◌∷◌, ◌++◌, ℕ, zero, suc, ◌-◌, ◌*◌, leb, length, drop}
use Rattle.document.specs.Routine.{Routine, size, wire, well_formed, whole_routine}
use Rattle.document.specs.Lines.{text_of_lines}
use Rattle.data.specs.declared.Kind.{Kind}
use Rattle.data.specs.declared.Kind.TheVariants as K
use Rattle.data.specs.declared.Line.{Line}
use Rattle.data.specs.declared.Line.TheVariants as L
use Rattle.data.specs.declared.Refusal.{Refusal}
use Rattle.data.specs.declared.Refusal.TheVariants as No
use Rattle.std.specs.Prelude.{Ok, Err}
use Rattle.data.specs.declared.Written.{Written}

-- 1.16, 1.48: the line that makes wire w, its operands in the order a, b; a share has none
unfoldable pub line_of_kind : ℕ → Kind → ℕ → ℕ → Option Line
line_of_kind w K.Share a b = None
line_of_kind w K.Rand a b = Some (L.Rand w)
line_of_kind w K.Pub a b = Some (L.Pub w)
line_of_kind w K.Xor a b = Some (L.Xor w a b)
line_of_kind w K.And a b = Some (L.And w a b)
line_of_kind w K.Not a b = Some (L.Not w a)

-- 1.47: the line of wire w
abbrev pub wire_line : Routine → ℕ → Option Line
wire_line R w = line_of_kind w (wire R w).kind (wire R w).a (wire R w).b

-- 1.47: the lines of m wires from w on
unfoldable pub wire_lines : Routine → ℕ → ℕ → List (Option Line)
wire_lines R zero w = []
wire_lines R (suc m) w = wire_line R w ∷ wire_lines R m (suc w)

-- 1.47: the `out` lines of the outputs among m wires from w on, ascending
unfoldable pub out_lines : Routine → ℕ → ℕ → List (Option Line)
out_lines R zero w = []
out_lines R (suc m) w = cond (wire R w).out (Some (L.Out w) ∷ out_lines R m (suc w)) (out_lines R m (suc w))

-- 1.47: the header, the lines of the wires from S-as-D on, then the `out` lines
unfoldable pub lines_of : Routine → List (Option Line)
lines_of R = Some (L.Head R.S R.D) ∷ (wire_lines R (size R - R.S * R.D) (R.S * R.D) ++ out_lines R (size R) 0)

-- 1.47: the routine's text
unfoldable pub text_of : Routine → List ℕ
text_of R = text_of_lines (lines_of R)

-- 7.19: the tests of a writing, 11 and then 15
unfoldable pub write_refusal : {A : Type 0} → Routine → List ℕ → (Refusal → A) → A → A
write_refusal R buffer refuse answer =
    cond (well_formed R) (cond (leb (length (text_of R)) (length buffer)) answer (refuse No.Buffer)) (refuse No.Records)

-- 6.11, 7.24: the answer has the length of the text, or 0 with a refusal
unfoldable pub written : Routine → List ℕ → Written
written R buffer = write_refusal R buffer (λ f. record { outcome = Err f; len = 0 }) (record { outcome = Ok tt; len = length (text_of R) })

-- 6.11 to 6.13: the buffer begins with the text then and keeps its later bytes; a refusal keeps all of it
unfoldable pub written_into : Routine → List ℕ → List ℕ
written_into R buffer = write_refusal R buffer (λ _. buffer) (text_of R ++ drop (length (text_of R)) buffer)

-- the definitions above, to unfold at once where a proof computes
unfoldable pub whole_writing : Unit {0}
unfolding whole_routine line_of_kind wire_lines out_lines lines_of text_of write_refusal written written_into
whole_writing = tt
