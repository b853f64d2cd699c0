-- The text in the order of the code is the specification's (1.47).
use Rattle.std.specs.Prelude.{◌≡◌, refl, take}
use Rattle.std.proofs.Math.Path.{sym, ap}
use Rattle.std.proofs.Common.{◌∙◌}
use mathlib.Core.List.{List, [], ◌∷◌, ◌++◌, append_assoc}
use Prim.Native.Nat.{ℕ, zero, suc, ◌+◌, ◌-◌, ◌*◌, ◌≤◌, ◌<◌}
use native.Mathlib.Omega.{arith}
use Rattle.std.proofs.Math.ListN.{length}
use Rattle.document.specs.Lines.{lf, spelled, line_text, text_of_lines}
use Rattle.document.specs.Routine.{routine_of}
use Rattle.document.specs.Writing.{wire_lines, out_lines, lines_of, text_of}
use Rattle.data.specs.declared.Line.{Line}
use Rattle.std.specs.Prelude.{Option}
use Rattle.data.specs.declared.Shape.{Shape}
use Rattle.data.specs.declared.Wire.{Wire}
use Rattle.data.specs.declared.Word.TheVariants as W
use Rattle.counts.specs.Counting.{record_at}
use Rattle.counts.proofs.Laws.Counts.{wire_is}
use Rattle.records.specs.Records.{Fit}
use Rattle.records.proofs.Laws.Fitting.{kind_share}
use Rattle.pieces.specs.Pieces.{of_mark, piece}
use Rattle.pieces.proofs.Laws.Spelling.{join_line, kind_line, mark_line}
use Rattle.pieces.specs.declared.Part.TheVariants.{Wires, Outputs}
use Rattle.writer.specs.Parts.{head_line, section, text_parts}
use Rattle.writer.proofs.Laws.Sections.{section_none, section_front}

text_append : (xs ys : List (Option Line)) → text_of_lines (xs ++ ys) ≡ text_of_lines xs ++ text_of_lines ys
unfolding text_of_lines
text_append [] ys = refl
text_append (x ∷ xs) ys = ap (λ (t : List ℕ). line_text x ++ lf ∷ t) (text_append xs ys) ∙ sym (append_assoc (line_text x) (lf ∷ text_of_lines xs) (text_of_lines ys))

module _ (σ : Shape) (ws : List Wire) (fit : Fit σ ws) where
  wires_are : (m w : ℕ) → σ.s * σ.d ≤ w → w + m ≤ σ.n → text_of_lines (wire_lines (routine_of σ ws) m w) ≡ section Wires ws w m
  unfolding wire_lines text_of_lines piece
  wires_are zero w l h = sym (section_none Wires ws w)
  wires_are (suc m) w l h =
      let q : w < σ.n = omega arith in
      let x = record_at ws w in
      rw (wire_is σ ws w q, wires_are m (suc w) (omega arith) (omega arith))
      (kind_line w x.kind x.a x.b (section Wires ws (suc w) m) (λ e. let z = kind_share fit w q e in omega arith)
      ∙ sym (section_front Wires ws w m))

  outs_are : (m w : ℕ) → w + m ≤ σ.n → text_of_lines (out_lines (routine_of σ ws) m w) ≡ section Outputs ws w m
  unfolding out_lines text_of_lines piece
  outs_are zero w h = sym (section_none Outputs ws w)
  outs_are (suc m) w h =
      let q : w < σ.n = omega arith in
      rw (wire_is σ ws w q)
      (mark_line w (record_at ws w).out (out_lines (routine_of σ ws) m (suc w))
      ∙ ap (λ (t : List ℕ). of_mark w (record_at ws w).out ++ t) (outs_are m (suc w) (omega arith)) ∙ sym (section_front Outputs ws w m))

  pub text_is : text_of (routine_of σ ws) ≡ text_parts σ ws
  unfolding text_of lines_of text_of_lines text_parts
  text_is =
      let l = fit.shares_in in
      let first = σ.s * σ.d in
      let n = length (take σ.n ws) in
      let R = routine_of σ ws in
      join_line (spelled W.Routine) (σ.s ∷ σ.d ∷ []) (text_of_lines (wire_lines R (n - first) first ++ out_lines R n 0))
      ∙ rw (fit.sized, text_append, wires_are (σ.n - σ.s * σ.d) (σ.s * σ.d) (omega arith) (omega arith), outs_are σ.n 0 (omega arith))
      (sym (append_assoc (head_line σ.s σ.d) (section Wires ws (σ.s * σ.d) (σ.n - σ.s * σ.d)) (section Outputs ws 0 σ.n)))
