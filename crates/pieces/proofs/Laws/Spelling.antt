-- The lines of the code are the specification's lines (1.47, 1.48), in front of any others.
use Rattle.std.specs.Prelude.{◌≡◌, refl, Bool, true, false, cond, List, [], ◌∷◌, ◌++◌, map, ℕ}
use Rattle.std.proofs.Common.{sym, ap, ◌∙◌, append_assoc, append-nil}
use Rattle.document.specs.Lines.{tab, lf, decimal, join, spelled, line_text, text_of_lines}
use Rattle.document.specs.Writing.{line_of_kind}
use Rattle.data.specs.declared.Kind.{Kind}
use Rattle.data.specs.declared.Kind.TheVariants as K
use Rattle.data.specs.declared.Line.{Line}
use Rattle.std.specs.Prelude.{Option, Some}
use Rattle.data.specs.declared.Line.TheVariants as L
use Rattle.data.specs.declared.Word.TheVariants as W
use Rattle.pieces.specs.Pieces.{numbers, line, of_kind, of_mark}

join_numbers : (word ns : List ℕ) → join tab (word ∷ map decimal ns) ≡ word ++ numbers ns
unfolding join numbers
join_numbers word [] = sym (append-nil word)
join_numbers word (n ∷ ns) = ap (λ (v : List ℕ). word ++ tab ∷ v) (join_numbers (decimal n) ns)

pub join_line : (word ns t : List ℕ) → join tab (word ∷ map decimal ns) ++ lf ∷ t ≡ line word ns ++ t
join_line word ns t = ap (λ (v : List ℕ). v ++ lf ∷ t) (join_numbers word ns) ∙ sym (append_assoc (word ++ numbers ns) (lf ∷ []) t)

-- the line that makes a wire, and its `out` line
pub kind_line : (w : ℕ) (k : Kind) (a b : ℕ) (t : List ℕ) → (k ≡ K.Share → ⊥) → line_text (line_of_kind w k a b) ++ lf ∷ t ≡ of_kind w k a b ++ t
unfolding line_of_kind of_kind
kind_line w K.Share a b t h = absurd (h refl)
kind_line w K.Rand a b t h = join_line (spelled W.Rand) (w ∷ []) t
kind_line w K.Pub a b t h = join_line (spelled W.Pub) (w ∷ []) t
kind_line w K.Xor a b t h = join_line (spelled W.Xor) (w ∷ a ∷ b ∷ []) t
kind_line w K.And a b t h = join_line (spelled W.And) (w ∷ a ∷ b ∷ []) t
kind_line w K.Not a b t h = join_line (spelled W.Not) (w ∷ a ∷ []) t

pub mark_line : (w : ℕ) (b : Bool) (ls : List (Option Line)) → text_of_lines (cond b (Some (L.Out w) ∷ ls) ls) ≡ of_mark w b ++ text_of_lines ls
unfolding text_of_lines of_mark
mark_line w true ls = join_line (spelled W.Out) (w ∷ []) (text_of_lines ls)
mark_line w false ls = refl
