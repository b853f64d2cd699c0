-- The numbers of a line one by one, and that a wire's line has at most 16 bytes.
use Rattle.std.specs.Prelude.{◌≡◌, refl, Bool, true, false, List, [], ◌∷◌, ◌++◌, ℕ, zero, suc, ◌+◌, ◌*◌, ◌≤◌, ◌<◌, length, get_or, take}
use Rattle.std.proofs.Common.{sym, ap, ◌∙◌, append_assoc, append-nil, not-suc-le-zero, add-one, arith, length-append, take-suc}
use Rattle.document.specs.Lines.{tab, lf, decimal, spelled}
use Rattle.data.specs.declared.Kind.{Kind}
use Rattle.data.specs.declared.Kind.TheVariants as K
use Rattle.data.specs.declared.Wire.{Wire}
use Rattle.data.specs.declared.Word.TheVariants as W
use Rattle.pieces.specs.Pieces.{numbers, line, of_kind, of_mark, piece}
use Rattle.pieces.specs.declared.Part.{Part}
use Rattle.pieces.specs.declared.Part.TheVariants.{Wires, Outputs}
use Rattle.pieces.proofs.Laws.Numbers.{decimal_few}

pub numbers_none : numbers [] ≡ []
unfolding numbers
numbers_none = refl

numbers_append : (ns : List ℕ) (n : ℕ) → numbers (ns ++ n ∷ []) ≡ numbers ns ++ (tab ∷ decimal n)
unfolding numbers
numbers_append [] n = append-nil (tab ∷ decimal n)
numbers_append (m ∷ ns) n =
    ap (λ (v : List ℕ). (tab ∷ decimal m) ++ v) (numbers_append ns n) ∙ sym (append_assoc (tab ∷ decimal m) (numbers ns) (tab ∷ decimal n))

pub numbers_more : (ns : List ℕ) (i : ℕ) → i < length ns → numbers (take i ns) ++ (tab ∷ decimal (get_or ns i 0)) ≡ numbers (take (i + 1) ns)
numbers_more ns i h = rw (add-one i, take-suc ns i 0 h) (sym (numbers_append (take i ns) (get_or ns i 0)))

-- one number more has room where they all have
pub numbers_within : (ns : List ℕ) (i : ℕ) → i < length ns → length (numbers (take i ns)) + length (tab ∷ decimal (get_or ns i 0)) ≤ length (numbers ns)
unfolding numbers
numbers_within [] i h = absurd (not-suc-le-zero h)
numbers_within (n ∷ ns) zero h = omega (arith, length-append (tab ∷ decimal n) (numbers ns))
numbers_within (n ∷ ns) (suc i) h =
    let z = numbers_within ns i (omega arith) in
    omega (arith, length-append (tab ∷ decimal n) (numbers ns), length-append (tab ∷ decimal n) (numbers (take i ns)))

numbers_few : (ns : List ℕ) → length (numbers ns) ≤ 4 * length ns
unfolding numbers
numbers_few [] = omega arith
numbers_few (n ∷ ns) =
    let z = numbers_few ns in
    omega (arith, decimal_few n, length-append (tab ∷ decimal n) (numbers ns))

pub line_few : (word ns : List ℕ) → length (line word ns) ≤ length word + 4 * length ns + 1
line_few word ns = omega (arith, numbers_few ns, length-append word (numbers ns), length-append (word ++ numbers ns) (lf ∷ []))

kind_few : (w : ℕ) (k : Kind) (a b : ℕ) → length (of_kind w k a b) ≤ 16
unfolding of_kind
kind_few w K.Share a b = omega arith
kind_few w K.Rand a b = omega (arith, line_few (spelled W.Rand) (w ∷ []))
kind_few w K.Pub a b = omega (arith, line_few (spelled W.Pub) (w ∷ []))
kind_few w K.Xor a b = omega (arith, line_few (spelled W.Xor) (w ∷ a ∷ b ∷ []))
kind_few w K.And a b = omega (arith, line_few (spelled W.And) (w ∷ a ∷ b ∷ []))
kind_few w K.Not a b = omega (arith, line_few (spelled W.Not) (w ∷ a ∷ []))

mark_few : (w : ℕ) (b : Bool) → length (of_mark w b) ≤ 16
unfolding of_mark
mark_few w true = omega (arith, line_few (spelled W.Out) (w ∷ []))
mark_few w false = omega arith

pub piece_few : (p : Part) (w : ℕ) (x : Wire) → length (piece p w x) ≤ 16
unfolding piece
piece_few Wires w x = kind_few w x.kind x.a x.b
piece_few Outputs w x = mark_few w x.out
