-- The printed lines (8.7 to 8.9) in the order of the code, field by field.
use Rattle.std.specs.Prelude.{◌≡◌, refl, List, [], ◌∷◌, ◌++◌, map, ℕ, ◌+◌, ◌<◌, min, length, take, get_or, leb}
use Rattle.std.proofs.Common.{sym, ap, ◌∙◌, append_assoc, append-nil, add-one, arith, leb-false, take-suc, take_all}
use Rattle.data.proofs.Laws.Tests.{bool_cases, leb_true}
use Rattle.document.specs.Lines.{lf, join}
use Rattle.data.specs.ProbeSets.{held}
use Rattle.data.specs.Refusals.{number_of}
use Rattle.document.specs.Desk.{printed, space, printed_line, refused_word, pass_word, open_word, verdict_fields, answer_line}
use Rattle.data.specs.declared.Refusal.{Refusal}
use Rattle.data.specs.declared.Verdict.TheVariants as Says
use Rattle.data.specs.declared.Judged.{Judged}
use Rattle.printer.specs.Fields.{spaced, number_field, wire_fields, refused_line}

join_spaced : (f : List ℕ) (fs : List (List ℕ)) → join space (f ∷ fs) ≡ f ++ spaced fs
unfolding join spaced
join_spaced f [] = sym (append-nil f)
join_spaced f (g ∷ gs) = ap (λ (v : List ℕ). f ++ space ∷ v) (join_spaced g gs)

line_is : (f : List ℕ) (fs : List (List ℕ)) → printed_line (f ∷ fs) ≡ (f ++ spaced fs) ++ lf ∷ []
unfolding printed_line
line_is f fs = ap (λ (v : List ℕ). v ++ lf ∷ []) (join_spaced f fs)

pub answer_line_is : (word : List ℕ) (t : ℕ) (answer : Judged)
    → (word ++ spaced (printed t ∷ verdict_fields answer.verdict (held answer.set))) ++ lf ∷ [] ≡ answer_line word t answer
unfolding answer_line
answer_line_is word t answer = sym (line_is word (printed t ∷ verdict_fields answer.verdict (held answer.set)))

pub refused_line_is : (f : Refusal) (line : ℕ) → ((refused_word ++ number_field (number_of f)) ++ number_field line) ++ lf ∷ [] ≡ refused_line f line
unfolding spaced
refused_line_is f line =
    ap (λ (v : List ℕ). v ++ lf ∷ [])
    (append_assoc refused_word (number_field (number_of f)) (number_field line)
    ∙ ap (λ (v : List ℕ). refused_word ++ (number_field (number_of f) ++ v)) (sym (append-nil (number_field line))))
    ∙ sym (line_is refused_word (printed (number_of f) ∷ printed line ∷ []))

three_fields : (t : ℕ) (word : List ℕ) (n : ℕ) → (number_field t ++ (space ∷ word)) ++ number_field n ≡ spaced (printed t ∷ word ∷ printed n ∷ [])
unfolding spaced
three_fields t word n =
    append_assoc (number_field t) (space ∷ word) (number_field n)
    ∙ ap (λ (v : List ℕ). number_field t ++ ((space ∷ word) ++ v)) (sym (append-nil (number_field n)))

spaced_wires : (ps : List ℕ) → spaced (map printed ps) ≡ wire_fields ps
unfolding spaced wire_fields
spaced_wires [] = refl
spaced_wires (p ∷ ps) = ap (λ (v : List ℕ). number_field p ++ v) (spaced_wires ps)

pub pass_fields_lem : (t k : ℕ) (ps : List ℕ) → (number_field t ++ (space ∷ pass_word)) ++ number_field k ≡ spaced (printed t ∷ verdict_fields (Says.Pass k) ps)
unfolding verdict_fields
pass_fields_lem t k ps = three_fields t pass_word k

pub open_fields : (t k : ℕ) (ps : List ℕ) → ((number_field t ++ (space ∷ open_word)) ++ number_field k) ++ wire_fields ps ≡ spaced
    (printed t ∷ verdict_fields (Says.Open k) ps)
unfolding verdict_fields spaced
open_fields t k ps =
    append_assoc (number_field t ++ (space ∷ open_word)) (number_field k) (wire_fields ps)
    ∙ append_assoc (number_field t) (space ∷ open_word) (number_field k ++ wire_fields ps)
    ∙ ap (λ (v : List ℕ). number_field t ++ ((space ∷ open_word) ++ (number_field k ++ v))) (sym (spaced_wires ps))

pub refused_fields : (t : ℕ) (f : Refusal) (ps : List ℕ)
    → (number_field t ++ (space ∷ refused_word)) ++ number_field (number_of f) ≡ spaced (printed t ∷ verdict_fields (Says.Refused f) ps)
unfolding verdict_fields
refused_fields t f ps = three_fields t refused_word (number_of f)

-- ---- the wires one by one

pub wires_none : wire_fields [] ≡ []
unfolding wire_fields
wires_none = refl

wires_append : (ps : List ℕ) (p : ℕ) → wire_fields (ps ++ p ∷ []) ≡ wire_fields ps ++ number_field p
unfolding wire_fields
wires_append [] p = append-nil (number_field p)
wires_append (q ∷ qs) p = ap (λ (v : List ℕ). number_field q ++ v) (wires_append qs p) ∙ sym (append_assoc (number_field q) (wire_fields qs) (number_field p))

pub wires_more : (ps : List ℕ) (i : ℕ) → i < length ps → wire_fields (take (i + 1) ps) ≡ wire_fields (take i ps) ++ number_field (get_or ps i 0)
wires_more ps i h = rw (add-one i, take-suc ps i 0 h) (wires_append (take i ps) (get_or ps i 0))

-- no more than the four places are held
pub held_whole : (places : List ℕ) (len i : ℕ) → length places ≡ 4 → i ≡ min len 4 → take i places ≡ take len places
held_whole places len i l e =
    bool_cases (leb len 4)
    (λ t. let z = leb_true len 4 t in let y : i ≡ len = omega arith in ap (λ (k : ℕ). take k places) y)
    (λ f. let z = leb-false len 4 f in take_all i places (omega arith) ∙ sym (take_all len places (omega arith)))
