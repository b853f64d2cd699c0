-- The lines of the orders one after the other, and that the line of the judging call is the judgement's.
use Rattle.std.specs.Prelude.{◌≡◌, refl, List, [], ◌++◌, ℕ, zero, suc, ◌+◌, ◌-◌, ◌≤◌, length}
use Rattle.std.proofs.Common.{sym, ap, ◌∙◌, append_assoc, append-nil, add-one, arith, le-leb}
use Rattle.document.specs.Routine.{Routine, routine_of}
use Rattle.document.specs.Judgements.{Judgement, judged, judgement_of}
use Rattle.document.specs.Lent.{lent, lent_judged}
use Rattle.document.specs.Desk.{answer_line, order_lines}
use Rattle.data.specs.declared.Wire.{Wire}
use Rattle.data.specs.declared.Shape.{Shape}
use Rattle.data.specs.declared.Judged.{Judged}
use Rattle.data.specs.declared.Which.{Which}
use Rattle.data.specs.declared.Which.TheVariants.{Plain, Strong}
use Rattle.printer.specs.Rooms.{word_room}
use Rattle.answers.specs.Orders.{judgement_word, judgement_line, order_pair}

pub orders_none : (R : Routine) (t : ℕ) → order_lines R 0 t ≡ []
unfolding order_lines
orders_none R t = refl

-- one order more
pub orders_next : (R : Routine) (m t : ℕ) → order_lines R (suc m) t ≡ order_lines R m t ++ order_pair R (t + m)
unfolding order_lines order_pair judgement_line
orders_next R zero t =
    let e : t + 0 ≡ t = omega arith in
    ap (λ (v : List ℕ). judgement_line Plain R t ++ v) (append-nil (judgement_line Strong R t)) ∙ ap (order_pair R) (sym e)
orders_next R (suc m) t =
    let e : suc t + m ≡ t + suc m = omega arith in
    let a = judgement_line Plain R t in
    let b = judgement_line Strong R t in
    let rest = order_lines R m (suc t) in
    let last = order_pair R (t + suc m) in
    ap (λ (v : List ℕ). a ++ (b ++ v)) (orders_next R m (suc t) ∙ ap (λ (k : ℕ). rest ++ order_pair R k) e)
    ∙ sym (append_assoc a (b ++ rest) last ∙ ap (λ (v : List ℕ). a ++ v) (append_assoc b rest last))

orders_more : (R : Routine) (m : ℕ) → order_lines R (m + 1) 1 ≡ order_lines R m 1 ++ order_pair R (m + 1)
orders_more R m =
    let e : 1 + m ≡ m + 1 = omega arith in
    rw (add-one m) (orders_next R m 1) ∙ ap (λ (k : ℕ). order_lines R m 1 ++ order_pair R k) e

-- the lines of the orders up to t end with those of order t
pub orders_to : (R : Routine) (t : ℕ) → 1 ≤ t → order_lines R (t - 1) 1 ++ order_pair R t ≡ order_lines R t 1
orders_to R t h =
    let e : t - 1 + 1 ≡ t = omega arith in
    ap (λ (k : ℕ). order_lines R (t - 1) 1 ++ order_pair R k) (sym e) ∙ sym (orders_more R (t - 1)) ∙ ap (λ (k : ℕ). order_lines R k 1) e

-- ---- the judging call

lent_is : (J : Judgement) (σ : Shape) (ws : List Wire) (t : ℕ) → σ.n ≤ length ws → lent_judged J σ ws t ≡ judged J (routine_of σ ws) t
unfolding lent lent_judged
lent_is J σ ws t h = simp (le-leb σ.n (length ws) h)

-- the line of its answer is that of the judgement
pub line_is_judged : (which : Which) (σ : Shape) (ws : List Wire) (t : ℕ) (p : Judged) → σ.n ≤ length ws
    → p ≡ lent_judged (judgement_of which) σ ws t → answer_line (judgement_word which) t p ≡ judgement_line which (routine_of σ ws) t
unfolding judgement_line
line_is_judged which σ ws t p h e = ap (λ (x : Judged). answer_line (judgement_word which) t x) (e ∙ lent_is (judgement_of which) σ ws t h)

-- its word has room
pub word_few : (which : Which) → length (judgement_word which) ≤ word_room
word_few Plain = omega arith
word_few Strong = omega arith
