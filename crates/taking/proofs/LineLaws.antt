-- Laws on one line: what its tests tell of its numbers, what it is answered, and that a state stays below the ceilings.
use mathlib.Core.Path.{◌≡◌, sym, ◌∙◌}
use mathlib.Core.Bool.{true, ◌&&◌}
use Prim.Native.Nat.{ℕ, ◌≤◌, ◌<◌}
use native.Mathlib.Omega.{arith}
use lib.Dec.{leb, eqb, ltb}
use borrow.Author.Tests.{eqb-true, ltb-true}
use Rattle.data.proofs.Laws.Tests.{and_l, and_r, cond_cases}
use Rattle.document.specs.Reading.{made, marked, is_next, earlier, has_room, make, mark_out, take_line}
use Rattle.data.specs.declared.Kind.{Kind}
use Rattle.data.specs.declared.Kind.TheVariants as K
use Rattle.data.specs.declared.Line.{Line}
use Rattle.data.specs.declared.Line.TheVariants as L
use Rattle.data.specs.declared.State.{State}
use Rattle.data.specs.declared.Refusal.{Refusal}
use Rattle.std.specs.Prelude.{Option, None, Some, Result, Ok, Err}
use Rattle.std.proofs.Common.{subst}
use Rattle.state.specs.Ceilings.{UnderCeilings}
use Rattle.state.proofs.Laws.{earlier_xor, earlier_and, earlier_not, room_is}
use Rattle.taking.specs.Operands.{unused_zero}

-- ---- 6

pub next_is : (st : State) (w : ℕ) → is_next st w ≡ true → w ≡ st.n
unfolding is_next
next_is st w h = eqb-true _ _ (and_l (eqb w st.n) (eqb st.outs 0) h)

-- ---- 7

both_zero : (w a b : ℕ) → (eqb a 0 && eqb b 0) ≡ true → (a ≤ w) × (b ≤ w)
both_zero w a b h =
    let x = eqb-true a 0 (and_l (eqb a 0) (eqb b 0) h) in
    let y = eqb-true b 0 (and_r (eqb a 0) (eqb b 0) h) in
    (omega arith, omega arith)

both_below : (w a b : ℕ) → (ltb a w && ltb b w) ≡ true → (a ≤ w) × (b ≤ w)
both_below w a b h =
    let x = ltb-true a w (and_l (ltb a w) (ltb b w) h) in
    let y = ltb-true b w (and_r (ltb a w) (ltb b w) h) in
    (omega arith, omega arith)

-- an operand that is earlier or unused is at most w
pub operands_below : (w : ℕ) (k : Kind) (a b : ℕ) → earlier w k a b ≡ true → unused_zero k a b ≡ true → (a ≤ w) × (b ≤ w)
operands_below w K.Share a b h u = both_zero w a b u
operands_below w K.Rand a b h u = both_zero w a b u
operands_below w K.Pub a b h u = both_zero w a b u
operands_below w K.Xor a b h u = both_below w a b (sym (earlier_xor w a b) ∙ h)
operands_below w K.And a b h u = both_below w a b (sym (earlier_and w a b) ∙ h)
operands_below w K.Not a b h u =
    let x = ltb-true a w (sym (earlier_not w a b) ∙ h) in
    let y = eqb-true b 0 u in
    (omega arith, omega arith)

-- ---- a wire line

-- the numbers of a wire line that is in order are below 128
pub record InOrder (st : State) (k : Kind) (a b : ℕ) : Type 0 where
  pub wires : st.n < 128
  pub first : a < 128
  pub second : b < 128

pub in_order : (st : State) (w : ℕ) (k : Kind) (a b : ℕ)
    → is_next st w ≡ true → earlier w k a b ≡ true → has_room st k ≡ true → unused_zero k a b ≡ true → InOrder st k a b
in_order st w k a b h i j u =
    let x = next_is st w h in
    let y = operands_below w k a b i u in
    let z = room_is st k j in
    record { wires = z.wires; first = omega arith; second = omega arith }

-- ---- the ceilings are kept

made_bounded : (st : State) (k : Kind) (a b : ℕ) → has_room st k ≡ true → UnderCeilings (made st k a b)
unfolding made
made_bounded st k a b h =
    let r = room_is st k h in
    record { few_wires = omega arith; few_rands = r.rands; few_pubs = r.pubs }

-- where there is a state behind a line, it stays below the ceilings
abbrev Keeps : Result State Refusal → Type 0
Keeps (Ok st) = UnderCeilings st
Keeps (Err f) = Unit {0}

make_bounded : (st : State) (w : ℕ) (k : Kind) (a b : ℕ) → Keeps (make st w k a b)
unfolding make
make_bounded st w k a b =
    cond_cases Keeps (is_next st w) _ _
    (λ _. cond_cases Keeps (earlier w k a b) _ _ (λ _. cond_cases Keeps (has_room st k) _ _ (made_bounded st k a b) (λ _. tt)) (λ _. tt))
    (λ _. tt)

mark_bounded : (st : State) (w : ℕ) → UnderCeilings st → Keeps (mark_out st w)
unfolding mark_out marked
mark_bounded st w g =
    cond_cases Keeps (ltb st.outs 64) _ _
    (λ _. cond_cases Keeps (ltb w st.n && leb st.low w) _ _
    (λ _. record { few_wires = g.few_wires; few_rands = g.few_rands; few_pubs = g.few_pubs }) (λ _. tt))
    (λ _. tt)

keeps : (st : State) (l : Option Line) → UnderCeilings st → Keeps (take_line st l)
unfolding take_line
keeps st None g = tt
keeps st (Some (L.Head s d)) g = tt
keeps st (Some (L.Rand w)) g = make_bounded st w K.Rand 0 0
keeps st (Some (L.Pub w)) g = make_bounded st w K.Pub 0 0
keeps st (Some (L.Xor w a b)) g = make_bounded st w K.Xor a b
keeps st (Some (L.And w a b)) g = make_bounded st w K.And a b
keeps st (Some (L.Not w a)) g = make_bounded st w K.Not a 0
keeps st (Some (L.Out w)) g = mark_bounded st w g

pub take_bounded : (st : State) (l : Option Line) (next : State) → UnderCeilings st → take_line st l ≡ Ok next → UnderCeilings next
take_bounded st l next g e = subst Keeps e (keeps st l g)
