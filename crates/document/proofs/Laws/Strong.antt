-- The strong judgement (9.31, 9.32): a set has no more inner wires than wires, so what is not open by it is not open by the plain one;
-- and its bound does not speak of the order.
use Rattle.std.specs.Prelude.{ℕ, ◌≤◌, List, length}
use Rattle.std.proofs.Common.{arith}
use Rattle.document.specs.Routine.{Routine, size}
use Rattle.document.specs.Judgements.{plain, strong, inner, is_open, sets_judged, NoneOpen}
use Rattle.document.proofs.Laws.Lists.{kept_few}
use Rattle.document.proofs.Laws.Sets.{sets→, sets←}
use Rattle.document.proofs.Laws.Judging.{closed_exactly}

inner_few : (R : Routine) (ps : List ℕ) → inner R ps ≤ length ps
unfolding inner
inner_few R ps = kept_few _ ps

module _ (R : Routine) (t : ℕ) (none : NoneOpen (is_open strong R t) (sets_judged strong R t)) where
  pub strong_plain : NoneOpen (is_open plain R t) (sets_judged plain R t)
  unfolding sets_judged
  strong_plain ps h =
      (closed_exactly plain R t ps).1 (λ i k.
      let a = (closed_exactly strong R t ps).0 (none ps h) i k in
      let b = inner_few R ps in
      let c = (sets→ t (size R) ps h).2 in
      omega arith)

  pub strong_lower : (k : ℕ) → k ≤ t → NoneOpen (is_open strong R k) (sets_judged strong R k)
  unfolding is_open sets_judged
  strong_lower k below ps h = let z = sets→ k (size R) ps h in let few = z.2 in none ps (sets← t (size R) ps z.0 z.1 (omega arith))
