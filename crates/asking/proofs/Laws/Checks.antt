-- The tests of a call on one set, part by part; their outcome in the stated order, and an answer by it.
use Rattle.std.specs.Prelude.{◌≡◌, refl, true, false, ◌&&◌, cond, List, leb, length, get_or, drop}
use Rattle.std.proofs.Common.{sym, ◌∙◌, length-take-le}
use Rattle.std.proofs.Math.Path.{ap}
use Rattle.std.proofs.Math.Bool.{Bool}
use Prim.Native.Nat.{ℕ, ◌+◌, ◌≤◌, ◌<◌}
use borrow.Author.Tests.{le-ltb, lt-leb}
use Rattle.std.proofs.Math.Dec.{ltb}
use Rattle.data.specs.Basics.{each}
use Rattle.data.specs.ProbeSets.{held, ascending}
use Rattle.data.proofs.Laws.Tests.{clash, cond_true, cond_false, and_l, and_r, true_ltb, leb_true, true_leb, bool_cases}
use Rattle.std.proofs.Common.{drop_of_length-le}
use Rattle.data.proofs.Laws.Placing.{from_place}
use Rattle.document.specs.Routine.{Routine, routine_of, well_formed, records_fit}
use Rattle.document.specs.Judgements.{order_fits, probes_fit, set_refusal}
use Rattle.document.specs.Lent.{lent}
use Rattle.data.specs.declared.Refusal.{Refusal}
use Rattle.data.specs.declared.Refusal.TheVariants as No
use Rattle.data.specs.Refusals.{Outcome}
use Rattle.std.specs.Prelude.{Ok, Err}
use Rattle.data.specs.declared.Wire.{Wire}
use Rattle.data.specs.declared.Shape.{Shape}
use Rattle.data.specs.declared.ProbeSet.{ProbeSet}
use Rattle.asking.specs.Checks.{order_in, probes_in, Accepted, checked}

pub order_high : (d t : ℕ) → order_in d t ≡ true → t ≤ 4
unfolding order_in
order_high d t e = leb_true t 4 (search (and_l, and_r))

module _ (n t : ℕ) (set : ProbeSet) where
  pub empty_refused : set.len ≤ 0 → false ≡ probes_in n t set
  unfolding probes_in
  empty_refused h = simp (le-ltb 0 set.len h)

  pub large_refused : 0 < set.len → t < set.len → false ≡ probes_in n t set
  unfolding probes_in
  large_refused l h = simp (true_ltb 0 set.len l, lt-leb set.len t h)

  pub unordered_refused : 0 < set.len → set.len ≤ t → ascending (held set) ≡ false → false ≡ probes_in n t set
  unfolding probes_in
  unordered_refused l h a = simp (true_ltb 0 set.len l, true_leb set.len t h, a)

  pub named_decides : 0 < set.len → set.len ≤ t → ascending (held set) ≡ true → each (λ w. ltb w n) (held set) ≡ probes_in n t set
  unfolding probes_in
  named_decides l h a = simp (true_ltb 0 set.len l, true_leb set.len t h, a)

-- the numbers from place i on are wires
module _ (xs : List ℕ) (n : ℕ) where
  pub named_on : (i : ℕ) → i < length xs → get_or xs i 0 < n → each (λ w. ltb w n) (drop i xs) ≡ each (λ w. ltb w n) (drop (i + 1) xs)
  unfolding each
  named_on i l h = ap (each (λ w. ltb w n)) (from_place xs i l)
      ∙ ap (λ (b : Bool). b && each (λ w. ltb w n) (drop (i + 1) xs)) (true_ltb (get_or xs i 0) n h)

  pub named_not : (i : ℕ) → i < length xs → n ≤ get_or xs i 0 → each (λ w. ltb w n) (drop i xs) ≡ false
  unfolding each
  named_not i l h = ap (each (λ w. ltb w n)) (from_place xs i l)
      ∙ ap (λ (b : Bool). b && each (λ w. ltb w n) (drop (i + 1) xs)) (le-ltb (get_or xs i 0) n h)

  pub named_end : (i : ℕ) → length xs ≤ i → each (λ w. ltb w n) (drop i xs) ≡ true
  unfolding each
  named_end i l = ap (each (λ w. ltb w n)) (drop_of_length-le xs {i = i} l)

-- ---- the outcome of the tests

-- 11, 12 and 13, in this order
abbrev answer_in_order : {A : Type 0} → Bool → Bool → Bool → (Refusal → A) → A → A
answer_in_order good order probes refuse answer = cond good (cond order (cond probes answer (refuse No.Probes)) (refuse No.Order)) (refuse No.Records)

-- what a call answers once its tests are made
abbrev pub settled : {A : Type 0} → Outcome → (Refusal → A) → A → A
settled (Ok u) refuse answer = answer
settled (Err f) refuse answer = refuse f

abbrev is_done : Outcome → Bool
is_done (Ok u) = true
is_done (Err f) = false

settles : {A : Type 0} (g o p : Bool) (refuse : Refusal → A) (answer : A) → settled (answer_in_order g o p Err (Ok tt)) refuse answer ≡ answer_in_order g o p refuse answer
settles true true true refuse answer = refl
settles true true false refuse answer = refl
settles true false p refuse answer = refl
settles false o p refuse answer = refl

all_three : (g o p : Bool) → ◌≡◌ {A = Outcome} (answer_in_order g o p Err (Ok tt)) (Ok tt) → (g ≡ true) × (o ≡ true) × (p ≡ true)
all_three true true true e = (refl, refl, refl)
all_three true true false e = clash (ap is_done e) refl
all_three true false p e = clash (ap is_done e) refl
all_three false o p e = clash (ap is_done e) refl

module _ (σ : Shape) (ws : List Wire) (t : ℕ) (set : ProbeSet) where
  abbrev R : Routine
  R = routine_of σ ws

  -- 7.22: the order of the refusals, by the tests of the code
  in_order : {A : Type 0} (refuse : Refusal → A) (answer : Routine → A)
      → lent σ ws (refuse No.Records) (λ R. set_refusal R t set refuse (answer R))
      ≡ answer_in_order (records_fit σ ws) (order_in σ.d t) (probes_in σ.n t set) refuse (answer R)
  unfolding lent set_refusal records_fit order_in order_fits probes_in probes_fit
  in_order {A} refuse answer =
      let whole : ℕ → Bool → A = λ (m : ℕ) (b : Bool). answer_in_order b (order_in σ.d t) (probes_in m t set) refuse (answer R) in
      bool_cases (leb σ.n (length ws))
      (λ long. cond_true _ _ long
      ∙ ap (λ (m : ℕ). whole m (well_formed R)) (length-take-le σ.n ws (leb_true σ.n (length ws) long))
      ∙ ap (λ (b : Bool). whole σ.n (b && well_formed R)) (sym long))
      (λ short. cond_false _ _ short ∙ ap (λ (b : Bool). whole σ.n (b && well_formed R)) (sym short))

  checked_is : checked σ ws t set ≡ answer_in_order (records_fit σ ws) (order_in σ.d t) (probes_in σ.n t set) Err (Ok tt)
  unfolding checked
  checked_is = in_order Err (λ _. (Ok tt))

  pub check_records : records_fit σ ws ≡ false → Err No.Records ≡ checked σ ws t set
  check_records e = sym (checked_is ∙ cond_false _ _ e)

  pub check_order : records_fit σ ws ≡ true → order_in σ.d t ≡ false → Err No.Order ≡ checked σ ws t set
  check_order g e = sym (checked_is ∙ cond_true _ _ g ∙ cond_false _ _ e)

  pub check_probes : records_fit σ ws ≡ true → order_in σ.d t ≡ true → probes_in σ.n t set ≡ false → Err No.Probes ≡ checked σ ws t set
  check_probes g o e = sym (checked_is ∙ cond_true _ _ g ∙ cond_true _ _ o ∙ cond_false _ _ e)

  pub check_passes : records_fit σ ws ≡ true → order_in σ.d t ≡ true → probes_in σ.n t set ≡ true → (Ok tt) ≡ checked σ ws t set
  check_passes g o e = sym (checked_is ∙ cond_true _ _ g ∙ cond_true _ _ o ∙ cond_true _ _ e)

  pub passed_of : checked σ ws t set ≡ Ok tt → Accepted σ ws t set
  passed_of e = let a = all_three (records_fit σ ws) (order_in σ.d t) (probes_in σ.n t set) (sym checked_is ∙ e) in
      record { good = a.0; order = a.1; probes = a.2 }

  -- a call on one set answers by the outcome of its tests
  pub by_outcome : {A : Type 0} (refuse : Refusal → A) (answer : Routine → A)
      → settled (checked σ ws t set) refuse (answer R) ≡ lent σ ws (refuse No.Records) (λ R. set_refusal R t set refuse (answer R))
  by_outcome refuse answer =
      ap (λ (o : Outcome). settled o refuse (answer R)) checked_is ∙ settles (records_fit σ ws) (order_in σ.d t) (probes_in σ.n t set) refuse (answer R)
      ∙ sym (in_order refuse answer)
