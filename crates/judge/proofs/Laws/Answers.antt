-- The answers of a judgement: its refusals, and what its search found.
use Rattle.std.specs.Prelude.{◌≡◌, refl, Bool, true, cond, List, [], ◌∷◌, ℕ, suc, leb, length}
use Rattle.std.proofs.Common.{sym, ◌∙◌}
use Rattle.std.proofs.Math.Path.{ap, ap₂}
use Rattle.std.proofs.Math.Bool.{false}
use Rattle.document.specs.Routine.{Routine, size, well_formed, routine_of, records_fit}
use Rattle.document.specs.Judgements.{is_open, sets_in_order, sets_judged, opened, first_open, judgement, order_fits, judged_not, judged, judgement_of}
use Rattle.document.specs.Lent.{lent, lent_judged}
use Rattle.data.proofs.Laws.Tests.{bool_cases, and_l, and_r}
use Rattle.data.specs.declared.Refusal.TheVariants as No
use Rattle.data.specs.declared.Judged.{Judged}
use Rattle.data.specs.declared.Wire.{Wire}
use Rattle.data.specs.declared.Shape.{Shape}
use Rattle.data.specs.declared.Which.{Which}
use Rattle.data.specs.declared.Which.TheVariants.{Plain, Strong}
use Rattle.records.proofs.Laws.Fitting.{fit_of}
use Rattle.asking.specs.Checks.{order_in}
use Rattle.growing.specs.Growing.{Searched, found}
use Rattle.searching.specs.Search.{search, found_up_to}
use Rattle.judge.specs.Answers.{answer_of}

pub answer_is : (opens : List ℕ → Bool) (k : ℕ) (ss : List (List ℕ)) → answer_of (search opens k ss) ≡ first_open opens k ss
unfolding search answer_of first_open
answer_is opens k [] = refl
answer_is opens k (ps ∷ later) = go (opens ps) (answer_is opens (suc k) later)
  where
    go : (b : Bool) → answer_of (search opens (suc k) later) ≡ first_open opens (suc k) later
        → answer_of (cond b (found (suc k) ps) (search opens (suc k) later)) ≡ cond b (opened (suc k) ps) (first_open opens (suc k) later)
    go true e = refl
    go false e = e

-- 5.3, 5.4: at order t either judgement has the sets of up to t wires
largest_is : (which : Which) (t : ℕ) → t ≡ (judgement_of which).largest t
largest_is Plain t = refl
largest_is Strong t = refl

module _ (which : Which) (σ : Shape) (ws : List Wire) (t : ℕ) where
  abbrev R : Routine
  R = routine_of σ ws

  abbrev opens : List ℕ → Bool
  opens = is_open (judgement_of which) R t

  pub not_records : records_fit σ ws ≡ false → judged_not No.Records ≡ lent_judged (judgement_of which) σ ws t
  unfolding lent_judged lent judged records_fit
  not_records e = bool_cases (leb σ.n (length ws))
      (λ p. let w : well_formed R ≡ false = rw p at e in simp (p, w))
      (λ p. simp p)

  fit_parts : records_fit σ ws ≡ true → (leb σ.n (length ws) ≡ true) × (well_formed R ≡ true)
  unfolding records_fit
  fit_parts e = (and_l (leb σ.n (length ws)) (well_formed R) e, and_r (leb σ.n (length ws)) (well_formed R) e)

  pub not_order : records_fit σ ws ≡ true → order_in σ.d t ≡ false → judged_not No.Order ≡ lent_judged (judgement_of which) σ ws t
  unfolding lent_judged lent judged order_fits order_in
  not_order e o = let p = fit_parts e in simp (p.0, p.1, o)

  pub judged_answer : records_fit σ ws ≡ true → order_in σ.d t ≡ true → (x : Searched) → x ≡ found_up_to opens t σ.n
      → (r : Judged) → r ≡ answer_of x
      → r ≡ lent_judged (judgement_of which) σ ws t
  unfolding lent_judged lent judged order_fits order_in judgement sets_judged found_up_to
  judged_answer e o x q r a =
      let p = fit_parts e in
      let z = (fit_of σ ws e).sized in
      a ∙ ap answer_of (q ∙ ap₂ (λ (k m : ℕ). search opens 0 (sets_in_order k m)) (largest_is which t) (sym z))
      ∙ answer_is opens 0 (sets_in_order ((judgement_of which).largest t) (size R)) ∙ simp (p.0, p.1, o)
