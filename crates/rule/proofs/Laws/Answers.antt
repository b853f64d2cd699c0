-- The answers of the two calls on one set, by the outcome of their tests.
use Rattle.std.specs.Prelude.{◌≡◌, Bool, true, cond, ℕ, zero, suc, ◌+◌, ◌-◌, ◌*◌, ◌≤◌, leb, drop}
use Rattle.std.proofs.Math.Path.{refl, sym, ap, ap₂}
use Rattle.std.proofs.Common.{◌∙◌, arith}
use mathlib.Core.List.{List, ◌∷◌, ◌++◌}
use Rattle.std.proofs.Math.ListN.{length, take, replicate}
use Rattle.std.proofs.lemmas.List.{length-replicate}
use Rattle.std.proofs.lemmas.List.Edits.{sets, sets-eq}
use Rattle.std.proofs.Math.Seq.{take-append-add}
use Rattle.data.specs.Basics.{Marks, at}
use Rattle.document.specs.Routine.{Routine, routine_of, records_fit}
use Rattle.data.specs.ProbeSets.{held}
use Rattle.document.specs.Padding.{probed, steps, needed_shares, bits_of, needed_of, word, live}
use Rattle.document.specs.Judgements.{plain, is_open, set_refusal, needed_not, needing, no_step, padded_not, step_list, padding}
use Rattle.document.specs.Lent.{lent, lent_needing, lent_padding}
use Rattle.data.proofs.Laws.Tests.{cond_true, true_leb}
use Rattle.data.specs.declared.Refusal.{Refusal}
use Rattle.data.specs.declared.Refusal.TheVariants as No
use Rattle.data.specs.Refusals.{Outcome}
use Rattle.std.specs.Prelude.{Ok, Err}
use Rattle.data.specs.declared.Wire.{Wire}
use Rattle.data.specs.declared.Shape.{Shape}
use Rattle.data.specs.declared.ProbeSet.{ProbeSet}
use Rattle.data.specs.declared.Step.{Step}
use Rattle.data.specs.declared.Needed.{Needed}
use Rattle.data.specs.declared.Padded.{Padded}
use Rattle.marks.specs.Passes.{only_wires}
use Rattle.shares.specs.Words.{ones_of, some_over}
use Rattle.asking.specs.Checks.{checked}
use Rattle.asking.proofs.Laws.Checks.{settled, passed_of, by_outcome}
use Rattle.rule.specs.declared.Run.{Run}
use Rattle.rule.specs.declared.Observed.{Observed}
use Rattle.rule.specs.Run.{run_of, needed_by}
use Rattle.rule.specs.Calls.{observed_of, observed_if}
use Rattle.rule.proofs.Laws.Run.{needed_is, steps_are, len_is, run_same, needed_alone}
use Rattle.rule.proofs.Laws.Calls.{few_steps}

-- ---- the list of steps

drop_same : {A : Type 0} (x : A) (k m : ℕ) → k ≤ m → drop k (replicate m x) ≡ replicate (m - k) x
drop_same x zero m h = let e : m ≡ m - 0 = omega arith in ap (λ (j : ℕ). replicate j x) e
drop_same x (suc k) zero h = absurd (omega arith)
drop_same x (suc k) (suc m) h = let e : m - k ≡ suc m - suc k = omega arith in drop_same x k m (omega arith) ∙ ap (λ (j : ℕ). replicate j x) e

take_same : {A : Type 0} (x : A) (k m : ℕ) → k ≤ m → take k (replicate m x) ≡ replicate k x
take_same x zero m h = refl
take_same x (suc k) zero h = absurd (omega arith)
take_same x (suc k) (suc m) h = ap (λ (l : List _). x ∷ l) (take_same x k m (omega arith))

listed : (m : ℕ) (ss : List Step) → length ss ≤ m → sets (replicate m no_step) 0 ss ≡ take m (ss ++ replicate m no_step)
listed m ss h =
    let l = length-replicate {A = Step} m no_step in
    let e : m ≡ length ss + (m - length ss) = omega arith in
    let z : 0 + length ss ≡ length ss = omega arith in
    sets-eq ss (replicate m no_step) 0 (omega arith)
    ∙ ap (λ (k : ℕ). ss ++ drop k (replicate m no_step)) z
    ∙ ap (λ (r : List Step). ss ++ r) (drop_same {A = Step} no_step (length ss) m h ∙ sym (take_same {A = Step} no_step (m - length ss) m (omega arith)))
    ∙ sym (take-append-add ss (replicate m no_step) (m - length ss))
    ∙ ap (λ (k : ℕ). take k (ss ++ replicate m no_step)) (sym e)

module _ (σ : Shape) (ws : List Wire) (t : ℕ) (set : ProbeSet) where
  abbrev R : Routine
  R = routine_of σ ws

  -- ---- the answers

  -- the set is plain-open exactly when some secret has more than t of its needed shares
  open_is : some_over σ.s σ.d (needed_shares R (held set)) t ≡ is_open plain R t (held set)
  unfolding some_over ones_of is_open needed_of bits_of
  open_is = refl

  -- what the run over the wires alone comes to
  pub observed_is : (alone : List Wire) → alone ≡ R.wires → (probe : Marks) → probe ≡ probed (held set) → (run : Run) → run ≡ run_of (only_wires alone) probe
      → (shares : ℕ) → shares ≡ word (σ.s * σ.d) (at (live (only_wires alone) probe run.leaf)) → (b : Bool) → b ≡ some_over σ.s σ.d shares t
      → ◌≡◌ {A = Observed} (record { run = run; shares = shares; undecided = b }) (observed_of R t set)
  unfolding observed_of
  observed_is alone w probe marked run ran shares told b over =
      let whole : run ≡ run_of R (probed (held set)) = ran ∙ ap (λ (l : List Wire). run_of (only_wires l) probe) w ∙ run_same R probe ∙ ap (run_of R) marked in
      let needed : shares ≡ needed_shares R (held set) =
      told ∙ needed_alone R probe alone w run ran ∙ ap (needed_by R) marked ∙ needed_is R (held set) in
      let opens : b ≡ is_open plain R t (held set) = over ∙ ap (λ (k : ℕ). some_over σ.s σ.d k t) needed ∙ open_is in
      cc

  -- the steps of its run, listed
  steps_listed : records_fit σ ws ≡ true → (observed_of R t set).run.steps ≡ take 128 (steps R (held set) ++ replicate 128 no_step)
  unfolding observed_of
  steps_listed good = steps_are R (held set) ∙ listed 128 (steps R (held set)) (few_steps σ ws good (held set))

  needed_answer : Routine → Needed
  needed_answer R = record { outcome = Ok tt; shares = needed_shares R (held set); undecided = is_open plain R t (held set) }

  needing_asks : lent σ ws (needed_not No.Records) (λ R. set_refusal R t set needed_not (needed_answer R)) ≡ lent_needing σ ws t set
  unfolding needed_answer lent_needing needing
  needing_asks = refl

  pub needing_not : (f : Refusal) → checked σ ws t set ≡ Err f → needed_not f ≡ lent_needing σ ws t set
  needing_not f e =
      ap (λ (o : Outcome). settled o needed_not (needed_answer R)) (sym e) ∙ by_outcome σ ws t set needed_not needed_answer ∙ needing_asks

  pub needing_done : checked σ ws t set ≡ Ok tt → (x : Observed) → x ≡ observed_of R t set
      → ◌≡◌ {A = Needed} (record { outcome = Ok tt; shares = x.shares; undecided = x.undecided }) (lent_needing σ ws t set)
  unfolding needed_answer observed_of
  needing_done e x told =
      ap {B = Needed} (λ (y : Observed). record { outcome = Ok tt; shares = y.shares; undecided = y.undecided }) told
      ∙ ap (λ (o : Outcome). settled o needed_not (needed_answer R)) (sym e) ∙ by_outcome σ ws t set needed_not needed_answer ∙ needing_asks

  padded_answer : Routine → Padded
  padded_answer R =
      cond (leb (length (steps R (held set))) 128) (step_list (steps R (held set)) (is_open plain R t (held set))) (padded_not No.Steps)

  padding_asks : lent σ ws (padded_not No.Records) (λ R. set_refusal R t set padded_not (padded_answer R)) ≡ lent_padding σ ws t set
  unfolding padded_answer lent_padding padding
  padding_asks = refl

  pub padding_not : (f : Refusal) → checked σ ws t set ≡ Err f → padded_not f ≡ lent_padding σ ws t set
  padding_not f e =
      ap (λ (o : Outcome). settled o padded_not (padded_answer R)) (sym e) ∙ by_outcome σ ws t set padded_not padded_answer ∙ padding_asks

  -- 16 is never given: a run has no more steps than there are wires
  pub padding_done : checked σ ws t set ≡ Ok tt → (x : Observed) → x ≡ observed_of R t set
      → ◌≡◌ {A = Padded} (record { outcome = Ok tt; steps = x.run.steps; len = x.run.len; undecided = x.undecided }) (lent_padding σ ws t set)
  unfolding padded_answer step_list observed_of
  padding_done e x told =
      let good = (passed_of σ ws t set e).good in
      ap {B = Padded} (λ (y : Observed). record { outcome = Ok tt; steps = y.run.steps; len = y.run.len; undecided = y.undecided }) told
      ∙ ap₂ {C = Padded} (λ (l : List Step) (k : ℕ). record { outcome = Ok tt; steps = l; len = k; undecided = is_open plain R t (held set) })
      (steps_listed good) (len_is R (held set))
      ∙ sym (cond_true _ _ (true_leb (length (steps R (held set))) 128 (few_steps σ ws good (held set))))
      ∙ ap (λ (o : Outcome). settled o padded_not (padded_answer R)) (sym e) ∙ by_outcome σ ws t set padded_not padded_answer ∙ padding_asks

  -- ---- the outcome of the tests, from what was observed

  pub seen_of : (x : Observed) → observed_if (checked σ ws t set) (observed_of R t set) ≡ Ok x → (checked σ ws t set ≡ Ok tt) × (x ≡ observed_of R t set)
  seen_of x e = go (checked σ ws t set) e
    where
      go : (o : Outcome) → observed_if o (observed_of R t set) ≡ Ok x → (o ≡ Ok tt) × (x ≡ observed_of R t set)
      go (Ok u) h = (refl, cc)
      go (Err f) h = cc

  pub refused_of : (f : Refusal) → observed_if (checked σ ws t set) (observed_of R t set) ≡ Err f → checked σ ws t set ≡ Err f
  refused_of f e = go (checked σ ws t set) e
    where
      go : (o : Outcome) → observed_if o (observed_of R t set) ≡ Err f → o ≡ Err f
      go (Ok u) h = cc
      go (Err g) h = cc
