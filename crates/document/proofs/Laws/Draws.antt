-- How often the randoms give a pattern: a step keeps it (9.37); the shares that are live after any allowed steps, and the publics, fix it (9.29, 9.30).
use Rattle.std.specs.Prelude.{◌≡◌, List, [], ◌∷◌, ◌++◌, ℕ, ◌≤◌, ◌<◌}
use Rattle.std.proofs.Common.{sym, ◌∙◌, arith}
use Rattle.data.specs.Basics.{at}
use Rattle.document.specs.Routine.{Routine, size}
use Rattle.document.specs.Running.{Value}
use Rattle.document.specs.Starts.{count_after, Small, FixDraws, FewFixDraws}
use Rattle.document.specs.Padding.{probed, first_leaves, live, steps, leaves_after, last_leaves, live_at_end, needed_of, Allowed}
use Rattle.data.proofs.Laws.Tests.{Mem}
use Rattle.document.proofs.Laws.Live.{live_is}
use Rattle.document.proofs.Laws.Values.{Lawful}
use Rattle.document.proofs.Laws.Sound.{Sound}
use Rattle.document.proofs.Laws.Steps.{run_allowed, allowed_front}
use Rattle.document.proofs.Laws.Needed.{probed_length, needed_tally}
use Rattle.document.proofs.Laws.Observing.{count_kept, steps_fix}
use Rattle.document.proofs.Laws.Orders.{steps_run}
use Rattle.data.specs.declared.Step.{Step}

module _ (K : Value) (law : Lawful K) (R : Routine) (so : Sound R) (os : List ℕ) (low : (v : ℕ) → Mem v os → v < size R) where
  pub live_fix : (ss : List Step) → Allowed R (probed os) (first_leaves R) ss
      → FixDraws K R (at (live R (probed os) (leaves_after ss (first_leaves R)))) os
  live_fix ss a publics sy pattern x x' sx sx' agree =
      let L = leaves_after ss (first_leaves R) in
      steps_fix K law R so publics os low pattern ss a sy x x' sx sx'
      (λ w h l. agree w h ((live_is R so.earlier L so.within (probed os) (let n = probed_length os in let f = so.few in omega arith) w).1 l))

  -- a step keeps how often each pattern comes
  pub step_keeps : (ss : List Step) (s : Step) → Allowed R (probed os) (first_leaves R) (ss ++ (s ∷ []))
      → (publics : List ℕ) → Small K.many publics → (pattern x : List ℕ) → Small K.many x
      → count_after K R (ss ++ (s ∷ [])) publics os pattern x ≡ count_after K R ss publics os pattern x
  step_keeps ss s a publics sy pattern x sx =
      count_kept K law R so publics os low pattern (ss ++ (s ∷ [])) a sy x sx
      ∙ sym (count_kept K law R so publics os low pattern ss (allowed_front R (probed os) (first_leaves R) ss (s ∷ []) a) sy x sx)

  -- so do the needed shares
  pub needed_fix : FixDraws K R (at (live_at_end R os)) os
  unfolding live_at_end last_leaves
  needed_fix = live_fix (steps R os) (run_allowed R (probed os) (first_leaves R) (steps R os) (steps_run R so os))

  -- of which each secret has as many as it needs
  pub few_fix : (k : ℕ) → ((i : ℕ) → i < R.S → needed_of R os i ≤ k) → FewFixDraws K R k os
  few_fix k few = record {
    given = at (live_at_end R os);
    few = λ i h. let a = needed_tally R so os i h in let b = few i h in omega arith;
    fix = needed_fix;
  }
