-- Runs of allowed steps, in any order: the rule's own run is one of them, and all that go on to the end have the same live wires.
use Rattle.std.specs.Prelude.{◌≡◌, refl, true, List, [], ◌∷◌, ℕ, ◌+◌, ◌*◌, ◌≤◌, ◌<◌, length}
use Rattle.std.proofs.Common.{sym, ap₂, ◌∙◌, subst, inl, inr}
use native.Mathlib.Omega.{arith}
use Rattle.std.proofs.lemmas.List.{length-map}
use Rattle.data.specs.Basics.{Marks, at, Among, Once}
use Rattle.document.specs.Routine.{Routine, size, rands_before}
use Rattle.document.specs.Padding.{probed, first_leaves, live, can_pad, stepped, steps, padded_wires, leaves_after}
use Rattle.document.specs.Padding.{live_at_end, needed_of, Allowed, Stuck, Lowest, RuleRun}
use Rattle.data.proofs.Laws.Tests.{clash, out_of, bool_cases, tally_mono, tally_list, Mem}
use Rattle.document.proofs.Laws.Rule.{Run, start, Final, confluent}
use Rattle.document.proofs.Laws.Live.{net, pad_op_of, live_is}
use Rattle.document.proofs.Laws.Steps.{left_most, rule_run, allowed_run, stuck_final, few_steps, allowed_pads, allowed_once}
use Rattle.document.proofs.Laws.Sound.{Sound, is_other, padded_other, others_few, few_rooms, first_length}
use Rattle.document.proofs.Laws.Needed.{probed_length, needed_mono, needed_tally}
use Rattle.data.specs.declared.Step.{Step as Pair}

-- of two lowest steps each is the other
one_lowest : (R : Routine) (probe leaf : Marks) (s s' : Pair) → can_pad R probe leaf s.w s.r ≡ true → Lowest R probe leaf s
    → can_pad R probe leaf s'.w s'.r ≡ true → Lowest R probe leaf s' → s ≡ s'
one_lowest R probe leaf s s' may low may' low' =
    elim (low s'.w s'.r may') [
      | inl l ↦ elim (low' s.w s.r may) [ inl l' ↦ absurd (omega arith) | inr q ↦ let z = q.0 in absurd (omega arith) ]
      | inr p ↦ elim (low' s.w s.r may) [
        | inl l' ↦ let z = p.0 in absurd (omega arith)
        | inr q ↦ let a = p.1 in let b = q.1 in let same : s.r ≡ s'.r = omega arith in ap₂ (λ (w r : ℕ). record { w = w; r = r }) p.0 same
      ]
    ]

-- 3.16 to 3.19: there is one run
pub one_run : (R : Routine) (probe leaf : Marks) (ss ss' : List Pair) → RuleRun R probe leaf ss → RuleRun R probe leaf ss' → ss ≡ ss'
one_run R probe leaf [] [] run run' = refl
one_run R probe leaf [] (s' ∷ ss') run run' = clash run'.0 (run s'.w s'.r)
one_run R probe leaf (s ∷ ss) [] run run' = clash run.0 (run' s.w s.r)
one_run R probe leaf (s ∷ ss) (s' ∷ ss') run run' =
    let is = one_lowest R probe leaf s s' run.0 run.1 run'.0 run'.1 in
    ap₂ (λ (x : Pair) (xs : List Pair). x ∷ xs) is
    (one_run R probe (stepped leaf s.w) ss ss' run.2 (subst (λ (x : Pair). RuleRun R probe (stepped leaf x.w) ss') (sym is) run'.2))

module _ (R : Routine) (so : Sound R) (ps : List ℕ) where
  long : size R ≤ length (probed ps)
  long = let l = probed_length ps in let f = so.few in omega arith

  first_long : size R ≤ length (first_leaves R)
  first_long = let m = first_length R in let f = so.few in omega arith

  -- 3.22: the steps are the run of the rule
  pub steps_run : RuleRun R (probed ps) (first_leaves R) (steps R ps)
  unfolding steps
  steps_run = rule_run R so.earlier so.within (probed ps) long (size R) (first_leaves R) first_long (left_most R (first_leaves R))

  -- 3.20: a list of allowed steps is a run
  allowed_walk : (ss : List Pair) → Allowed R (probed ps) (first_leaves R) ss
      → Run (net R) (at (probed ps)) (at (first_leaves R)) (at (leaves_after ss (first_leaves R)))
  allowed_walk ss = allowed_run R so.earlier so.within (probed ps) long (first_leaves R) ss (first_leaves R) first_long start

  -- 3.24: all lists of allowed steps that go on to the end have the same live wires
  pub any_order : (ss ss' : List Pair) → Allowed R (probed ps) (first_leaves R) ss → Stuck R (probed ps) (leaves_after ss (first_leaves R))
      → Allowed R (probed ps) (first_leaves R) ss' → Stuck R (probed ps) (leaves_after ss' (first_leaves R))
      → (v : ℕ) → at (live R (probed ps) (leaves_after ss (first_leaves R))) v ≡ at (live R (probed ps) (leaves_after ss' (first_leaves R))) v
  any_order ss ss' a s a' s' v =
      let L = leaves_after ss (first_leaves R) in
      let L' = leaves_after ss' (first_leaves R) in
      let same = confluent (net R) (at (probed ps)) (at (first_leaves R)) (allowed_walk ss a) (end L s) (allowed_walk ss' a') (end L' s') v in
      let is = live_is R so.earlier L so.within (probed ps) long v in
      let is' = live_is R so.earlier L' so.within (probed ps) long v in
      bool_cases (at (live R (probed ps) L') v)
      (λ i. is.1 (same.1 (is'.0 i)) ∙ sym i)
      (λ o. out_of (λ i. clash (is'.1 (same.0 (is.0 i))) o) ∙ sym o)
    where
      end : (leaf : Marks) → Stuck R (probed ps) leaf → Final (net R) (at (probed ps)) (at leaf)
      end = stuck_final R so.earlier so.within (probed ps) long

  pub step_count : R.S * R.D + length (steps R ps) ≤ size R
  unfolding steps
  step_count =
      let a = few_steps R so.earlier so.within (probed ps) long (size R) (first_leaves R) first_long in
      let b = few_rooms R so (first_leaves R) in
      omega arith

  -- no two steps of a list of allowed ones pad the same wire
  pub steps_apart : (ss : List Pair) → Allowed R (probed ps) (first_leaves R) ss → Once (padded_wires ss)
  steps_apart ss = allowed_once R so.earlier so.within (probed ps) long ss (first_leaves R) first_long

  -- and each pads a wire that is neither a share nor a random
  pub steps_others : (ss : List Pair) → Allowed R (probed ps) (first_leaves R) ss → (w : ℕ) → Among w (padded_wires ss) → (w < size R) × (is_other R w ≡ true)
  steps_others ss a w m =
      let p = allowed_pads R so.earlier so.within (probed ps) long ss (first_leaves R) a w m in
      (so.within w p.0 (pad_op_of R w p.0 p.1), padded_other R so w p.0 p.1)

  -- so there are no more of them than of such wires
  pub steps_few : (ss : List Pair) → Allowed R (probed ps) (first_leaves R) ss → R.S * R.D + rands_before R (size R) + length ss ≤ size R
  steps_few ss a =
      let b = tally_list (size R) (is_other R) (padded_wires ss) (steps_apart ss a) (steps_others ss a) in
      let c = others_few R so in
      let d = length-map ss (λ s. s.w) in
      omega arith

-- 3.25: more probes need no less, of each secret
pub needed_more : (R : Routine) → Sound R → (ps qs : List ℕ) → ((v : ℕ) → Mem v ps → Mem v qs) → ((v : ℕ) → Mem v ps → v < size R)
    → (i : ℕ) → i < R.S → needed_of R ps i ≤ needed_of R qs i
needed_more R so ps qs sub low i h =
    let a = needed_tally R so ps i h in
    let b = needed_tally R so qs i h in
    let c = tally_mono R.D (λ j. at (live_at_end R ps) (i * R.D + j)) (λ j. at (live_at_end R qs) (i * R.D + j))
    (λ j _ e. needed_mono R so ps qs sub low (i * R.D + j) e) in
    omega arith
