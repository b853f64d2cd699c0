-- The run of the rule, step by step, to its end; and that its steps look at neither S nor D.
use Rattle.std.specs.Prelude.{◌≡◌, Bool, ◌&&◌, length, set}
use Rattle.std.proofs.Math.Path.{refl, ap}
use Rattle.std.proofs.Common.{sym, ap₂, ◌∙◌, add-one, arith}
use Rattle.std.proofs.Math.Bool.{true, not, cond}
use mathlib.Core.List.{List, [], ◌∷◌}
use Rattle.std.proofs.Math.Option.{Option, none, some}
use Prim.Native.Nat.{ℕ, zero, suc, ◌+◌, ◌-◌, ◌*◌, ◌≤◌, ◌<◌}
use Rattle.std.proofs.Math.ListN.{replicate}
use Rattle.std.proofs.lemmas.List.Edits.{sets}
use Rattle.data.specs.Basics.{elem, Marks, at, mark}
use Rattle.document.specs.Routine.{Routine, size, wire, is_rand, operands}
use Rattle.document.specs.Padding.{unmarked, probed, rands_from, first_leaves, live_down, live, pads, consumes, only_consumer, serves, pads_by, first_pad, lowest_pad}
use Rattle.document.specs.Padding.{next_step, stepped, go_on, steps_from, steps, padded_wires, last_leaves, live_at_end, word, needed_shares}
use Rattle.document.specs.Judgements.{no_step}
use Rattle.data.proofs.Laws.Tests.{and_l, and_r, elem→}
use Rattle.document.proofs.Laws.Live.{pad_op_of}
use Rattle.document.proofs.Laws.Steps.{lowest_some}
use Rattle.document.proofs.Laws.Sound.{within_of}
use Rattle.data.specs.declared.Wire.{Wire}
use Rattle.data.specs.declared.Step.{Step}
use Rattle.marks.specs.Passes.{only_wires}
use Rattle.rule.specs.declared.Run.{Run}
use Rattle.rule.specs.Run.{noted, after, gone_on, run_begun, run_of, needed_by}

after_none : (run : Run) → after run [] ≡ run
unfolding after mark
after_none run = let e : run.len + 0 ≡ run.len = omega arith in ap {B = Run} (λ (k : ℕ). record { leaf = run.leaf; steps = run.steps; len = k }) e

after_one : (run : Run) (s : Step) (ss : List Step) → after (noted run s) ss ≡ after run (s ∷ ss)
unfolding after mark
after_one run s ss =
    let e : run.len + 1 + length ss ≡ run.len + length (s ∷ ss) = omega arith in
    ap₂ (λ (i k : ℕ). record { leaf = mark (padded_wires ss) (stepped run.leaf s.w); steps = sets (set run.steps run.len s) i ss; len = k })
    (add-one run.len) e

module _ (R : Routine) (probe : Marks) where
  pub run_full : (k : ℕ) (run : Run) → k ≤ 0 → gone_on R probe k run ≡ run
  unfolding gone_on steps_from
  run_full zero run h = after_none run
  run_full (suc k) run h = absurd (omega arith)

  pub run_ended : (k : ℕ) (run : Run) → next_step R probe run.leaf ≡ none → gone_on R probe k run ≡ run
  unfolding gone_on steps_from go_on
  run_ended zero run e = after_none run
  run_ended (suc k) run e = ap (λ (o : Option Step). after run (go_on (steps_from R probe k) run.leaf o)) e ∙ after_none run

  more : (k : ℕ) (run : Run) (s : Step) → next_step R probe run.leaf ≡ some s → gone_on R probe k (noted run s) ≡ gone_on R probe (suc k) run
  unfolding gone_on steps_from go_on
  more k run s e =
      after_one run s (steps_from R probe k (stepped run.leaf s.w))
      ∙ ap (λ (o : Option Step). after run (go_on (steps_from R probe k) run.leaf o)) (sym e)

  pub run_more : (n k : ℕ) (run : Run) (s : Step) → k < n → next_step R probe run.leaf ≡ some s
      → gone_on R probe (n - (k + 1)) (noted run s) ≡ gone_on R probe (n - k) run
  run_more n k run s h e =
      let f : suc (n - (k + 1)) ≡ n - k = omega arith in
      more (n - (k + 1)) run s e ∙ ap (λ (m : ℕ). gone_on R probe m run) f

  -- a padded wire is one of the routine's
  pub next_below : (leaf : Marks) (s : Step) → next_step R probe leaf ≡ some s → s.w < size R
  unfolding next_step pads_by
  next_below leaf s e =
      let ok = lowest_some R (pads_by R probe leaf (live R probe leaf)) (size R) 0 s e in
      let mine : elem s.r (pads R s.w) ≡ true = and_r (at (live R probe leaf) s.w && not (at leaf s.w)) (elem s.r (pads R s.w))
      (and_l (at (live R probe leaf) s.w && not (at leaf s.w) && elem s.r (pads R s.w))
      (serves R probe leaf (live R probe leaf) s.w s.r) ok) in
      within_of R s.w s.r (pad_op_of R s.w s.r (elem→ s.r (pads R s.w) mine))

pub run_all : (R : Routine) (probe leaf : Marks) → leaf ≡ first_leaves R
    → gone_on R probe (size R - 0) (record { leaf = leaf; steps = replicate 128 no_step; len = 0 }) ≡ run_of R probe
unfolding run_of
run_all R probe leaf h = let e : size R - 0 ≡ size R = omega arith in
    ap₂ (λ (k : ℕ) (m : Marks). gone_on R probe k (record { leaf = m; steps = replicate 128 no_step; len = 0 })) e h

pub needed_is : (R : Routine) (ps : List ℕ) → needed_by R (probed ps) ≡ needed_shares R ps
unfolding needed_by run_of gone_on after needed_shares live_at_end last_leaves steps
needed_is R ps = refl

pub steps_are : (R : Routine) (ps : List ℕ) → (run_of R (probed ps)).steps ≡ sets (replicate 128 no_step) 0 (steps R ps)
unfolding run_of gone_on after steps
steps_are R ps = refl

pub len_is : (R : Routine) (ps : List ℕ) → (run_of R (probed ps)).len ≡ length (steps R ps)
unfolding run_of gone_on after steps
len_is R ps = let e : 0 + length (steps R ps) ≡ length (steps R ps) = omega arith in e

-- ---- the steps look at neither S nor D

module _ (R : Routine) where
  live_any : (leaf : Marks) (k : ℕ) (m : Marks) → live_down (only_wires R.wires) leaf k m ≡ live_down R leaf k m
  unfolding live_down operands
  live_any leaf zero m = refl
  live_any leaf (suc k) m = live_any leaf k (cond (at m k && not (at leaf k)) (mark (operands (only_wires R.wires) k) m) m)

  pub live_same : (probe leaf : Marks) → live (only_wires R.wires) probe leaf ≡ live R probe leaf
  unfolding live
  live_same probe leaf = live_any leaf (size (only_wires R.wires)) probe

  rands_any : (m lo : ℕ) → rands_from (only_wires R.wires) m lo ≡ rands_from R m lo
  unfolding rands_from
  rands_any zero lo = refl
  rands_any (suc m) lo = ap (λ (rs : List ℕ). cond (is_rand (wire (only_wires R.wires) lo).kind) (lo ∷ rs) rs) (rands_any m (suc lo))

  first_same : first_leaves (only_wires R.wires) ≡ first_leaves R
  unfolding first_leaves
  first_same = ap (λ (rs : List ℕ). mark rs unmarked) (rands_any (size (only_wires R.wires)) 0)

  lowest_any : (ok : ℕ → ℕ → Bool) (m w : ℕ) → lowest_pad (only_wires R.wires) ok m w ≡ lowest_pad R ok m w
  unfolding lowest_pad pads
  lowest_any ok zero w = refl
  lowest_any ok (suc m) w = ap (first_pad (ok w) w (pads (only_wires R.wires) w)) (lowest_any ok m (suc w))

  next_same : (probe leaf : Marks) → next_step (only_wires R.wires) probe leaf ≡ next_step R probe leaf
  unfolding next_step pads_by pads serves only_consumer consumes operands
  next_same probe leaf =
      ap (λ (alive : Marks). lowest_pad (only_wires R.wires) (pads_by (only_wires R.wires) probe leaf alive) (size (only_wires R.wires)) 0) (live_same probe leaf)
      ∙ lowest_any (pads_by R probe leaf (live R probe leaf)) (size (only_wires R.wires)) 0

  steps_any : (probe : Marks) (k : ℕ) (leaf : Marks) → steps_from (only_wires R.wires) probe k leaf ≡ steps_from R probe k leaf
  unfolding steps_from go_on
  steps_any probe zero leaf = refl
  steps_any probe (suc k) leaf =
      go (next_step (only_wires R.wires) probe leaf) (steps_any probe k) ∙ ap (go_on (steps_from R probe k) leaf) (next_same probe leaf)
    where
      go : (o : Option Step) → ((l : Marks) → steps_from (only_wires R.wires) probe k l ≡ steps_from R probe k l)
          → go_on (steps_from (only_wires R.wires) probe k) leaf o ≡ go_on (steps_from R probe k) leaf o
      go none rest = refl
      go (some q) rest = ap (λ (ss : List Step). q ∷ ss) (rest (stepped leaf q.w))

  pub run_same : (probe : Marks) → run_of (only_wires R.wires) probe ≡ run_of R probe
  unfolding run_of gone_on
  run_same probe =
      ap (λ (leaf : Marks). after (record { leaf = leaf; steps = replicate 128 no_step; len = 0 })
      (steps_from (only_wires R.wires) probe (size (only_wires R.wires)) leaf)) first_same
      ∙ ap (after (run_begun R)) (steps_any probe (size (only_wires R.wires)) (first_leaves R))

  -- the needed shares, from the run over the wires alone
  pub needed_same : (probe : Marks) → word (R.S * R.D) (at (live (only_wires R.wires) probe (run_of (only_wires R.wires) probe).leaf))
      ≡ needed_by R probe
  unfolding needed_by
  needed_same probe =
      ap (λ (r : Run). word (R.S * R.D) (at (live (only_wires R.wires) probe r.leaf))) (run_same probe)
      ∙ ap (λ (m : Marks). word (R.S * R.D) (at m)) (live_same probe (run_of R probe).leaf)

  -- the same, from wires that are the routine's
  pub needed_alone : (probe : Marks) (ws : List Wire) → ws ≡ R.wires → (run : Run) → run ≡ run_of (only_wires ws) probe
      → word (R.S * R.D) (at (live (only_wires ws) probe run.leaf)) ≡ needed_by R probe
  needed_alone probe ws w run e = rw (e, w) (needed_same probe)
