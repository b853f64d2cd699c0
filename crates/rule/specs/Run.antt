-- The run of the rule, step by step, to its end.
use Rattle.std.specs.Prelude.{List, ℕ, ◌+◌, ◌*◌, ◌≤◌, ◌<◌, length, get_or, set, replicate}
use Rattle.std.proofs.lemmas.List.Edits.{sets}
use Rattle.data.specs.Basics.{Marks, at, mark}
use Rattle.document.specs.Routine.{Routine, blank, size}
use Rattle.document.specs.Padding.{first_leaves, live, stepped, steps_from, padded_wires, word}
use Rattle.document.specs.Judgements.{no_step}
use Rattle.data.specs.declared.Step.{Step}
use Rattle.data.specs.declared.Wire.{Wire}
use Rattle.marks.specs.Passes.{Low}
use Rattle.rule.specs.declared.Run.{Run}

-- n records are held, at most 128, with operands among the 128 marks
pub record Wired (n : ℕ) (ws : List Wire) : Type 0 where
  pub few : n ≤ 128
  pub long : n ≤ length ws
  pub low : (u : ℕ) → u < n → Low (get_or ws u blank)

-- ---- one step more

abbrev pub noted : Run → Step → Run
noted run s = record { leaf = stepped run.leaf s.w; steps = set run.steps run.len s; len = run.len + 1 }

-- the run with these steps more
unfoldable pub after : Run → List Step → Run
after run ss = record { leaf = mark (padded_wires ss) run.leaf; steps = sets run.steps run.len ss; len = run.len + length ss }

-- the run with at most k steps more
unfoldable pub gone_on : Routine → Marks → ℕ → Run → Run
gone_on R probe k run = after run (steps_from R probe k run.leaf)

-- the run begins with the randoms as leaves and no step
abbrev pub run_begun : Routine → Run
run_begun R = record { leaf = first_leaves R; steps = replicate 128 no_step; len = 0 }

unfoldable pub run_of : Routine → Marks → Run
run_of R probe = gone_on R probe (size R) (run_begun R)

-- ---- the shares live at the end

-- the needed shares of the observed wires, which are marked
unfoldable pub needed_by : Routine → Marks → ℕ
needed_by R probe = word (R.S * R.D) (at (live R probe (run_of R probe).leaf))
