-- `opening::set_open` meets its contract: an own random, the cones, or the run decides.
use mathlib.Core.Path.{sym, ◌∙◌}
use native.Mathlib.Omega.{arith}
use Rattle.opening.proofs.Laws.Leaf.{holding, low_probes, own_open, cones_open, run_open}
use Rattle.rule.proofs.Laws.Calls.{wired_of, shares_of}
use Rattle.opening.proofs.set_open.Goals as goal

pub returns-then-g-ne0 : goal.returns-then-g-ne0
returns-then-g-ne0 c = sym (own_open c.requires c.if-g-ne0.true)

pub bound_of-bound-requires : goal.bound_of-bound-requires
bound_of-bound-requires c = holding c.requires

pub over-requires : goal.over-requires
over-requires c = shares_of _ _ c.args.q.fits

pub returns-then-not-over : goal.returns-then-not-over
returns-then-not-over c = sym (cones_open c.requires _ c.bound_of-bound.ensures (omega arith)
    (sym c.over.ensures ∙ c.if-not-over.true))

pub probe_marks-requires : goal.probe_marks-requires
probe_marks-requires c = low_probes c.requires

pub needed_word-needed-requires : goal.needed_word-needed-requires
needed_word-needed-requires c = (
  wired_of _ _ c.args.q.fits,
  shares_of _ _ c.args.q.fits,
)

pub over-requires-2 : goal.over-requires-2
over-requires-2 c = shares_of _ _ c.args.q.fits

pub returns : goal.returns
returns c = c.over-2.ensures ∙ run_open c.requires _ _ _
    c.bound_of-bound.ensures c.probe_marks.ensures c.needed_word-needed.ensures
