-- What the run of a set comes to, of which each of the two calls tells a part.
use Rattle.std.specs.Prelude.{ℕ, Result, Ok, Err}
use Rattle.document.specs.Routine.{Routine}
use Rattle.data.specs.Refusals.{Outcome}
use Rattle.data.specs.ProbeSets.{held}
use Rattle.document.specs.Padding.{probed, needed_shares}
use Rattle.document.specs.Judgements.{plain, is_open}
use Rattle.data.specs.declared.Refusal.{Refusal}
use Rattle.data.specs.declared.ProbeSet.{ProbeSet}
use Rattle.rule.specs.declared.Observed.{Observed}
use Rattle.rule.specs.Run.{run_of}

-- all that the two calls tell of a set
unfoldable pub observed_of : Routine → ℕ → ProbeSet → Observed
observed_of R t set =
    record { run = run_of R (probed (held set)); shares = needed_shares R (held set); undecided = is_open plain R t (held set) }

-- it, where the tests are passed
abbrev pub observed_if : Outcome → Observed → Result Observed Refusal
observed_if (Ok u) seen = Ok seen
observed_if (Err f) seen = Err f
