-- The answer that what is found makes.
use Rattle.std.specs.Prelude.{Ok, Err}
use Rattle.data.specs.ProbeSets.{empty_set}
use Rattle.data.specs.declared.Verdict.TheVariants as Says
use Rattle.data.specs.declared.Judged.{Judged}
use Rattle.growing.specs.Growing.{Searched}

-- open with the count and the set where one was found, and else a pass
unfoldable pub answer_of : Searched → Judged
answer_of (Ok k) = record { verdict = Says.Pass k; set = empty_set }
answer_of (Err f) = record { verdict = Says.Open f.count; set = f.set }
