-- Each contract here allows one answer: two that it allows are equal.
use Rattle.std.specs.Prelude.{◌≡◌, ℕ}
use Rattle.std.proofs.Common.{sym, ◌∙◌}
use Rattle.data.specs.ProbeSets.{empty_set, adding}
use Rattle.data.specs.declared.ProbeSet.{ProbeSet}
use Rattle.data.specs.declared.Added.{Added}

-- 4.4: `ProbeSet::empty`
pub empty_once : (q r : ProbeSet) → q ≡ empty_set → r ≡ empty_set → q ≡ r
empty_once q r e f = e ∙ sym f

-- 4.5 to 4.10: `ProbeSet::add`
pub add_once : (set : ProbeSet) (w : ℕ) (q r : Added) → q ≡ adding set w → r ≡ adding set w → q ≡ r
add_once set w q r e f = e ∙ sym f
