-- A read into a lent list has one answer: two that its contract allows are equal, and so are the lists. The contracts of the other calls
-- over a lent list are those of the calls on values, of any list, and so are their theorems.
use Rattle.std.specs.Prelude.{◌≡◌, List, ℕ}
use Rattle.document.specs.Lent.{ReadsInto}
use Rattle.document.proofs.Laws.Answers.{gives_once}
use Rattle.data.specs.declared.Filled.{Filled}
use Rattle.data.specs.declared.Wire.{Wire}

pub read_into_once : (text : List ℕ) (list : List Wire) {q r : Filled} {before after : List Wire}
    → ReadsInto text list q before → ReadsInto text list r after → (q ≡ r) × (before ≡ after)
read_into_once text list p t = gives_once p t
