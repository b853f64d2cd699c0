-- Reading has one answer: two that its contract allows are equal.
use Rattle.std.specs.Prelude.{◌≡◌, List, ℕ}
use Rattle.std.proofs.Common.{sym, ◌∙◌}
use Rattle.document.specs.Reading.{reading}
use Rattle.data.specs.declared.Read.{Read}

pub read_once : (text : List ℕ) {r q : Read} → r ≡ reading text → q ≡ reading text → r ≡ q
read_once text e f = e ∙ sym f
