-- Two answers that a contract allows are equal, and so is what they leave in what the call was lent.
use Rattle.std.specs.Prelude.{◌≡◌, List}
use Rattle.std.proofs.Common.{sym, ◌∙◌}
use Rattle.document.specs.Lent.{Gives}

pub gives_once : {A B : Type 0} {answer : A} {leaves : List B} {q r : A} {before after : List B}
    → Gives answer leaves q before → Gives answer leaves r after → (q ≡ r) × (before ≡ after)
gives_once g h = (g.said ∙ sym h.said, g.left ∙ sym h.left)
