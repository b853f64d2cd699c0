-- The test behind refusal 11 has one answer: two that its contract allows are equal.
use Rattle.std.specs.Prelude.{◌≡◌, Bool, List}
use Rattle.std.proofs.Common.{sym, ◌∙◌}
use Rattle.document.specs.Routine.{records_fit}
use Rattle.data.specs.declared.Wire.{Wire}
use Rattle.data.specs.declared.Shape.{Shape}

pub fit_once : (σ : Shape) (ws : List Wire) {q r : Bool} → q ≡ records_fit σ ws → r ≡ records_fit σ ws → q ≡ r
fit_once σ ws e f = e ∙ sym f
