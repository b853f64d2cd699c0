-- For each input the contract of a call on one set allows one answer.
use Rattle.std.specs.Prelude.{◌≡◌, List, ℕ}
use Rattle.std.proofs.Common.{sym, ◌∙◌}
use Rattle.document.specs.Lent.{lent_needing, lent_padding}
use Rattle.data.specs.declared.Wire.{Wire}
use Rattle.data.specs.declared.Shape.{Shape}
use Rattle.data.specs.declared.ProbeSet.{ProbeSet}
use Rattle.data.specs.declared.Needed.{Needed}
use Rattle.data.specs.declared.Padded.{Padded}

pub needs_once : (σ : Shape) (ws : List Wire) (t : ℕ) (set : ProbeSet) (r q : Needed) → r ≡ lent_needing σ ws t set → q ≡ lent_needing σ ws t set → r ≡ q
needs_once σ ws t set r q e f = e ∙ sym f

pub pads_once : (σ : Shape) (ws : List Wire) (t : ℕ) (set : ProbeSet) (r q : Padded) → r ≡ lent_padding σ ws t set → q ≡ lent_padding σ ws t set → r ≡ q
pads_once σ ws t set r q e f = e ∙ sym f
