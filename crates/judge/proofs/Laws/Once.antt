-- For each input the contract of the judging call allows one answer.
use Rattle.std.specs.Prelude.{◌≡◌, List, ℕ}
use Rattle.std.proofs.Common.{sym, ◌∙◌}
use Rattle.document.specs.Judgements.{judgement_of}
use Rattle.document.specs.Lent.{lent_judged}
use Rattle.data.specs.declared.Which.{Which}
use Rattle.data.specs.declared.Wire.{Wire}
use Rattle.data.specs.declared.Shape.{Shape}
use Rattle.data.specs.declared.Judged.{Judged}

pub judge_once : (σ : Shape) (ws : List Wire) (which : Which) (t : ℕ) (r q : Judged)
    → r ≡ lent_judged (judgement_of which) σ ws t → q ≡ lent_judged (judgement_of which) σ ws t → r ≡ q
judge_once σ ws which t r q e f = e ∙ sym f
