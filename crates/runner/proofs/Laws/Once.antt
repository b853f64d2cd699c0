-- Two answers that a run may give are equal, and so are the buffers.
use Rattle.std.specs.Prelude.{◌≡◌, List, ℕ}
use Rattle.document.specs.Lent.{RunsInto}
use Rattle.data.specs.declared.Ran.{Ran}
use Rattle.data.specs.declared.Shape.{Shape}
use Rattle.data.specs.declared.Wire.{Wire}
use Rattle.document.proofs.Laws.Answers.{gives_once}

pub run_once : (σ : Shape) (ws : List Wire) (shares randoms publics : ℕ) (buffer : List ℕ) {q r : Ran} {before after : List ℕ} →
    RunsInto σ ws shares randoms publics buffer q before → RunsInto σ ws shares randoms publics buffer r after → (q ≡ r) × (before ≡ after)
run_once σ ws shares randoms publics buffer p t = gives_once p t
