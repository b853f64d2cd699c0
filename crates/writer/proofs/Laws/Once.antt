-- Two answers that a writing may give are equal, and so are the buffers.
use Rattle.std.specs.Prelude.{◌≡◌, List, ℕ}
use Rattle.document.specs.Lent.{WritesInto}
use Rattle.data.specs.declared.Shape.{Shape}
use Rattle.data.specs.declared.Wire.{Wire}
use Rattle.data.specs.declared.Written.{Written}
use Rattle.document.proofs.Laws.Answers.{gives_once}

pub write_once : (σ : Shape) (ws : List Wire) (buffer : List ℕ) {q r : Written} {before after : List ℕ} →
    WritesInto σ ws buffer q before → WritesInto σ ws buffer r after → (q ≡ r) × (before ≡ after)
write_once σ ws buffer p t = gives_once p t
