-- Two answers that a report may give are equal, and so are the buffers.
use Rattle.std.specs.Prelude.{◌≡◌, List, ℕ}
use Rattle.buffer.proofs.Laws.Beginning.{begins_once}
use Rattle.report.specs.Reports.{Reported}

pub report_once : (text buffer : List ℕ) {q r : ℕ} {before after : List ℕ} →
    Reported text buffer q before → Reported text buffer r after → (q ≡ r) × (before ≡ after)
report_once text buffer p t = begins_once p t
