-- What a pass is worth that a report has printed.
use Rattle.std.specs.Prelude.{◌≡◌, List, ℕ, take}
use Rattle.std.proofs.Common.{subst}
use Rattle.document.specs.Reading.{reading, routine_in}
use Rattle.document.specs.Worth.{PassesPlain}
use Rattle.document.specs.Desk.{pass_line, HasLine}
use Rattle.document.proofs.Theorems.{printed_pass_keeps}
use Rattle.std.specs.Prelude.{Ok}
use Rattle.buffer.proofs.Laws.Beginning.{begins_first}
use Rattle.report.specs.Reports.{Reported}

-- 9.26: where the r bytes that it gives have the line `plain t pass c`, the text is read as a routine that passes there and keeps its secrets
pub reported_pass_keeps : (text buffer : List ℕ) (r : ℕ) (after : List ℕ) (t c : ℕ) → Reported text buffer r after → HasLine (pass_line t c) (take r after)
    → ((reading text).outcome ≡ Ok tt) × PassesPlain (routine_in (reading text).listing) t c
reported_pass_keeps text buffer r after t c p l = printed_pass_keeps text t c (subst (HasLine (pass_line t c)) (begins_first p) l)
