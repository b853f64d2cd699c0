-- What was read, put into the buffer, is the report.
use Rattle.std.specs.Prelude.{◌≡◌, List, ℕ, ◌≤◌, length}
use Rattle.std.proofs.Common.{ap, ◌∙◌, arith}
use Rattle.document.specs.Reading.{reading}
use Rattle.document.specs.Desk.{text_lines, desk_prints}
use Rattle.data.specs.declared.Read.{Read}
use Rattle.buffer.specs.Put.{Put, wrote}
use Rattle.buffer.proofs.Laws.Puts.{wrote_first}
use Rattle.report.specs.Reports.{report_room, Reported}
use Rattle.report.proofs.Laws.Rooms.{desk_few}

pub reported : {buffer after page : List ℕ} {r : ℕ} (text : List ℕ) (got : Read) → got ≡ reading text → report_room ≤ length buffer
    → Put buffer 0 (text_lines got.outcome got) r page → after ≡ page → Reported text buffer r after
unfolding desk_prints
reported {buffer} {after} {page} {r} text got e long p left =
    let same : text_lines got.outcome got ≡ desk_prints text = ap (λ (x : Read). text_lines x.outcome x) e in
    let few = desk_few text in
    let whole : length (desk_prints text) ≤ length buffer = omega arith in
    let size = ap length same in
    record {
      said = omega (arith, p.next);
      left = left ∙ p.left ∙ ap (λ (v : List ℕ). wrote buffer 0 v) same ∙ wrote_first buffer (desk_prints text) whole;
    }
