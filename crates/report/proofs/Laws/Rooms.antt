-- What is printed takes no more than its room.
use Rattle.std.specs.Prelude.{List, ℕ, ◌-◌, ◌≤◌, min, length}
use Rattle.std.proofs.Common.{arith}
use Rattle.document.specs.Reading.{reading, routine_in}
use Rattle.document.specs.Desk.{routine_lines, text_lines, desk_prints}
use Rattle.data.specs.declared.Read.{Read}
use Rattle.data.specs.Refusals.{Outcome}
use Rattle.std.specs.Prelude.{Ok, Err}
use Rattle.printer.proofs.Laws.Rooms.{refused_few}
use Rattle.report.specs.Reports.{report_room}
use Rattle.answers.proofs.Laws.Rooms.{orders_few}

lines_few : (outcome : Outcome) (r : Read) → length (text_lines outcome r) ≤ report_room
unfolding text_lines routine_lines
lines_few (Ok u) r = let z = orders_few (routine_in r.listing) (min 4 (r.listing.shape.d - 1)) in omega arith
lines_few (Err f) r = let z = refused_few f r.line in omega arith

-- all that is printed
pub desk_few : (text : List ℕ) → length (desk_prints text) ≤ report_room
unfolding desk_prints
desk_few text = lines_few (reading text).outcome (reading text)
