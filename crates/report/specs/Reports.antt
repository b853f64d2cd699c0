-- What a report promises: its length and the buffer after it; and how many bytes it takes at most.
use Rattle.std.specs.Prelude.{List, ℕ, ◌*◌}
use Rattle.document.specs.Desk.{desk_prints}
use Rattle.buffer.specs.Begins.{Begins}
use Rattle.answers.specs.Orders.{order_room}

-- the buffer holds what is printed for the text, r bytes
abbrev pub Reported : List ℕ → List ℕ → ℕ → List ℕ → Type 0
Reported text buffer r after = Begins (desk_prints text) buffer r after

-- all that is printed takes at most this many bytes: no text has more than four orders, and the line of a refused one is shorter
abbrev pub report_room : ℕ
report_room = 4 * order_room
