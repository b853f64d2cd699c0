-- Where two printed numbers with a word between them end.
use Rattle.std.specs.Prelude.{List, ◌++◌, ℕ, ◌+◌, ◌≤◌, length}
use Rattle.std.proofs.Common.{arith, length-append}
use Rattle.buffer.specs.Put.{Put}
use Rattle.buffer.proofs.Laws.Digits.{printed_few}
use Rattle.printer.specs.Fields.{number_field}
use Rattle.printer.specs.Rooms.{counted_room}

-- where the count ends
pub counted_ends : {b c : List ℕ} {at r : ℕ} (t : ℕ) (word : List ℕ) (n : ℕ) → Put b at ((number_field t ++ word) ++ number_field n) r c
    → r ≤ at + (length word + counted_room)
counted_ends t word n p =
    let x = printed_few t in
    let z = printed_few n in
    let l = length-append (number_field t ++ word) (number_field n) in
    let m = length-append (number_field t) word in
    omega (arith, p.next)
