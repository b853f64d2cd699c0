-- No printed field or line takes more than its room.
use Rattle.std.specs.Prelude.{List, [], ◌∷◌, ◌++◌, ℕ, ◌+◌, ◌*◌, ◌≤◌, length}
use Rattle.std.proofs.Common.{arith, length-append, length-take}
use Rattle.data.specs.ProbeSets.{held}
use Rattle.data.specs.Refusals.{number_of}
use Rattle.document.specs.Desk.{printed, verdict_fields, answer_line}
use Rattle.data.specs.declared.Refusal.{Refusal}
use Rattle.data.specs.declared.Verdict.{Verdict}
use Rattle.data.specs.declared.Verdict.TheVariants as Says
use Rattle.data.specs.declared.Judged.{Judged}
use Rattle.buffer.specs.Sinks.{Puts, page_room}
use Rattle.buffer.specs.Laws.{page_laws}
use Rattle.buffer.specs.declared.Page.{Page}
use Rattle.printer.specs.Fields.{spaced, number_field, wire_fields, refused_line}
use Rattle.printer.specs.Rooms.{number_room, counted_room, verdict_room, word_room, answer_room, refused_room}
use Rattle.buffer.proofs.Laws.Digits.{printed_few}
use Rattle.printer.proofs.Laws.Lines.{answer_line_is, refused_line_is, pass_fields_lem, open_fields, refused_fields}

pub wires_few : (ps : List ℕ) → length (wire_fields ps) ≤ number_room * length ps
unfolding wire_fields
wires_few [] = omega arith
wires_few (p ∷ ps) =
    let z = printed_few p in
    let y = wires_few ps in
    simp length-append (omega arith)

-- the fields behind the first
pub verdict_few : (t : ℕ) (v : Verdict) (ps : List ℕ) → length ps ≤ 4 → length (spaced (printed t ∷ verdict_fields v ps)) ≤ verdict_room
verdict_few t (Says.Pass k) ps h =
    let x = printed_few t in
    let z = printed_few k in
    rw (← pass_fields_lem t k ps) (simp length-append (omega arith))
verdict_few t (Says.Open k) ps h =
    let x = printed_few t in
    let z = printed_few k in
    let y = wires_few ps in
    rw (← open_fields t k ps) (simp length-append (omega arith))
verdict_few t (Says.Refused f) ps h =
    let x = printed_few t in
    let z = printed_few (number_of f) in
    rw (← refused_fields t f ps) (simp length-append (omega arith))

-- a line
pub answer_few : (word : List ℕ) (t : ℕ) (answer : Judged) → length word ≤ word_room → length answer.set.places ≤ 4
    → length (answer_line word t answer) ≤ answer_room
answer_few word t answer h l =
    let m : length (held answer.set) ≤ 4 = omega (arith, length-take answer.set.len answer.set.places) in
    let y = verdict_few t answer.verdict (held answer.set) m in
    rw (← answer_line_is word t answer) (simp length-append (omega arith))

pub refused_few : (f : Refusal) (line : ℕ) → length (refused_line f line) ≤ refused_room
refused_few f line =
    let z = printed_few (number_of f) in
    let y = printed_few line in
    rw (← refused_line_is f line) (simp length-append (omega arith))

-- the room behind the order and the count, with a word between them
pub counted_left : {p q : Page} (t : ℕ) (word : List ℕ) (n : ℕ) → Puts p ((number_field t ++ word) ++ number_field n) q
    → page_room p ≤ page_room q + (length word + counted_room)
counted_left t word n a =
    omega (
      arith,
      page_laws.left a,
      printed_few t,
      printed_few n,
      length-append (number_field t ++ word) (number_field n),
      length-append (number_field t) word,
    )
