-- The lines of the judgements of an order, and how many bytes the lines take at most.
use Rattle.std.specs.Prelude.{List, ◌++◌, ℕ, ◌*◌}
use Rattle.document.specs.Routine.{Routine}
use Rattle.document.specs.Judgements.{judged, judgement_of}
use Rattle.document.specs.Desk.{plain_word, strong_word, answer_line}
use Rattle.data.specs.declared.Which.{Which}
use Rattle.data.specs.declared.Which.TheVariants.{Plain, Strong}
use Rattle.printer.specs.Rooms.{answer_room}

-- the word of a judgement
abbrev pub judgement_word : Which → List ℕ
judgement_word Plain = plain_word
judgement_word Strong = strong_word

-- its line at order t
unfoldable pub judgement_line : Which → Routine → ℕ → List ℕ
judgement_line which R t = answer_line (judgement_word which) t (judged (judgement_of which) R t)

-- the two lines of order t
unfoldable pub order_pair : Routine → ℕ → List ℕ
order_pair R t = judgement_line Plain R t ++ judgement_line Strong R t

-- they take at most this many bytes
abbrev pub order_room : ℕ
order_room = 2 * answer_room
