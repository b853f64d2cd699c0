-- How many bytes the printed fields and lines take at most.
use Rattle.std.specs.Prelude.{ℕ, ◌+◌, ◌*◌}

-- a space and the digits of a number, 20 at most
abbrev pub number_room : ℕ
number_room = 1 + 20

-- the order and the count, without the word between them
abbrev pub counted_room : ℕ
counted_room = 2 * number_room

-- the wires of a set, four at most
abbrev pub wires_room : ℕ
wires_room = 4 * number_room

-- all behind the first field: the longest has `open`, with its space, between the order and the count, and the wires
abbrev pub verdict_room : ℕ
verdict_room = counted_room + 5 + wires_room

-- the word of a judgement: `strong` is the longest
abbrev pub word_room : ℕ
word_room = 6

-- the line of an answer: the word, all behind it, and LF
abbrev pub answer_room : ℕ
answer_room = word_room + verdict_room + 1

-- the line of a refused text: `refused`, two numbers and LF
abbrev pub refused_room : ℕ
refused_room = 7 + 2 * number_room + 1
