-- The numbers of the refusals (section 7 of docs/SPECIFICATION.md).
use Rattle.std.specs.Prelude.{ℕ, ⊤, Result, Ok, Err}
use Rattle.data.specs.declared.Refusal.{Refusal}
use Rattle.data.specs.declared.Refusal.TheVariants as R

-- 7.1 to 7.16: the number of a refusal
abbrev pub number_of : Refusal → ℕ
-- 7.1: the text is empty or longer than 4,096 bytes
number_of R.Length = 1
-- 7.2: a byte that no text has, or no LF at the end
number_of R.Byte = 2
-- 7.3: line 1 is no header
number_of R.Header = 3
-- 7.4: S or D is out of range
number_of R.Range = 4
-- 7.5: a later line is malformed
number_of R.Form = 5
-- 7.6: a wire line does not have the next number, or stands behind an `out` line
number_of R.Next = 6
-- 7.7: an operand is not below its wire
number_of R.Operand = 7
-- 7.8: one wire, random, public or output too many
number_of R.Ceiling = 8
-- 7.9: an `out` line with no wire, or not above the one before it
number_of R.Output = 9
-- 7.10: the list lent to a read is too short
number_of R.Lent = 10
-- 7.11: fewer than n records, or no well-formed routine
number_of R.Records = 11
-- 7.12: the order is not allowed
number_of R.Order = 12
-- 7.13: the probe set does not suit the call, or an addition is refused
number_of R.Probes = 13
-- 7.14: a word of a run does not fit
number_of R.Bits = 14
-- 7.15: the lent buffer is too short
number_of R.Buffer = 15
-- 7.16: too many steps for their list
number_of R.Steps = 16

-- 1.36: an outcome is done, or a refusal
abbrev pub Outcome : Type 0
Outcome = Result ⊤ Refusal

-- 7.28: an outcome in numbers: that of its refusal, or 0 where the call is done
abbrev pub outcome_number : Outcome → ℕ
outcome_number (Ok u) = 0
outcome_number (Err f) = number_of f
