-- What the desk program prints (section 8 of docs/SPECIFICATION.md).
use Rattle.std.specs.Prelude.{◌≡◌, cond, ◌⊎◌, List, [], ◌∷◌, ◌++◌, map, ℕ, zero, suc, ◌+◌, ◌-◌, ◌/◌, ◌%◌, min, ltb}
use Rattle.document.specs.Routine.{Routine}
use Rattle.document.specs.Lines.{join, lf, digit_zero}
use Rattle.document.specs.Reading.{reading, routine_in}
use Rattle.data.specs.ProbeSets.{held}
use Rattle.document.specs.Judgements.{plain, strong, judged}
use Rattle.data.specs.Refusals.{number_of}
use Rattle.data.specs.Refusals.{Outcome}
use Rattle.std.specs.Prelude.{Ok, Err}
use Rattle.data.specs.declared.Read.{Read}
use Rattle.data.specs.declared.Verdict.{Verdict}
use Rattle.data.specs.declared.Verdict.TheVariants as Says
use Rattle.data.specs.declared.Judged.{Judged}

-- 8.10: a number of at most k digits in base ten
unfoldable pub digits : ℕ → ℕ → List ℕ
digits zero n = []
digits (suc k) n = cond (ltb n 10) ((digit_zero + n) ∷ []) (digits k (n / 10) ++ ((digit_zero + n % 10) ∷ []))

-- 8.10: a number of 64 bits has at most 20
abbrev pub printed : ℕ → List ℕ
printed n = digits 20 n

-- 8.7, 8.8: the bytes of `plain`, `strong`, `pass`, `open`, `refused`
abbrev pub plain_word : List ℕ
plain_word = 112 ∷ 108 ∷ 97 ∷ 105 ∷ 110 ∷ []

abbrev pub strong_word : List ℕ
strong_word = 115 ∷ 116 ∷ 114 ∷ 111 ∷ 110 ∷ 103 ∷ []

abbrev pub pass_word : List ℕ
pass_word = 112 ∷ 97 ∷ 115 ∷ 115 ∷ []

abbrev pub open_word : List ℕ
open_word = 111 ∷ 112 ∷ 101 ∷ 110 ∷ []

abbrev pub refused_word : List ℕ
refused_word = 114 ∷ 101 ∷ 102 ∷ 117 ∷ 115 ∷ 101 ∷ 100 ∷ []

-- 8.9: what stands between two fields
abbrev pub space : ℕ
space = 32

-- 8.9: one space between two fields, and LF behind the last
unfoldable pub printed_line : List (List ℕ) → List ℕ
printed_line fields = join space fields ++ lf ∷ []

-- 8.7, 8.11: the verdict and its count, and behind an open one the wires of the set
unfoldable pub verdict_fields : Verdict → List ℕ → List (List ℕ)
verdict_fields (Says.Pass k) ps = pass_word ∷ printed k ∷ []
verdict_fields (Says.Open k) ps = open_word ∷ printed k ∷ map printed ps
verdict_fields (Says.Refused f) ps = refused_word ∷ printed (number_of f) ∷ []

-- 8.7: the line of an answer at order t
unfoldable pub answer_line : List ℕ → ℕ → Judged → List ℕ
answer_line word t answer = printed_line (word ∷ printed t ∷ verdict_fields answer.verdict (held answer.set))

-- 8.6: the lines of m orders from t on, at each the plain one first
unfoldable pub order_lines : Routine → ℕ → ℕ → List ℕ
order_lines R zero t = []
order_lines R (suc m) t = answer_line plain_word t (judged plain R t) ++ (answer_line strong_word t (judged strong R t) ++ order_lines R m (suc t))

-- 8.6: the orders from 1 on, up to D − 1 but not past 4
unfoldable pub routine_lines : Routine → List ℕ
routine_lines R = order_lines R (min 4 (R.D - 1)) 1

-- 8.6, 8.8: the lines of an accepted text, or the one of a refused one
unfoldable pub text_lines : Outcome → Read → List ℕ
text_lines (Ok u) r = routine_lines (routine_in r.listing)
text_lines (Err f) r = printed_line (refused_word ∷ printed (number_of f) ∷ printed r.line ∷ [])

-- 8.5 to 8.8: what is printed of a text
unfoldable pub desk_prints : List ℕ → List ℕ
desk_prints text = text_lines (reading text).outcome (reading text)

-- ---- words of the statements

-- 8.7: the line `plain t pass c`
abbrev pub pass_line : ℕ → ℕ → List ℕ
pass_line t c = printed_line (plain_word ∷ printed t ∷ pass_word ∷ printed c ∷ [])

-- 8.9: the line, with its LF, stands in what is printed, and at its start or behind an LF
pub record HasLine (line out : List ℕ) : Type 0 where
  pub before : List ℕ
  pub after : List ℕ
  pub splits : out ≡ before ++ (line ++ after)
  pub begins : (before ≡ []) ⊎ ((b : List ℕ) × (before ≡ b ++ lf ∷ []))
