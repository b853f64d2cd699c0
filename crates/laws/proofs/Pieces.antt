-- The three forms of a number as it is written, that it is printed so too, and lines of one, two and three numbers.
use Rattle.std.specs.Prelude.{◌≡◌, List, [], ◌∷◌, ◌++◌, ℕ, ◌+◌, ◌/◌, ◌%◌, ◌≤◌, ◌<◌, ltb, length}
use Rattle.std.proofs.Common.{arith, lt-ltb, le-ltb, length-append}
use Rattle.data.proofs.Laws.Tests.{bool_cases, ltb_true, ltb_false}
use Rattle.document.specs.Lines.{tab, lf, digit_zero, decimal, join}
use Rattle.document.specs.Desk.{printed}
use Rattle.buffer.proofs.Laws.Digits.{printed_one, printed_more}
use Rattle.pieces.specs.Pieces.{numbers, line}
use Rattle.pieces.proofs.Laws.Spelling.{join_line}

-- ---- numbers

-- of one digit
pub one_digit_lem : (n : ℕ) → n < 10 → decimal n ≡ (digit_zero + n) ∷ []
unfolding decimal
one_digit_lem n h = simp (lt-ltb n 10 h)

-- of two
pub two_digits : (n : ℕ) → 10 ≤ n → n < 100 → decimal n ≡ (digit_zero + n / 10) ∷ (digit_zero + n % 10) ∷ []
unfolding decimal
two_digits n l h = simp (le-ltb n 10 l, lt-ltb n 100 h)

-- of three
pub three_digits_lem : (n : ℕ) → 100 ≤ n → decimal n ≡ (digit_zero + n / 100) ∷ (digit_zero + n / 10 % 10) ∷ (digit_zero + n % 10) ∷ []
unfolding decimal
three_digits_lem n l = simp (le-ltb n 10 (omega arith), le-ltb n 100 l)

decimal_low : (n : ℕ) → n < 10 → decimal n ≡ printed n
unfolding decimal
decimal_low n h = rw (printed_one n h) (simp (lt-ltb n 10 h))

decimal_middle : (n : ℕ) → 10 ≤ n → n < 100 → decimal n ≡ printed n
unfolding decimal
decimal_middle n l h =
    rw (printed_more n l (omega arith), printed_one (n / 10) (omega arith)) (simp (le-ltb n 10 l, lt-ltb n 100 h))

decimal_high : (n : ℕ) → 100 ≤ n → n < 1000 → decimal n ≡ printed n
unfolding decimal
decimal_high n l h =
    let e : n / 10 / 10 ≡ n / 100 = omega arith in
    rw (printed_more n (omega arith) (omega arith), printed_more (n / 10) (omega arith) (omega arith), printed_one (n / 10 / 10) (omega arith), e)
    (simp (le-ltb n 10 (omega arith), le-ltb n 100 l))

-- a number of up to three digits is written as it is printed
pub decimal_printed : (n : ℕ) → n < 1000 → decimal n ≡ printed n
decimal_printed n h = bool_cases (ltb n 10)
    (λ e. decimal_low n (ltb_true n 10 e))
    (λ e. bool_cases (ltb n 100)
    (λ f. decimal_middle n (ltb_false n 10 e) (ltb_true n 100 f))
    (λ f. decimal_high n (ltb_false n 100 f) h))

-- ---- lines by their count of numbers

-- the specification's line of one number, in front of any others
pub join_1 : (word : List ℕ) (a : ℕ) (t : List ℕ) → join tab (word ∷ decimal a ∷ []) ++ lf ∷ t ≡ line word (a ∷ []) ++ t
join_1 word a t = join_line word (a ∷ []) t

-- of two
pub join_2 : (word : List ℕ) (a b : ℕ) (t : List ℕ) → join tab (word ∷ decimal a ∷ decimal b ∷ []) ++ lf ∷ t ≡ line word (a ∷ b ∷ []) ++ t
join_2 word a b t = join_line word (a ∷ b ∷ []) t

-- of three
pub join_3 : (word : List ℕ) (a b c : ℕ) (t : List ℕ)
    → join tab (word ∷ decimal a ∷ decimal b ∷ decimal c ∷ []) ++ lf ∷ t ≡ line word (a ∷ b ∷ c ∷ []) ++ t
join_3 word a b c t = join_line word (a ∷ b ∷ c ∷ []) t

-- how long a line of one number is
pub line1_long : (word : List ℕ) (a : ℕ) → length (line word (a ∷ [])) ≡ length word + length (decimal a) + 2
unfolding numbers
line1_long word a = simp length-append (omega arith)

-- of two
pub line2_long : (word : List ℕ) (a b : ℕ) → length (line word (a ∷ b ∷ [])) ≡ length word + length (decimal a) + length (decimal b) + 3
unfolding numbers
line2_long word a b = simp length-append (omega arith)

-- of three
pub line3_long : (word : List ℕ) (a b c : ℕ)
    → length (line word (a ∷ b ∷ c ∷ [])) ≡ length word + length (decimal a) + length (decimal b) + length (decimal c) + 4
unfolding numbers
line3_long word a b c = simp length-append (omega arith)
