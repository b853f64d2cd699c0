-- The lines of a routine text by their form (section 1 of docs/SPECIFICATION.md): fields, numbers, words.
use Rattle.std.specs.Prelude.{Bool, ◌&&◌, cond, Option, None, Some, List, [], ◌∷◌, ◌++◌, map, ℕ, ◌+◌, ◌*◌, ◌-◌, ◌/◌, ◌%◌, eqb, ltb, leb}
use Rattle.data.specs.Basics.{same, whole_basics}
use Rattle.data.specs.declared.Word.{Word}
use Rattle.data.specs.declared.Word.TheVariants.{Routine, Rand, Pub, Xor, And, Not, Out}
use Rattle.data.specs.declared.Line.{Line}
use Rattle.data.specs.declared.Line.TheVariants as L

-- ---- 1.3: bytes by name: what parts fields, what closes a line, and the digits

abbrev pub tab : ℕ
tab = 9

abbrev pub lf : ℕ
lf = 10

abbrev pub digit_zero : ℕ
digit_zero = 48

abbrev pub digit_one : ℕ
digit_one = 49

abbrev pub digit_nine : ℕ
digit_nine = 57

-- ---- parts of a list of bytes

-- x in front of the first part
unfoldable pub front : ℕ → List (List ℕ) → List (List ℕ)
front x [] = []
front x (p ∷ ps) = (x ∷ p) ∷ ps

-- 1.5: the parts between the separators, one more than there are separators
unfoldable pub cut : ℕ → List ℕ → List (List ℕ)
cut s [] = [] ∷ []
cut s (x ∷ xs) = cond (eqb x s) ([] ∷ cut s xs) (front x (cut s xs))

-- 1.4: the parts but the last, which no separator closes
unfoldable pub heads : List (List ℕ) → List (List ℕ)
heads [] = []
heads (p ∷ []) = []
heads (p ∷ q ∷ ps) = p ∷ heads (q ∷ ps)

-- 1.48: the parts with the separator between each two
unfoldable pub join : ℕ → List (List ℕ) → List ℕ
join s [] = []
join s (p ∷ []) = p
join s (p ∷ q ∷ ps) = p ++ s ∷ join s (q ∷ ps)

-- ---- numbers

-- 1.6: 0 to 9, and what a longer number begins with, 1 to 9
abbrev pub digit : ℕ → Bool
digit c = leb digit_zero c && leb c digit_nine

abbrev pub lead : ℕ → Bool
lead c = leb digit_one c && leb c digit_nine

-- 1.6, 1.7: one, two or three digits in base ten, with 0 in front only where it stands alone
unfoldable pub number : List ℕ → Option ℕ
number [] = None
number (a ∷ []) = cond (digit a) (Some (a - digit_zero)) None
number (a ∷ b ∷ []) = cond (lead a && digit b) (Some ((a - digit_zero) * 10 + (b - digit_zero))) None
number (a ∷ b ∷ c ∷ []) = cond (lead a && digit b && digit c) (Some ((a - digit_zero) * 100 + (b - digit_zero) * 10 + (c - digit_zero))) None
number (a ∷ b ∷ c ∷ d ∷ ds) = None

-- 1.48: a number below 1,000 as it is written
unfoldable pub decimal : ℕ → List ℕ
decimal n =
    cond (ltb n 10) ((digit_zero + n) ∷ [])
    (cond (ltb n 100) ((digit_zero + n / 10) ∷ (digit_zero + n % 10) ∷ [])
    ((digit_zero + n / 100) ∷ (digit_zero + n / 10 % 10) ∷ (digit_zero + n % 10) ∷ []))

-- ---- words

-- 1.8: the bytes of `routine`, `rand`, `pub`, `xor`, `and`, `not`, `out`
abbrev pub spelled : Word → List ℕ
spelled Routine = 114 ∷ 111 ∷ 117 ∷ 116 ∷ 105 ∷ 110 ∷ 101 ∷ []
spelled Rand = 114 ∷ 97 ∷ 110 ∷ 100 ∷ []
spelled Pub = 112 ∷ 117 ∷ 98 ∷ []
spelled Xor = 120 ∷ 111 ∷ 114 ∷ []
spelled And = 97 ∷ 110 ∷ 100 ∷ []
spelled Not = 110 ∷ 111 ∷ 116 ∷ []
spelled Out = 111 ∷ 117 ∷ 116 ∷ []

-- 1.8: the word that these bytes are, if they are one
unfoldable pub word_of : List ℕ → Option Word
word_of f =
    cond (same f (spelled Rand)) (Some Rand)
    (cond (same f (spelled Pub)) (Some Pub)
    (cond (same f (spelled Xor)) (Some Xor)
    (cond (same f (spelled And)) (Some And)
    (cond (same f (spelled Not)) (Some Not)
    (cond (same f (spelled Out)) (Some Out)
    (cond (same f (spelled Routine)) (Some Routine) None))))))

-- ---- lines

-- 1.9: the words with one number
abbrev pub with1 : Word → ℕ → Option Line
with1 Routine w = None
with1 Rand w = Some (L.Rand w)
with1 Pub w = Some (L.Pub w)
with1 Xor w = None
with1 And w = None
with1 Not w = None
with1 Out w = Some (L.Out w)

-- 1.9: the words with two
abbrev pub with2 : Word → ℕ → ℕ → Option Line
with2 Routine w a = Some (L.Head w a)
with2 Rand w a = None
with2 Pub w a = None
with2 Xor w a = None
with2 And w a = None
with2 Not w a = Some (L.Not w a)
with2 Out w a = None

-- 1.9: the words with three
abbrev pub with3 : Word → ℕ → ℕ → ℕ → Option Line
with3 Routine w a b = None
with3 Rand w a b = None
with3 Pub w a b = None
with3 Xor w a b = Some (L.Xor w a b)
with3 And w a b = Some (L.And w a b)
with3 Not w a b = None
with3 Out w a b = None

-- 1.10: a field that should be a word or a number and is none makes the line malformed
abbrev pub of1 : Option Word → Option ℕ → Option Line
of1 None a = None
of1 (Some k) None = None
of1 (Some k) (Some w) = with1 k w

abbrev pub of2 : Option Word → Option ℕ → Option ℕ → Option Line
of2 None a b = None
of2 (Some k) None b = None
of2 (Some k) (Some w) None = None
of2 (Some k) (Some w) (Some a) = with2 k w a

abbrev pub of3 : Option Word → Option ℕ → Option ℕ → Option ℕ → Option Line
of3 None a b c = None
of3 (Some k) None b c = None
of3 (Some k) (Some w) None c = None
of3 (Some k) (Some w) (Some a) None = None
of3 (Some k) (Some w) (Some a) (Some b) = with3 k w a b

-- 1.9, 1.10: the line of these fields, if they make one
unfoldable pub of_fields : List (List ℕ) → Option Line
of_fields [] = None
of_fields (w ∷ []) = None
of_fields (w ∷ a ∷ []) = of1 (word_of w) (number a)
of_fields (w ∷ a ∷ b ∷ []) = of2 (word_of w) (number a) (number b)
of_fields (w ∷ a ∷ b ∷ c ∷ []) = of3 (word_of w) (number a) (number b) (number c)
of_fields (w ∷ a ∷ b ∷ c ∷ d ∷ ds) = None

-- 1.5: the line that these bytes make, if they make one, cut at every tab
abbrev pub line_of : List ℕ → Option Line
line_of bytes = of_fields (cut tab bytes)

-- 1.4: the lines that an LF closes
abbrev pub lines_in : List ℕ → List (Option Line)
lines_in text = map line_of (heads (cut lf text))

-- 1.48: the fields of a line as they are written; what is no line has none
abbrev pub fields_of : Option Line → List (List ℕ)
fields_of None = []
fields_of (Some (L.Head s d)) = spelled Routine ∷ decimal s ∷ decimal d ∷ []
fields_of (Some (L.Rand w)) = spelled Rand ∷ decimal w ∷ []
fields_of (Some (L.Pub w)) = spelled Pub ∷ decimal w ∷ []
fields_of (Some (L.Xor w a b)) = spelled Xor ∷ decimal w ∷ decimal a ∷ decimal b ∷ []
fields_of (Some (L.And w a b)) = spelled And ∷ decimal w ∷ decimal a ∷ decimal b ∷ []
fields_of (Some (L.Not w a)) = spelled Not ∷ decimal w ∷ decimal a ∷ []
fields_of (Some (L.Out w)) = spelled Out ∷ decimal w ∷ []

abbrev pub line_text : Option Line → List ℕ
line_text l = join tab (fields_of l)

-- 1.48: each line with the LF that closes it
unfoldable pub text_of_lines : List (Option Line) → List ℕ
text_of_lines [] = []
text_of_lines (l ∷ ls) = line_text l ++ lf ∷ text_of_lines ls

-- the definitions above, to unfold at once where a proof computes
unfoldable pub whole_lines : Unit {0}
unfolding whole_basics front cut heads join number decimal word_of of_fields text_of_lines
whole_lines = tt
