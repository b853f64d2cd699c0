-- A written line is read back as itself, and a written text as its lines.
use Rattle.std.specs.Prelude.{◌≡◌, refl, Bool, true, false, ◌&&◌, ◌||◌, Option, None, Some, List, [], ◌∷◌, ◌++◌, map, ℕ, ◌+◌, ◌-◌, ◌/◌, ◌%◌, ◌≤◌, ◌<◌, leb, ltb, length, get_or}
use Rattle.std.proofs.Common.{sym, ap, ap₂, ◌∙◌, append_assoc, arith, length-append, get_or-append-add, leb-true, ltb-true, ltb-false, le-leb, ne_eqb}
use Rattle.std.proofs.Math.Bool.{or-true}
use Rattle.data.specs.declared.Line.{Line}
use Rattle.data.specs.declared.Line.TheVariants as L
use Rattle.data.specs.Basics.{each}
use Rattle.document.specs.Lines.{cut, join, decimal, of_fields, line_of, lines_in, fields_of, line_text, text_of_lines, tab, lf, digit_zero, digit_nine}
use Rattle.document.specs.Reading.{letter, letter_a, letter_z}
use Rattle.data.proofs.Laws.Tests.{both, and_i}
use Rattle.document.proofs.Laws.Cuts.{free, frees, cut_join, join_free}
use Rattle.roundtrip.specs.Texts.{Writable, Each}
use Rattle.roundtrip.proofs.Laws.Forms.{below_some, fields_line, line_fields}
use Rattle.roundtrip.proofs.Laws.Cuts.{join_cut, ended, heads_ended}

-- ---- bytes

-- a to z, 0 to 9
unfoldable pub field_byte : ℕ → Bool
field_byte c = (leb letter_a c && leb c letter_z) || (leb digit_zero c && leb c digit_nine)

-- each part is plain
unfoldable pub field_bytes : List (List ℕ) → Bool
field_bytes [] = true
field_bytes (p ∷ ps) = each field_byte p && field_bytes ps

digit_plain : (c : ℕ) → digit_zero ≤ c → c ≤ digit_nine → field_byte c ≡ true
unfolding field_byte
digit_plain c h k = rw (le-leb digit_zero c h, le-leb c digit_nine k) (or-true (leb letter_a c && leb c letter_z))

-- neither tab nor LF is plain
plain_low : (c : ℕ) → field_byte c ≡ true → digit_zero ≤ c
unfolding field_byte
plain_low c h = go (leb letter_a c && leb c letter_z) refl h where
  go : (b : Bool) → (leb letter_a c && leb c letter_z) ≡ b → (b || (leb digit_zero c && leb c digit_nine)) ≡ true → digit_zero ≤ c
  go true e h = let z = leb-true letter_a c (both (leb letter_a c) (leb c letter_z) e).0 in omega arith
  go false e h = leb-true digit_zero c (both (leb digit_zero c) (leb c digit_nine) h).0

plain_letter : (c : ℕ) → field_byte c ≡ true → letter c ≡ true
unfolding field_byte
plain_letter c h = rw h refl

pub each_append : (f : ℕ → Bool) (xs ys : List ℕ) → each f xs ≡ true → each f ys ≡ true → each f (xs ++ ys) ≡ true
unfolding each
each_append f [] ys h k = k
each_append f (x ∷ xs) ys h k = let t = both (f x) (each f xs) h in and_i _ _ t.0 (each_append f xs ys t.1 k)

letters_plain : (xs : List ℕ) → each field_byte xs ≡ true → each letter xs ≡ true
unfolding each
letters_plain [] h = refl
letters_plain (x ∷ xs) h = let t = both (field_byte x) (each field_byte xs) h in and_i _ _ (plain_letter x t.0) (letters_plain xs t.1)

free_plain : (s : ℕ) (xs : List ℕ) → s < digit_zero → each field_byte xs ≡ true → free s xs ≡ true
unfolding each free
free_plain s [] l h = refl
free_plain s (x ∷ xs) l h =
    let t = both (field_byte x) (each field_byte xs) h in
    let z = plain_low x t.0 in
    rw (ne_eqb x s (λ e. let w : ⊥ = omega arith in w)) (free_plain s xs l t.1)

frees_plains : (s : ℕ) (ps : List (List ℕ)) → s < digit_zero → field_bytes ps ≡ true → frees s ps ≡ true
unfolding field_bytes frees
frees_plains s [] l h = refl
frees_plains s (p ∷ ps) l h = let t = both (each field_byte p) (field_bytes ps) h in and_i _ _ (free_plain s p l t.0) (frees_plains s ps l t.1)

-- ---- one line

plain_decimal : (n : ℕ) → n < 1000 → each field_byte (decimal n) ≡ true
unfolding each decimal
plain_decimal n h = go (ltb n 10) (ltb n 100) refl refl where
  go : (b c : Bool) → ltb n 10 ≡ b → ltb n 100 ≡ c → each field_byte (decimal n) ≡ true
  go true c e f = let z = ltb-true n 10 e in simp (e, digit_plain (digit_zero + n) (omega arith) (omega arith))
  go false true e f =
      let z = ltb-false n 10 e in
      let y = ltb-true n 100 f in
      simp (e, f, digit_plain (digit_zero + n / 10) (omega arith) (omega arith), digit_plain (digit_zero + n % 10) (omega arith) (omega arith))
  go false false e f =
      simp (
        e,
        f,
        digit_plain (digit_zero + n / 100) (omega arith) (omega arith),
        digit_plain (digit_zero + n / 10 % 10) (omega arith) (omega arith),
        digit_plain (digit_zero + n % 10) (omega arith) (omega arith),
      )

plains_line : (l : Option Line) → Writable l → field_bytes (fields_of l) ≡ true
unfolding field_bytes each field_byte
plains_line None h = absurd h
plains_line (Some (L.Head s d)) h = simp (plain_decimal s h.0, plain_decimal d h.1)
plains_line (Some (L.Rand w)) h = simp (plain_decimal w h)
plains_line (Some (L.Pub w)) h = simp (plain_decimal w h)
plains_line (Some (L.Xor w a b)) h = simp (plain_decimal w h.0, plain_decimal a h.1, plain_decimal b h.2)
plains_line (Some (L.And w a b)) h = simp (plain_decimal w h.0, plain_decimal a h.1, plain_decimal b h.2)
plains_line (Some (L.Not w a)) h = simp (plain_decimal w h.0, plain_decimal a h.1)
plains_line (Some (L.Out w)) h = simp (plain_decimal w h)

join_letters : (p : List ℕ) (ps : List (List ℕ)) → field_bytes (p ∷ ps) ≡ true → each letter (join tab (p ∷ ps)) ≡ true
unfolding field_bytes join each
join_letters p [] h = letters_plain p (both (each field_byte p) true h).0
join_letters p (q ∷ ps) h =
    let t = both (each field_byte p) (field_bytes (q ∷ ps)) h in
    each_append letter p (tab ∷ join tab (q ∷ ps)) (letters_plain p t.0) (join_letters q ps t.1)

-- what is true of a written line
pub record WrittenLine (l : Option Line) : Type 0 where
  pub back : line_of (line_text l) ≡ l
  pub no_lf : free lf (line_text l) ≡ true
  pub typed : each letter (line_text l) ≡ true

written_fields : (p : List ℕ) (ps : List (List ℕ)) (l : Option Line) → fields_of l ≡ p ∷ ps → Writable l → WrittenLine l
written_fields p ps l e h =
    let g : field_bytes (p ∷ ps) ≡ true = ap field_bytes (sym e) ∙ plains_line l h in
    let parted = cut_join tab p ps (frees_plains tab (p ∷ ps) (omega arith) g) in
    record {
      back = ap of_fields (ap (λ (f : List (List ℕ)). cut tab (join tab f)) e ∙ parted ∙ sym e) ∙ line_fields l h;
      no_lf = ap (λ (f : List (List ℕ)). free lf (join tab f)) e ∙ join_free lf tab (p ∷ ps) refl (frees_plains lf (p ∷ ps) (omega arith) g);
      typed = ap (λ (f : List (List ℕ)). each letter (join tab f)) e ∙ join_letters p ps g;
    }

pub written_line : (l : Option Line) → Writable l → WrittenLine l
written_line None h = absurd h
written_line (Some (L.Head s d)) h = written_fields _ _ (Some (L.Head s d)) refl h
written_line (Some (L.Rand w)) h = written_fields _ _ (Some (L.Rand w)) refl h
written_line (Some (L.Pub w)) h = written_fields _ _ (Some (L.Pub w)) refl h
written_line (Some (L.Xor w a b)) h = written_fields _ _ (Some (L.Xor w a b)) refl h
written_line (Some (L.And w a b)) h = written_fields _ _ (Some (L.And w a b)) refl h
written_line (Some (L.Not w a)) h = written_fields _ _ (Some (L.Not w a)) refl h
written_line (Some (L.Out w)) h = written_fields _ _ (Some (L.Out w)) refl h

-- bytes that make a line are those it is written with
pub line_text_lem : (b : List ℕ) → (line_of b ≡ None → ⊥) → line_text (line_of b) ≡ b
line_text_lem b h = ap (join tab) (sym (fields_line (cut tab b) h)) ∙ join_cut tab b

-- ---- all lines

pub each_lines : (P : Option Line → Type 0) (xs ys : List (Option Line)) → Each P xs → Each P ys → Each P (xs ++ ys)
each_lines P [] ys h k = k
each_lines P (x ∷ xs) ys h k = (h.0, each_lines P xs ys h.1 k)

-- what is true of a text of such lines
pub record WrittenText (ls : List (Option Line)) : Type 0 where
  pub back : lines_in (text_of_lines ls) ≡ ls
  pub typed : each letter (text_of_lines ls) ≡ true

text_ended : (ls : List (Option Line)) → text_of_lines ls ≡ ended (map line_text ls)
unfolding text_of_lines ended
text_ended [] = refl
text_ended (l ∷ ls) = ap (λ (r : List ℕ). line_text l ++ lf ∷ r) (text_ended ls)

lines_back : (ls : List (Option Line)) → Each Writable ls → map line_of (map line_text ls) ≡ ls
lines_back [] h = refl
lines_back (l ∷ ls) h = ap₂ (λ (x : Option Line) (xs : List (Option Line)). x ∷ xs) (written_line l h.0).back (lines_back ls h.1)

lines_free : (ls : List (Option Line)) → Each Writable ls → frees lf (map line_text ls) ≡ true
unfolding frees
lines_free [] h = refl
lines_free (l ∷ ls) h = and_i _ _ (written_line l h.0).no_lf (lines_free ls h.1)

lines_typed : (ls : List (Option Line)) → Each Writable ls → each letter (text_of_lines ls) ≡ true
unfolding text_of_lines each
lines_typed [] h = refl
lines_typed (l ∷ ls) h = each_append letter (line_text l) (lf ∷ text_of_lines ls) (written_line l h.0).typed (lines_typed ls h.1)

pub texts : (ls : List (Option Line)) → Each Writable ls → WrittenText ls
texts ls h = record {
  back = ap lines_in (text_ended ls) ∙ ap (map line_of) (heads_ended (map line_text ls) (lines_free ls h)) ∙ lines_back ls h;
  typed = lines_typed ls h;
}

-- the text of the lines that these parts make is the parts, each with its LF
pub text_lines_lem : (ps : List (List ℕ)) → Each Writable (map line_of ps) → text_of_lines (map line_of ps) ≡ ended ps
unfolding text_of_lines ended
text_lines_lem [] h = refl
text_lines_lem (p ∷ ps) h = ap₂ (λ (q r : List ℕ). q ++ lf ∷ r) (line_text_lem p (below_some 1000 (line_of p) h.0)) (text_lines_lem ps h.1)

-- ---- the end and the length of a text

last_append : (xs ys : List ℕ) → 0 < length ys → get_or (xs ++ ys) (length (xs ++ ys) - 1) 0 ≡ get_or ys (length ys - 1) 0
last_append xs ys h =
    let z : length (xs ++ ys) - 1 ≡ length xs + (length ys - 1) = omega (arith, length-append xs ys) in
    ap (λ (n : ℕ). get_or (xs ++ ys) n 0) z ∙ get_or-append-add xs ys (length ys - 1) 0

pub text_some : (l : Option Line) (ls : List (Option Line)) → 0 < length (text_of_lines (l ∷ ls))
unfolding text_of_lines
text_some l ls = omega (arith, length-append (line_text l) (lf ∷ text_of_lines ls))

pub text_last : (l : Option Line) (ls : List (Option Line)) → get_or (text_of_lines (l ∷ ls)) (length (text_of_lines (l ∷ ls)) - 1) 0 ≡ lf
unfolding text_of_lines
text_last l [] = last_append (line_text l) (lf ∷ []) (omega arith)
text_last l (m ∷ ls) =
    last_append (line_text l) (lf ∷ text_of_lines (m ∷ ls)) (omega arith) ∙ last_append (lf ∷ []) (text_of_lines (m ∷ ls)) (text_some m ls) ∙ text_last m ls

pub text_append : (xs ys : List (Option Line)) → text_of_lines (xs ++ ys) ≡ text_of_lines xs ++ text_of_lines ys
unfolding text_of_lines
text_append [] ys = refl
text_append (x ∷ xs) ys = ap (λ (r : List ℕ). line_text x ++ lf ∷ r) (text_append xs ys) ∙ sym (append_assoc (line_text x) (lf ∷ text_of_lines xs) (text_of_lines ys))

decimal_short : (n : ℕ) → length (decimal n) ≤ 3
unfolding decimal
decimal_short n = go (ltb n 10) (ltb n 100) refl refl where
  go : (b c : Bool) → ltb n 10 ≡ b → ltb n 100 ≡ c → length (decimal n) ≤ 3
  go true c e f = simp e (omega arith)
  go false true e f = simp (e, f) (omega arith)
  go false false e f = simp (e, f) (omega arith)

-- the longest line is an `xor` or `and` of three numbers, or the first: 15 bytes and its LF
pub line_short : (l : Option Line) → length (line_text l) ≤ 15
unfolding join
line_short None = omega arith
line_short (Some (L.Head s d)) = simp length-append (omega (arith, decimal_short s, decimal_short d))
line_short (Some (L.Rand w)) = omega (arith, decimal_short w)
line_short (Some (L.Pub w)) = omega (arith, decimal_short w)
line_short (Some (L.Xor w a b)) = simp length-append (omega (arith, decimal_short w, decimal_short a, decimal_short b))
line_short (Some (L.And w a b)) = simp length-append (omega (arith, decimal_short w, decimal_short a, decimal_short b))
line_short (Some (L.Not w a)) = simp length-append (omega (arith, decimal_short w, decimal_short a))
line_short (Some (L.Out w)) = omega (arith, decimal_short w)

pub out_short : (w : ℕ) → length (line_text (Some (L.Out w))) ≤ 7
unfolding join
out_short w = omega (arith, decimal_short w)
