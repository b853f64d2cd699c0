-- A line and its fields determine each other, and so do a number or a word and its bytes.
use Rattle.std.specs.Prelude.{◌≡◌, refl, Bool, true, false, ◌&&◌, cond, Option, None, Some, List, [], ◌∷◌, ℕ, ◌+◌, ◌-◌, ◌*◌, ◌/◌, ◌%◌, ◌≤◌, ◌<◌, leb, eqb, ltb}
use Rattle.std.proofs.Common.{ap, ap₂, subst, arith, leb-true, eqb-true, ltb-true, ltb-false, lt-ltb, le-ltb, le-leb}
use Rattle.std.proofs.lemmas.Bool.{false≢true}
use Rattle.data.specs.declared.Line.{Line}
use Rattle.data.specs.declared.Line.TheVariants as L
use Rattle.data.specs.declared.Word.{Word}
use Rattle.data.specs.declared.Word.TheVariants as W
use Rattle.data.specs.Basics.{same}
use Rattle.document.specs.Lines.{number, decimal, digit, lead, spelled, word_of, of1, of2, of3, of_fields, fields_of, digit_zero, digit_one, digit_nine}
use Rattle.data.proofs.Laws.Tests.{both}
use Rattle.roundtrip.specs.Texts.{Below, Writable}

-- ---- numbers

digit_is : (c : ℕ) → digit c ≡ true → (digit_zero ≤ c) × (c ≤ digit_nine)
digit_is c h = let t = both (leb digit_zero c) (leb c digit_nine) h in (leb-true digit_zero c t.0, leb-true c digit_nine t.1)

lead_is : (c : ℕ) → lead c ≡ true → (digit_one ≤ c) × (c ≤ digit_nine)
lead_is c h = let t = both (leb digit_one c) (leb c digit_nine) h in (leb-true digit_one c t.0, leb-true c digit_nine t.1)

-- a number is read as it was written
pub number_decimal : (n : ℕ) → n < 1000 → number (decimal n) ≡ Some n
unfolding number decimal
number_decimal n h = go (ltb n 10) (ltb n 100) refl refl where
  go : (b c : Bool) → ltb n 10 ≡ b → ltb n 100 ≡ c → number (decimal n) ≡ Some n
  go true c e f =
      let z = ltb-true n 10 e in
      let q : digit_zero + n - digit_zero ≡ n = omega arith in
      simp (e, le-leb digit_zero (digit_zero + n) (omega arith), le-leb (digit_zero + n) digit_nine (omega arith), q)
  go false true e f =
      let z = ltb-false n 10 e in
      let y = ltb-true n 100 f in
      let q : (digit_zero + n / 10 - digit_zero) * 10 + (digit_zero + n % 10 - digit_zero) ≡ n = omega arith in
      simp (
        e,
        f,
        le-leb digit_one (digit_zero + n / 10) (omega arith),
        le-leb (digit_zero + n / 10) digit_nine (omega arith),
        le-leb digit_zero (digit_zero + n % 10) (omega arith),
        le-leb (digit_zero + n % 10) digit_nine (omega arith),
        q,
      )
  go false false e f =
      let z = ltb-false n 100 f in
      let q : (digit_zero + n / 100 - digit_zero) * 100 + (digit_zero + n / 10 % 10 - digit_zero) * 10 + (digit_zero + n % 10 - digit_zero) ≡ n = omega arith in
      simp (
        e,
        f,
        le-leb digit_one (digit_zero + n / 100) (omega arith),
        le-leb (digit_zero + n / 100) digit_nine (omega arith),
        le-leb digit_zero (digit_zero + n / 10 % 10) (omega arith),
        le-leb (digit_zero + n / 10 % 10) digit_nine (omega arith),
        le-leb digit_zero (digit_zero + n % 10) (omega arith),
        le-leb (digit_zero + n % 10) digit_nine (omega arith),
        q,
      )

-- 1.6, 1.48: and was written as it is read, since neither has a needless zero
pub decimal_number : (f : List ℕ) (n : ℕ) → number f ≡ Some n → f ≡ decimal n
unfolding number decimal
decimal_number [] n h = let z : ◌≡◌ {A = ℕ} 0 1 = cc in let w : ⊥ = omega arith in absurd w
decimal_number (a ∷ []) n h = go (digit a) refl h where
  go : (t : Bool) → digit a ≡ t → cond t (Some (a - digit_zero)) None ≡ Some n → (a ∷ []) ≡ decimal n
  go false e h = let z : ◌≡◌ {A = ℕ} 0 1 = cc in let w : ⊥ = omega arith in absurd w
  go true e h =
      let d = digit_is a e in
      let q : a - digit_zero ≡ n = cc in
      let r : a ≡ digit_zero + n = omega arith in
      simp (lt-ltb n 10 (omega arith)) (ap (λ (x : ℕ). x ∷ []) r)
decimal_number (a ∷ b ∷ []) n h = go (lead a && digit b) refl h where
  go : (t : Bool) → (lead a && digit b) ≡ t → cond t (Some ((a - digit_zero) * 10 + (b - digit_zero))) None ≡ Some n → (a ∷ b ∷ []) ≡ decimal n
  go false e h = let z : ◌≡◌ {A = ℕ} 0 1 = cc in let w : ⊥ = omega arith in absurd w
  go true e h =
      let t = both (lead a) (digit b) e in
      let d = lead_is a t.0 in
      let g = digit_is b t.1 in
      let q : (a - digit_zero) * 10 + (b - digit_zero) ≡ n = cc in
      let r : a ≡ digit_zero + n / 10 = omega arith in
      let s : b ≡ digit_zero + n % 10 = omega arith in
      simp (le-ltb n 10 (omega arith), lt-ltb n 100 (omega arith)) (ap₂ (λ (x y : ℕ). x ∷ y ∷ []) r s)
decimal_number (a ∷ b ∷ c ∷ []) n h = go (lead a && digit b && digit c) refl h where
  go : (t : Bool) → (lead a && digit b && digit c) ≡ t
      → cond t (Some ((a - digit_zero) * 100 + (b - digit_zero) * 10 + (c - digit_zero))) None ≡ Some n → (a ∷ b ∷ c ∷ []) ≡ decimal n
  go false e h = let z : ◌≡◌ {A = ℕ} 0 1 = cc in let w : ⊥ = omega arith in absurd w
  go true e h =
      let t = both (lead a && digit b) (digit c) e in
      let u = both (lead a) (digit b) t.0 in
      let d = lead_is a u.0 in
      let g = digit_is b u.1 in
      let k = digit_is c t.1 in
      let q : (a - digit_zero) * 100 + (b - digit_zero) * 10 + (c - digit_zero) ≡ n = cc in
      let r : a ≡ digit_zero + n / 100 = omega arith in
      let s : b ≡ digit_zero + n / 10 % 10 = omega arith in
      let v : c ≡ digit_zero + n % 10 = omega arith in
      simp (le-ltb n 10 (omega arith), le-ltb n 100 (omega arith)) (cc)
decimal_number (a ∷ b ∷ c ∷ d ∷ ds) n h = let z : ◌≡◌ {A = ℕ} 0 1 = cc in let w : ⊥ = omega arith in absurd w

-- ---- words

same_is : (xs ys : List ℕ) → same xs ys ≡ true → xs ≡ ys
unfolding same
same_is [] [] h = refl
same_is [] (y ∷ ys) h = absurd (false≢true h)
same_is (x ∷ xs) [] h = absurd (false≢true h)
same_is (x ∷ xs) (y ∷ ys) h = let t = both (eqb x y) (same xs ys) h in ap₂ (λ (z : ℕ) (zs : List ℕ). z ∷ zs) (eqb-true x y t.0) (same_is xs ys t.1)

-- the field is the word's spelling, if it is one
abbrev Spells : List ℕ → Option Word → Type 0
Spells f None = Unit {0}
Spells f (Some k) = f ≡ spelled k

spells_or : (f : List ℕ) (k : Word) (y : Option Word) → Spells f y → Spells f (cond (same f (spelled k)) (Some k) y)
spells_or f k y p = go (same f (spelled k)) refl where
  go : (b : Bool) → same f (spelled k) ≡ b → Spells f (cond b (Some k) y)
  go true e = same_is f (spelled k) e
  go false e = p

pub word_is : (f : List ℕ) → Spells f (word_of f)
unfolding word_of
word_is f =
    spells_or f W.Rand _ (spells_or f W.Pub _ (spells_or f W.Xor _ (spells_or f W.And _ (spells_or f W.Not _
    (spells_or f W.Out _ (spells_or f W.Routine None tt))))))

-- ---- lines

-- the fields of a line are its word's spelling and its numbers' decimals
fields_1 : (w a : List ℕ) (k : Option Word) (x : Option ℕ) → Spells w k → number a ≡ x → (of1 k x ≡ None → ⊥) → (w ∷ a ∷ []) ≡ fields_of (of1 k x)
fields_1 w a None x e f h = absurd (h refl)
fields_1 w a (Some k) None e f h = absurd (h refl)
fields_1 w a (Some W.Routine) (Some n) e f h = absurd (h refl)
fields_1 w a (Some W.Rand) (Some n) e f h = cc (e, decimal_number a n f)
fields_1 w a (Some W.Pub) (Some n) e f h = cc (e, decimal_number a n f)
fields_1 w a (Some W.Xor) (Some n) e f h = absurd (h refl)
fields_1 w a (Some W.And) (Some n) e f h = absurd (h refl)
fields_1 w a (Some W.Not) (Some n) e f h = absurd (h refl)
fields_1 w a (Some W.Out) (Some n) e f h = cc (e, decimal_number a n f)

fields_2 : (w a b : List ℕ) (k : Option Word) (x y : Option ℕ) → Spells w k → number a ≡ x → number b ≡ y → (of2 k x y ≡ None → ⊥)
    → (w ∷ a ∷ b ∷ []) ≡ fields_of (of2 k x y)
fields_2 w a b None x y e f g h = absurd (h refl)
fields_2 w a b (Some k) None y e f g h = absurd (h refl)
fields_2 w a b (Some k) (Some n) None e f g h = absurd (h refl)
fields_2 w a b (Some W.Routine) (Some n) (Some m) e f g h = cc (e, decimal_number a n f, decimal_number b m g)
fields_2 w a b (Some W.Rand) (Some n) (Some m) e f g h = absurd (h refl)
fields_2 w a b (Some W.Pub) (Some n) (Some m) e f g h = absurd (h refl)
fields_2 w a b (Some W.Xor) (Some n) (Some m) e f g h = absurd (h refl)
fields_2 w a b (Some W.And) (Some n) (Some m) e f g h = absurd (h refl)
fields_2 w a b (Some W.Not) (Some n) (Some m) e f g h = cc (e, decimal_number a n f, decimal_number b m g)
fields_2 w a b (Some W.Out) (Some n) (Some m) e f g h = absurd (h refl)

fields_3 : (w a b c : List ℕ) (k : Option Word) (x y z : Option ℕ) → Spells w k → number a ≡ x → number b ≡ y → number c ≡ z → (of3 k x y z ≡ None → ⊥)
    → (w ∷ a ∷ b ∷ c ∷ []) ≡ fields_of (of3 k x y z)
fields_3 w a b c None x y z e f g i h = absurd (h refl)
fields_3 w a b c (Some k) None y z e f g i h = absurd (h refl)
fields_3 w a b c (Some k) (Some n) None z e f g i h = absurd (h refl)
fields_3 w a b c (Some k) (Some n) (Some m) None e f g i h = absurd (h refl)
fields_3 w a b c (Some W.Routine) (Some n) (Some m) (Some l) e f g i h = absurd (h refl)
fields_3 w a b c (Some W.Rand) (Some n) (Some m) (Some l) e f g i h = absurd (h refl)
fields_3 w a b c (Some W.Pub) (Some n) (Some m) (Some l) e f g i h = absurd (h refl)
fields_3 w a b c (Some W.Xor) (Some n) (Some m) (Some l) e f g i h = cc (e, decimal_number a n f, decimal_number b m g, decimal_number c l i)
fields_3 w a b c (Some W.And) (Some n) (Some m) (Some l) e f g i h = cc (e, decimal_number a n f, decimal_number b m g, decimal_number c l i)
fields_3 w a b c (Some W.Not) (Some n) (Some m) (Some l) e f g i h = absurd (h refl)
fields_3 w a b c (Some W.Out) (Some n) (Some m) (Some l) e f g i h = absurd (h refl)

-- fields that make a line are those it is written with
pub fields_line : (fs : List (List ℕ)) → (of_fields fs ≡ None → ⊥) → fs ≡ fields_of (of_fields fs)
unfolding of_fields
fields_line [] h = absurd (h refl)
fields_line (w ∷ []) h = absurd (h refl)
fields_line (w ∷ a ∷ []) h = fields_1 w a (word_of w) (number a) (word_is w) refl h
fields_line (w ∷ a ∷ b ∷ []) h = fields_2 w a b (word_of w) (number a) (number b) (word_is w) refl refl h
fields_line (w ∷ a ∷ b ∷ c ∷ []) h = fields_3 w a b c (word_of w) (number a) (number b) (number c) (word_is w) refl refl refl h
fields_line (w ∷ a ∷ b ∷ c ∷ d ∷ ds) h = absurd (h refl)

pub below_more : (m n : ℕ) (l : Option Line) → m ≤ n → Below m l → Below n l
below_more m n None k h = h
below_more m n (Some (L.Head s d)) k h = (omega arith, omega arith)
below_more m n (Some (L.Rand w)) k h = omega arith
below_more m n (Some (L.Pub w)) k h = omega arith
below_more m n (Some (L.Xor w a b)) k h = (omega arith, omega arith, omega arith)
below_more m n (Some (L.And w a b)) k h = (omega arith, omega arith, omega arith)
below_more m n (Some (L.Not w a)) k h = (omega arith, omega arith)
below_more m n (Some (L.Out w)) k h = omega arith

pub below_some : (m : ℕ) (l : Option Line) → Below m l → l ≡ None → ⊥
below_some m l h e = subst (Below m) e h

-- the fields that a line is written with make it again
pub line_fields : (l : Option Line) → Writable l → of_fields (fields_of l) ≡ l
unfolding of_fields word_of same
line_fields None h = absurd h
line_fields (Some (L.Head s d)) h = simp (number_decimal s h.0, number_decimal d h.1)
line_fields (Some (L.Rand w)) h = simp (number_decimal w h)
line_fields (Some (L.Pub w)) h = simp (number_decimal w h)
line_fields (Some (L.Xor w a b)) h = simp (number_decimal w h.0, number_decimal a h.1, number_decimal b h.2)
line_fields (Some (L.And w a b)) h = simp (number_decimal w h.0, number_decimal a h.1, number_decimal b h.2)
line_fields (Some (L.Not w a)) h = simp (number_decimal w h.0, number_decimal a h.1)
line_fields (Some (L.Out w)) h = simp (number_decimal w h)
