-- What the desk prints: of a number, its digits and no others; of fields, a line that they are read back from; of lines, each between two LFs;
-- and of a text, no more than its first 4,097 bytes say.
use Rattle.std.specs.Prelude.{◌≡◌, true, false, not, ℕ, zero, suc, ◌+◌, ◌*◌, ◌/◌, ◌%◌, ◌^◌, ◌≤◌, ◌<◌, ltb, leb, length, get_or, take}
use Rattle.std.proofs.Math.Path.{refl}
use Rattle.std.proofs.Common.{sym, ap, ◌∙◌, subst, inl, inr, pow-suc, div-lt_iff_lt-mul, arith, length-append, length-take, take_all}
use mathlib.Core.List.{List, [], ◌∷◌, ◌++◌, map, append_assoc}
use Rattle.std.proofs.Math.Seq.{take-append_seam, get_or-append_seam}
use Rattle.data.specs.Basics.{each, Among}
use Rattle.document.specs.Lines.{cut, join, lf, digit_zero}
use Rattle.document.specs.Reading.{reading, not_read}
use Rattle.document.specs.Desk.{digits, printed, space, printed_line, verdict_fields, text_lines, desk_prints, HasLine}
use Rattle.data.proofs.Laws.Tests.{out_of, bool_cases, both, and_i, and_false, cond_cases, cond_true, cond_false}
use Rattle.data.proofs.Laws.Tests.{eqb_true, ltb_true, ltb_false, true_ltb, leb_true, leb_false}
use Rattle.document.proofs.Laws.Cuts.{cut_append, free, frees, free_append, cut_first, cut_join, join_free}
use Rattle.document.proofs.Laws.Lists.{among_r}
use Rattle.data.specs.declared.Refusal.TheVariants as No
use Rattle.data.specs.declared.Read.{Read}
use Rattle.data.specs.declared.Verdict.{Verdict}
use Rattle.data.specs.declared.Verdict.TheVariants as Says

-- ---- printed numbers

-- a number is printed in digits, so neither a space nor an LF stands in it
digits_free : (s k n : ℕ) → s < digit_zero → free s (digits k n) ≡ true
unfolding digits free
digits_free s zero n h = refl
digits_free s (suc k) n h =
    cond_cases (λ (v : List ℕ). free s v ≡ true) (ltb n 10) ((digit_zero + n) ∷ []) (digits k (n / 10) ++ ((digit_zero + n % 10) ∷ []))
    (λ e. one n)
    (λ e. free_append s (digits k (n / 10)) ((digit_zero + n % 10) ∷ []) (digits_free s k (n / 10) h) (one (n % 10)))
  where
    one : (d : ℕ) → free s ((digit_zero + d) ∷ []) ≡ true
    one d = and_i _ _ (ap not (out_of (λ e. let z = eqb_true (digit_zero + d) s e in omega arith))) refl

-- there is a digit
digits_some : (k n : ℕ) → 0 < length (digits (suc k) n)
unfolding digits
digits_some k n =
    cond_cases (λ (v : List ℕ). 0 < length v) (ltb n 10) ((digit_zero + n) ∷ []) (digits k (n / 10) ++ ((digit_zero + n % 10) ∷ []))
    (λ e. omega arith)
    (λ e. omega (arith, length-append (digits k (n / 10)) ((digit_zero + n % 10) ∷ [])))

-- two lists are equal up to their last elements, and these are
last_same : {A : Type 0} (xs ys : List A) (x y : A) → xs ++ x ∷ [] ≡ ys ++ y ∷ [] → (xs ≡ ys) × (x ≡ y)
last_same {A} xs ys x y e =
    let l = ap length e in
    let z : length xs ≡ length ys = omega (arith, length-append xs (x ∷ []), length-append ys (y ∷ [])) in (
      sym (take-append_seam xs (x ∷ [])) ∙ ap (λ (k : ℕ). take k (xs ++ x ∷ [])) z ∙ ap (take (length ys)) e ∙ take-append_seam ys (y ∷ []),
      sym (get_or-append_seam xs x [] x) ∙ ap (λ (k : ℕ). get_or (xs ++ x ∷ []) k x) z ∙ ap (λ (v : List A). get_or v (length ys) x) e ∙ get_or-append_seam ys y [] x,
    )

-- below ten it is the number itself; else the last one stands behind those of a tenth of the number
pub digits_low : (k n : ℕ) → n < 10 → digits (suc k) n ≡ (digit_zero + n) ∷ []
unfolding digits
digits_low k n h = cond_true _ _ (true_ltb n 10 h)

pub digits_high : (k n : ℕ) → 10 ≤ n → digits (suc k) n ≡ digits k (n / 10) ++ ((digit_zero + n % 10) ∷ [])
unfolding digits
digits_high k n h = cond_false _ _ (out_of (λ e. let z = ltb_true n 10 e in omega arith))

-- one digit is not two
digits_apart : (k n m : ℕ) → n < 10 → 10 ≤ m → digits (suc (suc k)) n ≡ digits (suc (suc k)) m → ⊥
digits_apart k n m a b e =
    let l = ap length (sym (digits_low (suc k) n a) ∙ e ∙ digits_high (suc k) m b) in
    let s = digits_some k (m / 10) in
    omega (arith, length-append (digits (suc k) (m / 10)) ((digit_zero + m % 10) ∷ []))

-- numbers with the same digits are equal, where their tenths are
digits_step : (k n m : ℕ) → digits (suc (suc k)) n ≡ digits (suc (suc k)) m
    → (10 ≤ n → digits (suc k) (n / 10) ≡ digits (suc k) (m / 10) → n / 10 ≡ m / 10) → n ≡ m
digits_step k n m e tenth = bool_cases (ltb n 10)
    (λ p. let a = ltb_true n 10 p in bool_cases (ltb m 10)
    (λ q. let z = ap (λ (v : List ℕ). get_or v 0 0) (sym (digits_low (suc k) n a) ∙ e ∙ digits_low (suc k) m (ltb_true m 10 q)) in omega arith)
    (λ q. absurd (digits_apart k n m a (ltb_false m 10 q) e)))
    (λ p. let a = ltb_false n 10 p in bool_cases (ltb m 10)
    (λ q. absurd (digits_apart k m n (ltb_true m 10 q) a (sym e)))
    (λ q. let l = last_same (digits (suc k) (n / 10)) (digits (suc k) (m / 10)) (digit_zero + n % 10) (digit_zero + m % 10)
    (sym (digits_high (suc k) n a) ∙ e ∙ digits_high (suc k) m (ltb_false m 10 q)) in
    let z = tenth a l.0 in
    omega (arith, l.1)))

-- where a digit less is enough for n, no other number has its digits
digits_once : (k n m : ℕ) → n < 10 ^ suc k → digits (suc (suc k)) n ≡ digits (suc (suc k)) m → n ≡ m
digits_once zero n m h e = digits_step zero n m e (λ a q. let z : n < 10 = h in absurd (omega arith))
digits_once (suc k) n m h e =
    let p : n < 10 ^ suc k * 10 = rw pow-suc at h in
    let z : 0 < 10 = omega arith in
    digits_step (suc k) n m e (λ a q. digits_once k (n / 10) (m / 10) ((div-lt_iff_lt-mul z).1 p) q)

-- so a number of at most 19 digits is printed as no other is
pub printed_once : (n m : ℕ) → n < 10 ^ 19 → printed n ≡ printed m → n ≡ m
printed_once n m h e = digits_once 18 n m h e

-- ---- fields

-- bytes from the digits on have no byte that is below them
low_free : (s : ℕ) (xs : List ℕ) → s < digit_zero → each (leb digit_zero) xs ≡ true → free s xs ≡ true
unfolding each free
low_free s [] h e = refl
low_free s (x ∷ xs) h e =
    let t = both (leb digit_zero x) (each (leb digit_zero) xs) e in
    let z = leb_true digit_zero x t.0 in
    and_i _ _ (ap not (out_of (λ q. let y = eqb_true x s q in omega arith))) (low_free s xs h t.1)

-- no field of an answer, and none of a refused text, has such a byte: neither a space nor an LF
module _ (s : ℕ) (low : s < digit_zero) where
  numbers_free : (ps : List ℕ) → frees s (map printed ps) ≡ true
  unfolding frees
  numbers_free [] = refl
  numbers_free (p ∷ ps) = and_i _ _ (digits_free s 20 p low) (numbers_free ps)

  pub counted_free : (word : List ℕ) (n : ℕ) (ps : List ℕ) → each (leb digit_zero) word ≡ true → frees s (word ∷ printed n ∷ map printed ps) ≡ true
  unfolding frees
  counted_free word n ps e = and_i _ _ (low_free s word low e) (numbers_free (n ∷ ps))

  verdict_free : (v : Verdict) (ps : List ℕ) → frees s (verdict_fields v ps) ≡ true
  unfolding verdict_fields each frees
  verdict_free (Says.Pass k) ps = and_i _ _ (low_free s _ low refl) (and_i _ _ (digits_free s 20 _ low) refl)
  verdict_free (Says.Open k) ps = and_i _ _ (low_free s _ low refl) (and_i _ _ (digits_free s 20 _ low) (search numbers_free))
  verdict_free (Says.Refused f) ps = and_i _ _ (low_free s _ low refl) (and_i _ _ (digits_free s 20 _ low) refl)

  pub answer_free : (word : List ℕ) (t : ℕ) (v : Verdict) (ps : List ℕ) → each (leb digit_zero) word ≡ true
      → frees s (word ∷ printed t ∷ verdict_fields v ps) ≡ true
  unfolding frees
  answer_free word t v ps e = and_i _ _ (low_free s word low e) (and_i _ _ (digits_free s 20 t low) (verdict_free v ps))

pub space_low : space < digit_zero
space_low = omega arith

pub lf_low : lf < digit_zero
lf_low = omega arith

-- two lines with the same bytes have the same fields
pub fields_same : (f : List ℕ) (fs : List (List ℕ)) (g : List ℕ) (gs : List (List ℕ)) → frees space (f ∷ fs) ≡ true → frees space (g ∷ gs) ≡ true
    → join space (f ∷ fs) ≡ join space (g ∷ gs) → f ∷ fs ≡ g ∷ gs
fields_same f fs g gs a b e = sym (cut_join space f fs a) ∙ ap (cut space) e ∙ cut_join space g gs b

-- ---- lines

-- a printed line is what stands before its LF
pub line_cut : (fields : List (List ℕ)) (rest : List ℕ) → frees lf fields ≡ true → cut lf (printed_line fields ++ rest) ≡ join space fields ∷ cut lf rest
unfolding printed_line
line_cut fields rest h =
    ap (cut lf) (append_assoc (join space fields) (lf ∷ []) rest) ∙ cut_first lf (join space fields) rest (join_free lf space fields refl h)

-- a line that begins at the start or behind an LF is one of the parts between the LFs
pub line_among : (fields : List (List ℕ)) (out : List ℕ) → frees lf fields ≡ true → HasLine (printed_line fields) out → Among (join space fields) (cut lf out)
line_among fields out h l = elim l.begins [ inl e ↦ first e | inr b ↦ later b.0 b.1 ]
  where
    here : Among (join space fields) (cut lf (printed_line fields ++ l.after))
    here = subst (Among (join space fields)) (sym (line_cut fields l.after h)) (inl refl)

    first : l.before ≡ [] → Among (join space fields) (cut lf out)
    first e =
        subst (λ (v : List ℕ). Among (join space fields) (cut lf v))
        (sym (l.splits ∙ ap (λ (b : List ℕ). b ++ (printed_line fields ++ l.after)) e)) here

    later : (b : List ℕ) → l.before ≡ b ++ lf ∷ [] → Among (join space fields) (cut lf out)
    later b e =
        let whole = l.splits ∙ ap (λ (v : List ℕ). v ++ (printed_line fields ++ l.after)) e ∙ append_assoc b (lf ∷ []) (printed_line fields ++ l.after) in
        subst (Among (join space fields)) (sym (ap (cut lf) whole ∙ cut_append lf b (printed_line fields ++ l.after)))
        (among_r (join space fields) (cut lf b) (cut lf (printed_line fields ++ l.after)) here)

-- ---- the text that is read

-- a text over 4,096 bytes is refused by its length alone
long_refused : (text : List ℕ) → leb (length text) 4096 ≡ false → reading text ≡ not_read No.Length 0
unfolding reading
long_refused text e = cond_false _ _ (and_false (ltb 0 (length text)) (leb (length text) 4096) e)

-- so are its first 4,097 bytes; and of any other text these are the whole
pub cut_same : (text : List ℕ) → desk_prints (take 4097 text) ≡ desk_prints text
unfolding desk_prints
cut_same text = ap (λ (r : Read). text_lines r.outcome r) (bool_cases (leb (length text) 4096)
    (λ e. ap reading (take_all 4097 text (let z = leb_true (length text) 4096 e in omega arith)))
    (λ e. let z = leb_false (length text) 4096 e in
    long_refused (take 4097 text) (out_of (λ q. let y = leb_true (length (take 4097 text)) 4096 q in omega (arith, length-take 4097 text)))
    ∙ sym (long_refused text e)))
