-- Laws on cuts, numbers and words that the proofs of this crate cite.
use Rattle.std.specs.Prelude.{◌≡◌, refl, Bool, true, false, not, ◌&&◌, cond, None, Some, List, [], ◌∷◌, ◌++◌, ℕ, suc, ◌+◌, ◌-◌, ◌*◌, ◌≤◌, ◌<◌, eqb, ltb, length, get_or, take, drop, position}
use Rattle.std.specs.List.{position_or_len, between}
use Rattle.std.proofs.Common.{ap, sym, ◌∙◌, subst, arith, add-one, eqb-true, ltb-true, ltb-false}
use Rattle.std.proofs.Math.Bool.{and-false, and-true}
use Rattle.std.proofs.lemmas.Bool.Decides.{nat_tests}
use Rattle.std.proofs.lemmas.Slice.{between_to_end}
use Rattle.std.proofs.lemmas.Option.{cond_some, none-some}
use Rattle.data.specs.Basics.{same}
use Rattle.document.specs.Lines.{cut, front, number, digit, lead}

-- ---- numbers, by the length of the field

pub number_0 : (xs : List ℕ) → length xs < 1 → number xs ≡ None
unfolding number
number_0 [] h = refl
number_0 (a ∷ xs) h = absurd (omega arith)

pub number_1 : (xs : List ℕ) → length xs ≡ 1 → number xs ≡ cond (digit (get_or xs 0 0)) (Some (get_or xs 0 0 - 48)) None
unfolding number
number_1 [] h = absurd (omega arith)
number_1 (a ∷ []) h = refl
number_1 (a ∷ b ∷ xs) h = absurd (omega arith)

pub number_2 : (xs : List ℕ) → length xs ≡ 2
    → number xs ≡ cond (lead (get_or xs 0 0) && digit (get_or xs 1 0)) (Some ((get_or xs 0 0 - 48) * 10 + (get_or xs 1 0 - 48))) None
unfolding number
number_2 [] h = absurd (omega arith)
number_2 (a ∷ []) h = absurd (omega arith)
number_2 (a ∷ b ∷ []) h = refl
number_2 (a ∷ b ∷ c ∷ xs) h = absurd (omega arith)

pub number_3 : (xs : List ℕ) → length xs ≡ 3
    → number xs
    ≡ cond (lead (get_or xs 0 0) && digit (get_or xs 1 0) && digit (get_or xs 2 0))
    (Some ((get_or xs 0 0 - 48) * 100 + (get_or xs 1 0 - 48) * 10 + (get_or xs 2 0 - 48))) None
unfolding number
number_3 [] h = absurd (omega arith)
number_3 (a ∷ []) h = absurd (omega arith)
number_3 (a ∷ b ∷ []) h = absurd (omega arith)
number_3 (a ∷ b ∷ c ∷ []) h = refl
number_3 (a ∷ b ∷ c ∷ d ∷ xs) h = absurd (omega arith)

pub number_4 : (xs : List ℕ) → 3 < length xs → number xs ≡ None
unfolding number
number_4 [] h = absurd (omega arith)
number_4 (a ∷ []) h = absurd (omega arith)
number_4 (a ∷ b ∷ []) h = absurd (omega arith)
number_4 (a ∷ b ∷ c ∷ []) h = absurd (omega arith)
number_4 (a ∷ b ∷ c ∷ d ∷ xs) h = refl

-- a field of any length, and the tests of its bytes
pub ruleset numbers = (number_0, number_1, number_2, number_3, number_4, nat_tests)

-- ---- words, byte by byte

pub same_not : (xs ys : List ℕ) → (length xs ≡ length ys → ⊥) → same xs ys ≡ false
unfolding same
same_not [] [] f = absurd (f refl)
same_not [] (y ∷ ys) f = refl
same_not (x ∷ xs) [] f = refl
same_not (x ∷ xs) (y ∷ ys) f = rw (same_not xs ys (λ e. f (ap suc e))) (and-false (eqb x y))

pub same_3 : (xs : List ℕ) (a b c : ℕ) → length xs ≡ 3
    → same xs (a ∷ b ∷ c ∷ []) ≡ (eqb (get_or xs 0 0) a && (eqb (get_or xs 1 0) b && eqb (get_or xs 2 0) c))
unfolding same
same_3 [] a b c h = absurd (omega arith)
same_3 (x ∷ []) a b c h = absurd (omega arith)
same_3 (x ∷ y ∷ []) a b c h = absurd (omega arith)
same_3 (x ∷ y ∷ z ∷ []) a b c h = simp and-true
same_3 (x ∷ y ∷ z ∷ w ∷ xs) a b c h = absurd (omega arith)

pub same_4 : (xs : List ℕ) (a b c d : ℕ) → length xs ≡ 4
    → same xs (a ∷ b ∷ c ∷ d ∷ []) ≡ (eqb (get_or xs 0 0) a && (eqb (get_or xs 1 0) b && (eqb (get_or xs 2 0) c && eqb (get_or xs 3 0) d)))
unfolding same
same_4 [] a b c d h = absurd (omega arith)
same_4 (x ∷ xs) a b c d h = ap (λ (t : Bool). eqb x a && t) (same_3 xs b c d (omega arith))

pub same_7 : (xs : List ℕ) (a b c d e f g : ℕ) → length xs ≡ 7
    → same xs (a ∷ b ∷ c ∷ d ∷ e ∷ f ∷ g ∷ [])
    ≡ (eqb (get_or xs 0 0) a && (eqb (get_or xs 1 0) b && (eqb (get_or xs 2 0) c
    && (eqb (get_or xs 3 0) d && (eqb (get_or xs 4 0) e && (eqb (get_or xs 5 0) f && eqb (get_or xs 6 0) g))))))
unfolding same
same_7 [] a b c d e f g h = absurd (omega arith)
same_7 (x ∷ []) a b c d e f g h = absurd (omega arith)
same_7 (x ∷ y ∷ []) a b c d e f g h = absurd (omega arith)
same_7 (x ∷ y ∷ z ∷ xs) a b c d e f g h = ap (λ (t : Bool). eqb x a && (eqb y b && (eqb z c && t))) (same_4 xs d e f g (omega arith))

-- a field against the words of any length, and the tests of its bytes
pub ruleset spellings = (same_3, same_4, same_7, same_not, nat_tests)

-- ---- cuts

-- xs, cut at its first separator, which is at place n
record CutAt (s : ℕ) (xs : List ℕ) (n : ℕ) : Type 0 where
  cut : cut s xs ≡ take n xs ∷ cut s (drop (suc n) xs)
  parts : xs ≡ take n xs ++ s ∷ drop (suc n) xs

abbrev place : ℕ → List ℕ → ℕ
place s xs = position_or_len (λ b. eqb b s) xs

cut_more : (s x : ℕ) (xs : List ℕ) (n : ℕ) → eqb x s ≡ false → CutAt s xs n → CutAt s (x ∷ xs) (suc n)
unfolding cut front
cut_more s x xs n e r = record { cut = simp (e, r.cut); parts = ap (λ (ys : List ℕ). x ∷ ys) r.parts }

at_place : (s : ℕ) (xs : List ℕ) → place s xs < length xs → CutAt s xs (place s xs)
unfolding cut front
at_place s [] h = absurd (omega arith)
at_place s (x ∷ xs) h = go (eqb x s) refl (at_place s xs) h where
  go : (b : Bool) → eqb x s ≡ b → (place s xs < length xs → CutAt s xs (place s xs)) → cond (not b) (1 + place s xs) 0 < suc (length xs)
      → CutAt s (x ∷ xs) (cond (not b) (1 + place s xs) 0)
  go true e more h = record { cut = rw e refl; parts = ap (λ (y : ℕ). y ∷ xs) (eqb-true x s e) }
  go false e more h =
      let z : suc (place s xs) ≡ 1 + place s xs = omega arith in
      subst (CutAt s (x ∷ xs)) z (cut_more s x xs (place s xs) e (more (omega arith)))

no_place : (s : ℕ) (xs : List ℕ) → length xs ≤ place s xs → cut s xs ≡ xs ∷ []
unfolding cut front
no_place s [] h = refl
no_place s (x ∷ xs) h = go (eqb x s) (no_place s xs) h where
  go : (b : Bool) → (length xs ≤ place s xs → cut s xs ≡ xs ∷ []) → suc (length xs) ≤ cond (not b) (1 + place s xs) 0
      → cond b ([] ∷ cut s xs) (front x (cut s xs)) ≡ (x ∷ xs) ∷ []
  go true more h = absurd (omega arith)
  go false more h = rw (more (omega arith)) refl

-- what stands before the first separator and behind it
pub record Split (s : ℕ) (xs : List ℕ) (n : ℕ) : Type 0 where
  pub cut : cut s xs ≡ take n xs ∷ cut s (between (n + 1) (length xs) xs)
  pub parts : xs ≡ take n xs ++ s ∷ between (n + 1) (length xs) xs

pub cut_some : (s : ℕ) (xs : List ℕ) (n : ℕ) → position (λ b. eqb b s) xs ≡ Some n → Split s xs n
cut_some s xs n h =
    let t = cond_some (ltb (place s xs) (length xs)) (place s xs) n h in
    let r : CutAt s xs n = subst (CutAt s xs) t.1 (at_place s xs (ltb-true _ _ t.0)) in
    let e : drop (suc n) xs ≡ between (n + 1) (length xs) xs = rw add-one (sym (between_to_end xs (suc n) (length xs) (omega arith))) in
    record {
      cut = r.cut ∙ ap (λ (ys : List ℕ). take n xs ∷ cut s ys) e;
      parts = r.parts ∙ ap (λ (ys : List ℕ). take n xs ++ s ∷ ys) e;
    }

pub cut_none : (s : ℕ) (xs : List ℕ) → position (λ b. eqb b s) xs ≡ None → cut s xs ≡ xs ∷ []
cut_none s xs h = no_place s xs (go (ltb (place s xs) (length xs)) refl h) where
  go : (b : Bool) → ltb (place s xs) (length xs) ≡ b → cond b (Some (place s xs)) None ≡ None → length xs ≤ place s xs
  go true e h = absurd (none-some (place s xs) (sym h))
  go false e h = ltb-false _ _ e
