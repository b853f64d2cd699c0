-- A field against a word from a place on, the words in the order of their tests, and the bytes behind a place.
use Rattle.std.specs.Prelude.{◌≡◌, refl, true, false, ◌&&◌, None, Some, List, [], ◌∷◌, ℕ, zero, suc, ◌+◌, ◌-◌, ◌≤◌, ◌<◌, eqb, length, get_or, take, drop}
use Rattle.std.proofs.Common.{add-one, arith, length-drop, drop_of_length-le, take_all}
use Rattle.data.specs.Basics.{same}
use Rattle.document.specs.Lines.{word_of, spelled}
use Rattle.data.specs.declared.Word.{Word}
use Rattle.data.specs.declared.Word.TheVariants.{Routine, Rand, Pub, Xor, And, Not, Out}

-- ---- two lists from a place on

-- both reach past the place: the bytes there are asked, and then what follows them
pub same_step : (i : ℕ) (xs ys : List ℕ) → i < length xs → i < length ys
    → same (drop i xs) (drop i ys) ≡ (eqb (get_or xs i 0) (get_or ys i 0) && same (drop (i + 1) xs) (drop (i + 1) ys))
unfolding same
same_step i xs ys h k = rw add-one (go i xs ys h k) where
  go : (i : ℕ) (xs ys : List ℕ) → i < length xs → i < length ys
      → same (drop i xs) (drop i ys) ≡ (eqb (get_or xs i 0) (get_or ys i 0) && same (drop (suc i) xs) (drop (suc i) ys))
  go i [] ys h k = absurd (omega arith)
  go i (x ∷ xs) [] h k = absurd (omega arith)
  go zero (x ∷ xs) (y ∷ ys) h k = refl
  go (suc i) (x ∷ xs) (y ∷ ys) h k = go i xs ys (omega arith) (omega arith)

-- neither reaches past it: nothing is left that differs
pub same_end : (i : ℕ) (xs ys : List ℕ) → length xs ≤ i → length ys ≤ i → same (drop i xs) (drop i ys) ≡ true
unfolding same
same_end i xs ys h k = rw (drop_of_length-le xs h, drop_of_length-le ys k) refl

-- ---- the words in the order of their tests

module _ (f : List ℕ) where
  -- the field has the bytes of the word
  abbrev Is : Word → Type 0
  Is w = same f (spelled w) ≡ true

  -- it has others
  abbrev No : Word → Type 0
  No w = same f (spelled w) ≡ false

  -- with the bytes of `rand` it is that word
  pub is_rand_lem : Is Rand → Some Rand ≡ word_of f
  unfolding word_of
  is_rand_lem a = simp (a)

  -- with those of `pub`, and not of `rand`
  pub is_pub_lem : No Rand → Is Pub → Some Pub ≡ word_of f
  unfolding word_of
  is_pub_lem a b = simp (a, b)

  -- of `xor`, and of neither before it
  pub is_xor : No Rand → No Pub → Is Xor → Some Xor ≡ word_of f
  unfolding word_of
  is_xor a b d = simp (a, b, d)

  -- of `and`, and of none of the three before it
  pub is_and : No Rand → No Pub → No Xor → Is And → Some And ≡ word_of f
  unfolding word_of
  is_and a b d e = simp (a, b, d, e)

  -- of `not`, and of none of the four before it
  pub is_not : No Rand → No Pub → No Xor → No And → Is Not → Some Not ≡ word_of f
  unfolding word_of
  is_not a b d e g = simp (a, b, d, e, g)

  -- of `out`, and of none of the five before it
  pub is_out : No Rand → No Pub → No Xor → No And → No Not → Is Out → Some Out ≡ word_of f
  unfolding word_of
  is_out a b d e g h = simp (a, b, d, e, g, h)

  -- of `routine`, and of none of the six before it
  pub is_routine : No Rand → No Pub → No Xor → No And → No Not → No Out → Is Routine → Some Routine ≡ word_of f
  unfolding word_of
  is_routine a b d e g h i = simp (a, b, d, e, g, h, i)

  -- with the bytes of none of the seven it is no word
  pub is_other_lem : No Rand → No Pub → No Xor → No And → No Not → No Out → No Routine → None ≡ word_of f
  unfolding word_of
  is_other_lem a b d e g h i = simp (a, b, d, e, g, h, i)

-- ---- the bytes behind a place

-- taken at the length that is left, they are all there
pub tail_is : (n : ℕ) (xs : List ℕ) → take (length xs - n) (drop n xs) ≡ drop n xs
tail_is n xs = take_all (length xs - n) (drop n xs) (simp length-drop (omega arith))
