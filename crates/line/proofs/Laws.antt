-- Laws on lines that the proofs of this crate cite: what the fields of a line make, as far as they are read.
use Rattle.std.specs.Prelude.{◌≡◌, refl, Option, None, Some, List, [], ◌∷◌, ℕ}
use Rattle.document.proofs.Laws.Cuts.{cut_some}
use Rattle.document.specs.Lines.{cut, number, word_of, with1, with2, with3, of1, of2, of3, of_fields}
use Rattle.data.specs.declared.Word.{Word}

-- ---- a field that is none

pub no_fields : (w : List ℕ) → of_fields (w ∷ []) ≡ None
unfolding of_fields
no_fields w = refl

pub no_word : (w : List ℕ) (fs : List (List ℕ)) → word_of w ≡ None → of_fields (w ∷ fs) ≡ None
unfolding of_fields
no_word w [] e = refl
no_word w (a ∷ []) e = rw e refl
no_word w (a ∷ b ∷ []) e = rw e refl
no_word w (a ∷ b ∷ c ∷ []) e = rw e refl
no_word w (a ∷ b ∷ c ∷ d ∷ ds) e = refl

of1_first : (k : Option Word) → of1 k None ≡ None
of1_first None = refl
of1_first (Some k) = refl

of2_first : (k : Option Word) (y : Option ℕ) → of2 k None y ≡ None
of2_first None y = refl
of2_first (Some k) y = refl

of3_first : (k : Option Word) (y z : Option ℕ) → of3 k None y z ≡ None
of3_first None y z = refl
of3_first (Some k) y z = refl

pub no_first : (w a : List ℕ) (fs : List (List ℕ)) → number a ≡ None → of_fields (w ∷ a ∷ fs) ≡ None
unfolding of_fields
no_first w a [] e = rw e (of1_first (word_of w))
no_first w a (b ∷ []) e = rw e (of2_first (word_of w) (number b))
no_first w a (b ∷ c ∷ []) e = rw e (of3_first (word_of w) (number b) (number c))
no_first w a (b ∷ c ∷ d ∷ ds) e = refl

of2_second : (k : Option Word) (x : Option ℕ) → of2 k x None ≡ None
of2_second None x = refl
of2_second (Some k) None = refl
of2_second (Some k) (Some x) = refl

of3_second : (k : Option Word) (x z : Option ℕ) → of3 k x None z ≡ None
of3_second None x z = refl
of3_second (Some k) None z = refl
of3_second (Some k) (Some x) z = refl

pub no_second : (w a b : List ℕ) (fs : List (List ℕ)) → number b ≡ None → of_fields (w ∷ a ∷ b ∷ fs) ≡ None
unfolding of_fields
no_second w a b [] e = rw e (of2_second (word_of w) (number a))
no_second w a b (c ∷ []) e = rw e (of3_second (word_of w) (number a) (number c))
no_second w a b (c ∷ d ∷ ds) e = refl

of3_third : (k : Option Word) (x y : Option ℕ) → of3 k x y None ≡ None
of3_third None x y = refl
of3_third (Some k) None y = refl
of3_third (Some k) (Some x) None = refl
of3_third (Some k) (Some x) (Some y) = refl

pub no_third : (w a b c : List ℕ) → number c ≡ None → of_fields (w ∷ a ∷ b ∷ c ∷ []) ≡ None
unfolding of_fields
no_third w a b c e = rw e (of3_third (word_of w) (number a) (number b))

-- a fourth number is one too many
pub a_fourth : (w a b c : List ℕ) (s : ℕ) (xs : List ℕ) → of_fields (w ∷ a ∷ b ∷ c ∷ cut s xs) ≡ None
unfolding of_fields
a_fourth w a b c s xs = rw (cut_some s xs) refl

-- ---- fields that are all read

module _ (w a : List ℕ) (k : Word) (x : ℕ) (word : word_of w ≡ Some k) (first : number a ≡ Some x) where
  pub one_number : of_fields (w ∷ a ∷ []) ≡ with1 k x
  unfolding of_fields
  one_number = rw (word, first) refl

  pub two_numbers : (b : List ℕ) (y : ℕ) → number b ≡ Some y → of_fields (w ∷ a ∷ b ∷ []) ≡ with2 k x y
  unfolding of_fields
  two_numbers b y second = rw (word, first, second) refl

  pub three_numbers : (b c : List ℕ) (y z : ℕ) → number b ≡ Some y → number c ≡ Some z → of_fields (w ∷ a ∷ b ∷ c ∷ []) ≡ with3 k x y z
  unfolding of_fields
  three_numbers b c y z second third = rw (word, first, second, third) refl

-- the fields of a line, as far as they are read
pub ruleset by_field = (no_fields, no_word, no_first, no_second, no_third, a_fourth, one_number, two_numbers, three_numbers)
