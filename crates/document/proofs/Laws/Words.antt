-- Laws of words: the ones of a secret's part of the word of needed shares are how many of its shares are needed.
use Rattle.std.specs.Prelude.{◌≡◌, refl, Bool, true, false, ℕ, zero, suc, ◌+◌, ◌*◌, ◌/◌, ◌%◌, ◌^◌, ◌≤◌, ◌<◌}
use Rattle.std.proofs.Common.{sym, ap, ap₂, ◌∙◌, add_assoc, add-zero, add-suc, pow-suc, mul_assoc, mul_comm, arith, lit<, pow-add}
use Rattle.std.specs.Int.Count.{ones, ones_in}
use Rattle.std.proofs.lemmas.Nat.{ones_cat}
use Rattle.std.proofs.Math.Pow.{high, low}
use Rattle.data.specs.Basics.{one, tally}
use Rattle.document.specs.Padding.{word}

bit_most : (b : Bool) (p : ℕ) → one b * p ≤ p
bit_most true p = omega arith
bit_most false p = omega arith

pub word_lt : (m : ℕ) (f : ℕ → Bool) → word m f < 2 ^ m
unfolding word
word_lt zero f = lit< tt
word_lt (suc m) f = let a = word_lt m f in let b = bit_most (f m) (2 ^ m) in omega (arith, pow-suc 2 m)

ones_one : (b : Bool) → ones (one b) ≡ one b
unfolding ones ones_in
ones_one true = refl
ones_one false = refl

pub ones_word : (m : ℕ) (f : ℕ → Bool) → ones (word m f) ≡ tally m f
unfolding word tally ones
ones_word zero f = refl
ones_word (suc m) f = ones_cat m (one (f m)) (word m f) (word_lt m f) ∙ ap₂ ◌+◌ (ones_one (f m)) (ones_word m f)

word_cat : (k d : ℕ) (f : ℕ → Bool) → word (k + d) f ≡ word d (λ j. f (k + j)) * 2 ^ k + word k f
unfolding word
word_cat k zero f = rw add-zero (omega arith)
word_cat k (suc d) f =
    let q = times (one (f (k + d))) (2 ^ (k + d)) (2 ^ d) (2 ^ k) (pow-add 2 k d ∙ mul_comm (2 ^ k) (2 ^ d)) in
    rw add-suc (rw (word_cat k d f) (omega arith))
  where
    times : (a p x y : ℕ) → p ≡ x * y → a * p ≡ a * x * y
    times a p x y e = ap (λ (z : ℕ). a * z) e ∙ sym (mul_assoc a x y)

-- the d bits from k on
pub word_part : (k d m : ℕ) (f : ℕ → Bool) → word (k + d + m) f / 2 ^ k % 2 ^ d ≡ word d (λ j. f (k + j))
word_part k d m f =
    ap (λ (z : ℕ). word z f / 2 ^ k % 2 ^ d) (add_assoc k d m)
    ∙ ap (λ (z : ℕ). z / 2 ^ k % 2 ^ d) (word_cat k (d + m) f)
    ∙ ap (λ (z : ℕ). z % 2 ^ d) (high (word (d + m) (λ j. f (k + j))) k (word_lt k f) ∙ word_cat d m (λ j. f (k + j)))
    ∙ low (word m (λ j. f (k + (d + j)))) d (word_lt d (λ j. f (k + j)))

-- the ones of the d bits from k on
pub ones_part : (k d m : ℕ) (f : ℕ → Bool) → ones (word (k + d + m) f / 2 ^ k % 2 ^ d) ≡ tally d (λ j. f (k + j))
ones_part k d m f = ap ones (word_part k d m f) ∙ ones_word d (λ j. f (k + j))
