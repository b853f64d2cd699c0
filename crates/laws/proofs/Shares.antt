-- The word of live shares with a bit more, whatever the bit, and the secrets with one more.
use Rattle.std.specs.Prelude.{◌≡◌, Bool, true, false, ◌||◌, ℕ, ◌+◌, ◌*◌, ◌%◌, ◌^◌, ◌≤◌, ◌<◌, ltb}
use Rattle.std.proofs.Common.{sym, ◌∙◌, one-mul, add-one, arith, pow_mono}
use Rattle.data.specs.Basics.{one, some}
use Rattle.document.specs.Padding.{word}
use Rattle.document.proofs.Laws.Words.{word_lt}
use Rattle.shares.specs.Words.{ones_of, some_over}
use Rattle.shares.proofs.Laws.Words.{one_shl}

-- a bit that is set, as the code shifts it
pub bit_on : (k : ℕ) → k < 64 → (1 * 2 ^ k) % 2 ^ 64 ≡ one true * 2 ^ k
bit_on k h = one_shl k h ∙ sym (one-mul (2 ^ k))

-- a bit that is not set
pub bit_off : (k : ℕ) → 0 ≡ one false * 2 ^ k
bit_off k = omega arith

-- a bit more
pub word_more : (k : ℕ) (f : ℕ → Bool) → word k f + one (f k) * 2 ^ k ≡ word (k + 1) f
unfolding word
word_more k f = rw (add-one k) (omega arith)

-- it fits in the word
pub word_fits : (k : ℕ) (f : ℕ → Bool) → k < 64 → word k f + one (f k) * 2 ^ k < 2 ^ 64
word_fits k f h =
    let a = word_more k f in
    let b = word_lt (k + 1) f in
    let c : 2 ^ (k + 1) ≤ 2 ^ 64 = pow_mono {i = k + 1} {j = 64} (omega arith) in
    omega arith

-- a secret more
pub over_more : (i d shares bound : ℕ) → (some_over i d shares bound || ltb bound (ones_of d i shares)) ≡ some_over (i + 1) d shares bound
unfolding some_over some
over_more i d shares bound = simp add-one
