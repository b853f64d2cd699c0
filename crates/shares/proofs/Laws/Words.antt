-- The word of live shares, bit by bit, and the ones of one secret in it.
use Rattle.std.specs.Prelude.{◌≡◌, refl, Bool, true, false, ℕ, ◌+◌, ◌-◌, ◌*◌, ◌/◌, ◌%◌, ◌^◌, ◌≤◌, ◌<◌, ltb}
use Rattle.std.proofs.Common.{sym, ap, ◌∙◌, one-mul, add-zero, mul-le-mul_right, add-one, arith, lit<, pow_pos, pow_mono, shl_exact}
use Rattle.std.specs.Int.Bits.{bit_and}
use Rattle.std.proofs.lemmas.Nat.Bits.{and_high}
use Rattle.std.specs.Int.Count.{ones}
use Rattle.std.proofs.lemmas.Nat.{ones_cat}
use Rattle.std.proofs.Math.Pow.{high_ones, ones_lt}
use Rattle.data.specs.Basics.{one, some}
use Rattle.data.proofs.Laws.Tests.{true_ltb, some_none}
use borrow.Author.Tests.{le-ltb}
use Rattle.document.specs.Padding.{word}
use Rattle.document.proofs.Laws.Words.{word_lt}
use Rattle.shares.specs.Words.{Shares, ones_of, some_over}

pub secret_fits : (s d i : ℕ) → Shares s d → i < s → i * d + d ≤ 64
secret_fits s d i h l = let a = mul-le-mul_right d l in let b = h.in_word in omega arith

-- ---- the word

pub one_shl : (k : ℕ) → k < 64 → (1 * 2 ^ k) % 2 ^ 64 ≡ 2 ^ k
one_shl k h = shl_exact {a = 1} 1 k 64 (lit< tt) (omega arith) ∙ one-mul (2 ^ k)

pub word_none : (f : ℕ → Bool) → word 0 f ≡ 0
unfolding word
word_none f = refl

more : (k : ℕ) (f : ℕ → Bool) → word (k + 1) f ≡ word k f + one (f k) * 2 ^ k
unfolding word
more k f = rw (add-one k) (omega arith)

pub word_on : (k : ℕ) (f : ℕ → Bool) → k < 64 → f k ≡ true → word (k + 1) f ≡ word k f + (1 * 2 ^ k) % 2 ^ 64
word_on k f h t = more k f ∙ rw (one_shl k h, t, one-mul (2 ^ k)) refl

pub word_fits : (k : ℕ) (f : ℕ → Bool) → k < 64 → f k ≡ true → word k f + (1 * 2 ^ k) % 2 ^ 64 < 2 ^ 64
word_fits k f h t =
    let e = word_on k f h t in
    let b = word_lt (k + 1) f in
    let c : 2 ^ (k + 1) ≤ 2 ^ 64 = pow_mono {i = k + 1} {j = 64} (omega arith) in
    omega arith

pub word_off : (k : ℕ) (f : ℕ → Bool) → f k ≡ false → word (k + 1) f ≡ word k f
word_off k f o = more k f ∙ rw o (omega arith)

-- ---- the ones of a secret

pub mask_word : (d k : ℕ) → d < 64 → d + k ≤ 64 → (((1 * 2 ^ d) % 2 ^ 64 - 1) * 2 ^ k) % 2 ^ 64 ≡ 2 ^ (d + k) - 2 ^ k
mask_word d k hd hk =
    ap (λ (x : ℕ). ((x - 1) * 2 ^ k) % 2 ^ 64) (one_shl d hd)
    ∙ shl_exact {a = 2 ^ d - 1} d k 64 (ones_lt d) hk
    ∙ sym (high_ones d k)

ones_none : ones 0 ≡ 0
unfolding ones
ones_none = refl

pub ones_masked : (w d i : ℕ) → ones (bit_and w (2 ^ (d + i * d) - 2 ^ (i * d))) ≡ ones_of d i w
unfolding ones_of
ones_masked w d i =
    let k = i * d in
    ap ones (and_high w d k ∙ sym (add-zero _))
    ∙ ones_cat k (w / 2 ^ k % 2 ^ d) 0 (pow_pos k)
    ∙ ap (λ (x : ℕ). ones (w / 2 ^ k % 2 ^ d) + x) ones_none
    ∙ add-zero _

-- ---- the secrets, one after the other

pub over_none : (d shares bound : ℕ) → some_over 0 d shares bound ≡ false
unfolding some_over some
over_none d shares bound = refl

pub over_on : (i d shares bound : ℕ) → some_over i d shares bound ≡ false → ones_of d i shares ≤ bound → some_over (i + 1) d shares bound ≡ false
unfolding some_over some
over_on i d shares bound h l = rw (add-one i, h) (le-ltb bound (ones_of d i shares) l)

pub over_here : (i s d shares bound : ℕ) → i < s → bound < ones_of d i shares → some_over s d shares bound ≡ true
unfolding some_over
over_here i s d shares bound h l = go (some_over s d shares bound) refl
  where
    go : (b : Bool) → some_over s d shares bound ≡ b → b ≡ true
    go true e = refl
    go false e =
        let f = true_ltb bound (ones_of d i shares) l in
        let g = some_none s (λ k. ltb bound (ones_of d k shares)) e i h in
        cc
