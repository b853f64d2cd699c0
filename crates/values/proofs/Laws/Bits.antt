-- Bits of a word, as the code takes them.
use Rattle.std.specs.Prelude.{◌≡◌, refl, ℕ, zero, suc, ◌/◌, ◌%◌, ◌^◌, ◌≤◌, ◌<◌, eqb, ltb, length, get_or}
use Rattle.std.proofs.Common.{sym, ap, ◌∙◌, not-suc-le-zero, le_of_suc-le-suc, div-one, one-mul, arith}
use Rattle.std.proofs.Math.Nat.{pow-succ', div-div-eq-div-mul, div-eq_of_lt, div-lt_iff_lt-mul}
use Rattle.std.specs.Int.Bits.{bit_and}
use Rattle.std.proofs.lemmas.Nat.{pow_pos}
use Rattle.std.proofs.lemmas.Nat.Bits.{shr_and_one}
use Rattle.std.proofs.Math.ListN.{get_or-eq_default}
use Rattle.data.proofs.Laws.Tests.{bool_cases, out_of, true_eqb, eqb_true, ltb_true, ltb_false}
use Rattle.document.specs.Running.{bits}

bits_in : (m w k : ℕ) → k < m → get_or (bits m w) k 0 ≡ w / 2 ^ k % 2
unfolding bits
bits_in zero w k h = absurd (not-suc-le-zero h)
bits_in (suc m) w zero h = sym (ap (λ (x : ℕ). x % 2) (div-one w))
bits_in (suc m) w (suc k) h = bits_in m (w / 2) k (le_of_suc-le-suc h)
    ∙ ap (λ (x : ℕ). x % 2) (div-div-eq-div-mul w 2 (2 ^ k) ∙ ap (λ (x : ℕ). w / x) (sym (pow-succ' 2 k)))

length_bits : (m w : ℕ) → length (bits m w) ≡ m
unfolding bits
length_bits zero w = refl
length_bits (suc m) w = ap suc (length_bits m (w / 2))

-- bit k of a word, as the code takes it
pub bit_is : (w k : ℕ) → k < 64 → bit_and (w / 2 ^ k) 1 ≡ get_or (bits 64 w) k 0
bit_is w k h = shr_and_one w k ∙ sym (bits_in 64 w k h)

pub bit_none : (w k : ℕ) → 64 ≤ k → 0 ≡ get_or (bits 64 w) k 0
bit_none w k h = sym (get_or-eq_default (bits 64 w) 0 (rw (length_bits 64 w) h))

-- no bit is set from bit k on, as the code tests it
pub none_from : (w k : ℕ) → eqb (w / 2 ^ k) 0 ≡ ltb w (2 ^ k)
none_from w k =
    bool_cases
    (ltb w (2 ^ k))
    (λ t. true_eqb (w / 2 ^ k) 0 (div-eq_of_lt (ltb_true w (2 ^ k) t)) ∙ sym t)
    (λ f. out_of (λ e.
    let z = eqb_true (w / 2 ^ k) 0 e in
    let h = ltb_false w (2 ^ k) f in
    let b = (div-lt_iff_lt-mul {k = 2 ^ k} {x = w} {y = 1} (pow_pos k)).0 (omega arith) in
    omega (arith, one-mul (2 ^ k)))
    ∙ sym f)
