-- The digits of a printed number: its last digit behind the digits of a tenth of it, and at most 20 of them.
use Rattle.std.specs.Prelude.{◌≡◌, cond, List, [], ◌∷◌, ◌++◌, ℕ, zero, suc, ◌+◌, ◌*◌, ◌/◌, ◌%◌, ◌^◌, ◌≤◌, ◌<◌, ltb, length}
use Rattle.std.proofs.Common.{sym, ap, ◌∙◌, pow-suc, div-lt_iff_lt-mul, arith, lt-ltb, length-append}
use Rattle.data.proofs.Laws.Tests.{cond_cases}
use Rattle.document.specs.Lines.{digit_zero}
use Rattle.document.specs.Desk.{digits, printed}
use Rattle.document.proofs.Laws.Printed.{digits_low, digits_high}

-- a number below ten to the k has no more than k digits
digits_enough : (k n : ℕ) → n < 10 ^ suc k → digits (suc (suc k)) n ≡ digits (suc k) n
unfolding digits
digits_enough zero n h = let z : n < 10 = h in simp (lt-ltb n 10 z)
digits_enough (suc k) n h =
    let p : n < 10 ^ suc k * 10 = rw pow-suc at h in
    let z : 0 < 10 = omega arith in
    ap (λ (v : List ℕ). cond (ltb n 10) ((digit_zero + n) ∷ []) (v ++ ((digit_zero + n % 10) ∷ []))) (digits_enough k (n / 10) ((div-lt_iff_lt-mul z).1 p))

pub printed_one : (n : ℕ) → n < 10 → printed n ≡ (digit_zero + n) ∷ []
printed_one n h = digits_low 19 n h

pub printed_more : (n : ℕ) → 10 ≤ n → n < 2 ^ 64 → printed n ≡ printed (n / 10) ++ ((digit_zero + n % 10) ∷ [])
printed_more n l h =
    let z : n / 10 < 10 ^ 19 = omega arith in
    digits_high 19 n l ∙ ap (λ (v : List ℕ). v ++ ((digit_zero + n % 10) ∷ [])) (sym (digits_enough 18 (n / 10) z))

digits_few : (k n : ℕ) → length (digits k n) ≤ k
unfolding digits
digits_few zero n = omega arith
digits_few (suc k) n =
    cond_cases (λ (v : List ℕ). length v ≤ suc k) (ltb n 10) ((digit_zero + n) ∷ []) (digits k (n / 10) ++ ((digit_zero + n % 10) ∷ []))
    (λ e. omega arith)
    (λ e. let z = digits_few k (n / 10) in simp length-append (omega arith))

pub printed_few : (n : ℕ) → length (printed n) ≤ 20
printed_few n = digits_few 20 n
