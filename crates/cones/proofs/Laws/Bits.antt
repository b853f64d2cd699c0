-- The bits of words: of sums, cuts and single bits, and how many ones a part has.
use Rattle.std.specs.Prelude.{◌≡◌, refl, Bool, true, false, not, ◌&&◌, ◌||◌, ◌≢◌, ℕ, zero, suc, ◌+◌, ◌-◌, ◌*◌, ◌/◌, ◌%◌, ◌^◌, ◌≤◌, ◌<◌, eqb}
use Rattle.std.proofs.Common.{w64, sym, ap, ap₂, ◌∙◌, one-mul, mod-lt, mod-eq_of_lt, arith, lit<, pow_pos, pow-add, shr-shr}
use Rattle.std.proofs.Math.Nat.{div_self, div-eq_of_lt}
use Rattle.std.proofs.Math.Decide.{dec_le}
use Rattle.std.proofs.Math.Arith.{bin_ind}
use Rattle.std.specs.Int.Bits.{bit_and, bit_or, bit_xor, shifted_even}
use Rattle.std.proofs.lemmas.Nat.{and_shr, or_shr, xor_shr, and_mod, or_mod, xor_mod, shl-shr, mod-pow-add}
use Rattle.std.specs.Int.Count.{ones}
use Rattle.std.proofs.lemmas.Nat.{and_le_l, xor_lt}
use Rattle.std.proofs.lemmas.Nat.Bits.{bit_at_and, bit_at_xor, bit_at_not, bit_at-lt, same_from_bits_below}
use Rattle.std.proofs.Math.Pow.{pow-lt}
use Rattle.data.specs.Basics.{one, tally}
use Rattle.document.specs.Padding.{word}
use Rattle.data.proofs.Laws.Tests.{clash, true_eqb, wire_cases}
use Rattle.document.proofs.Laws.Words.{ones_part}
use Rattle.cones.specs.Bits.{minus}

-- bit j of the word is set
unfoldable pub has : ℕ → ℕ → Bool
has x j = eqb (x / 2 ^ j % 2) 1

-- a bit is 0 or 1
two : {X : Type 0} (b : ℕ) → b < 2 → (b ≡ 0 → X) → (b ≡ 1 → X) → X
two zero h f g = f refl
two (suc zero) h f g = g refl
two (suc (suc b)) h f g = absurd (omega arith)

bit_lt : (x j : ℕ) → x / 2 ^ j % 2 < 2
bit_lt x j = mod-lt (x / 2 ^ j) (lit< tt)

-- a rule of two bits is a rule of two words
both : (f : ℕ → ℕ → ℕ) (g : Bool → Bool → Bool) → eqb (f 0 0) 1 ≡ g false false → eqb (f 0 1) 1 ≡ g false true → eqb (f 1 0) 1 ≡ g true false
    → eqb (f 1 1) 1 ≡ g true true
    → (a b : ℕ) → a < 2 → b < 2 → eqb (f a b) 1 ≡ g (eqb a 1) (eqb b 1)
both f g p q r s zero zero h k = p
both f g p q r s zero (suc zero) h k = q
both f g p q r s (suc zero) zero h k = r
both f g p q r s (suc zero) (suc zero) h k = s
both f g p q r s (suc (suc a)) b h k = absurd (omega arith)
both f g p q r s zero (suc (suc b)) h k = absurd (omega arith)
both f g p q r s (suc zero) (suc (suc b)) h k = absurd (omega arith)

pub has_or : (x y j : ℕ) → has (bit_or x y) j ≡ (has x j || has y j)
unfolding has
has_or x y j =
    ap (λ (z : ℕ). eqb (z % 2) 1) (or_shr x y j) ∙ ap (λ (z : ℕ). eqb z 1) (or_mod (x / 2 ^ j) (y / 2 ^ j) 1)
    ∙ both bit_or ◌||◌ refl refl refl refl (x / 2 ^ j % 2) (y / 2 ^ j % 2) (bit_lt x j) (bit_lt y j)

has_and : (x y j : ℕ) → has (bit_and x y) j ≡ (has x j && has y j)
unfolding has
has_and x y j =
    ap (λ (z : ℕ). eqb (z % 2) 1) (and_shr x y j) ∙ ap (λ (z : ℕ). eqb z 1) (and_mod (x / 2 ^ j) (y / 2 ^ j) 1)
    ∙ both bit_and ◌&&◌ refl refl refl refl (x / 2 ^ j % 2) (y / 2 ^ j % 2) (bit_lt x j) (bit_lt y j)

-- one of the two, and not both
abbrev unlike : Bool → Bool → Bool
unlike true b = not b
unlike false b = b

has_xor : (x y j : ℕ) → has (bit_xor x y) j ≡ unlike (has x j) (has y j)
unfolding has
has_xor x y j =
    ap (λ (z : ℕ). eqb (z % 2) 1) (xor_shr x y j) ∙ ap (λ (z : ℕ). eqb z 1) (xor_mod (x / 2 ^ j) (y / 2 ^ j) 1)
    ∙ both bit_xor unlike refl refl refl refl (x / 2 ^ j % 2) (y / 2 ^ j % 2) (bit_lt x j) (bit_lt y j)

pub has_minus : (x y j : ℕ) → has (minus x y) j ≡ (has x j && not (has y j))
unfolding minus
has_minus x y j = has_xor x (bit_and x y) j ∙ ap (unlike (has x j)) (has_and x y j) ∙ go (has x j) (has y j)
  where
    go : (a b : Bool) → unlike a (a && b) ≡ (a && not b)
    go true b = refl
    go false b = refl

pub has_none : (j : ℕ) → has 0 j ≡ false
unfolding has
has_none j = ap (λ (z : ℕ). eqb (z % 2) 1) (div-eq_of_lt (pow_pos j))

pub has_one : (k : ℕ) → has (2 ^ k) k ≡ true
unfolding has
has_one k = ap (λ (x : ℕ). eqb (x % 2) 1) (div_self (pow_pos k))

none_below : (j k : ℕ) → j < k → has (2 ^ k) j ≡ false
unfolding has
none_below j k h =
    let e : k ≡ suc (k - j - 1) + j = omega arith in
    ap (λ (x : ℕ). eqb ((2 ^ x / 2 ^ j) % 2) 1) e
    ∙ ap (λ (x : ℕ). eqb ((x / 2 ^ j) % 2) 1) (pow-add 2 (suc (k - j - 1)) j)
    ∙ ap (λ (x : ℕ). eqb (x % 2) 1) (shl-shr (2 ^ suc (k - j - 1)) j ∙ sym (one-mul (2 ^ suc (k - j - 1))))
    ∙ ap (λ (x : ℕ). eqb x 1) (shifted_even 1 (k - j - 1))

none_above : (j k : ℕ) → k < j → has (2 ^ k) j ≡ false
unfolding has
none_above j k h = ap (λ (x : ℕ). eqb (x % 2) 1) (div-eq_of_lt (pow-lt h))

-- a single bit is at its place only
pub has_at : (k j : ℕ) → has (2 ^ k) j ≡ true → k ≡ j
has_at k j e = wire_cases k j (λ q. q) (λ n. go (dec_le k j) n)
  where
    go : Dec (k ≤ j) → k ≢ j → k ≡ j
    go (yes l) n = clash e (none_above j k (omega arith))
    go (no l) n = clash e (none_below j k (omega arith))

-- a word other than 0 has a bit
pub has_some : (x : ℕ) → x ≢ 0 → (j : ℕ) × (has x j ≡ true)
unfolding has
has_some = bin_ind (λ (x : ℕ). x ≢ 0 → (j : ℕ) × (eqb (x / 2 ^ j % 2) 1 ≡ true)) (λ n. absurd (n refl)) (λ x ih n.
    two (x % 2) (mod-lt x (lit< tt))
    (λ e. let t = ih (λ z. n (omega arith)) in (suc t.0, ap (λ (y : ℕ). eqb (y % 2) 1) (halved x t.0) ∙ t.1))
    (λ e. (0, ap (λ (y : ℕ). eqb (y % 2) 1) (whole x) ∙ true_eqb (x % 2) 1 e)))
  where
    whole : (x : ℕ) → x / 2 ^ 0 ≡ x
    whole x = omega arith

    halved : (x j : ℕ) → x / 2 ^ suc j ≡ x / 2 / 2 ^ j
    halved x j = ap (λ (k : ℕ). x / 2 ^ k) (omega arith) ∙ sym (shr-shr x 1 j)

-- ---- how many ones a part has

-- the word of a word's own first bits
pub word_has : (m x : ℕ) → word m (has x) ≡ x % 2 ^ m
unfolding word has
word_has zero x = omega arith
word_has (suc m) x = ap₂ (λ (a b : ℕ). a * 2 ^ m + b) (bit_is x m) (word_has m x) ∙ sym (mod-pow-add x 1 m) ∙ ap (λ (k : ℕ). x % 2 ^ k) (omega arith)
  where
    bit_is : (x m : ℕ) → one (has x m) ≡ x / 2 ^ m % 2 ^ 1
    bit_is x m = two (x / 2 ^ m % 2) (bit_lt x m) (λ e. rw e refl) (λ e. rw e refl)

-- the ones of the d bits from k on, of a word below 2 ^ m
pub ones_has : (k d m x : ℕ) → x < 2 ^ (k + d + m) → ones (x / 2 ^ k % 2 ^ d) ≡ tally d (λ j. has x (k + j))
ones_has k d m x h = ap (λ (z : ℕ). ones (z / 2 ^ k % 2 ^ d)) (sym (word_has (k + d + m) x ∙ mod-eq_of_lt h)) ∙ ones_part k d m (has x)

-- the bits of x that are not in y, as the code masks them
pub minus_masked : (x y : ℕ) → x < 2 ^ 64 → y < 2 ^ 64 → bit_and x (2 ^ 64 - 1 - y) ≡ minus x y
unfolding minus
minus_masked x y h k = same_from_bits_below 64 _ _ (let a = and_le_l x (2 ^ 64 - 1 - y) in omega arith) (xor_lt 64 x (bit_and x y) h (let a = and_le_l x y in omega arith)) (λ i l.
    let a = bit_at_and x (2 ^ 64 - 1 - y) i in
    let n = bit_at_not w64 y i k l in
    let b = bit_at_xor x (bit_and x y) i in
    let c = bit_at_and x y i in
    let p = bit_at-lt x i in
    let q = bit_at-lt y i in
    omega arith)
