-- Running a routine, over a kind of value (section 2 of docs/SPECIFICATION.md).
use Rattle.std.specs.Prelude.{Bool, ◌&&◌, cond, List, [], ◌∷◌, ◌++◌, ℕ, zero, suc, ◌-◌, ◌*◌, ◌/◌, ◌%◌, ◌^◌, ltb, leb, length, get_or, drop}
use Rattle.std.specs.Int.Bits.{bit_xor, bit_and}
use Rattle.document.specs.Routine.{Routine, size, wire, rands_before, pubs_before, well_formed, whole_routine}
use Rattle.data.specs.declared.Kind.{Kind}
use Rattle.data.specs.declared.Kind.TheVariants.{Share, Rand, Pub, Xor, And, Not}
use Rattle.data.specs.declared.Refusal.{Refusal}
use Rattle.data.specs.declared.Refusal.TheVariants as No
use Rattle.std.specs.Prelude.{Ok, Err}
use Rattle.data.specs.declared.Ran.{Ran}

-- 2.9: a kind of value is the numbers below `many`, and what `xor`, `and` and `not` do to them
pub record Value : Type 0 where
  pub many : ℕ
  pub plus : ℕ → ℕ → ℕ
  pub times : ℕ → ℕ → ℕ
  pub turn : ℕ → ℕ

-- 2.10, 2.4: the bit, with the values 0 and 1
abbrev pub bit : Value
bit = record { many = 2; plus = bit_xor; times = bit_and; turn = λ v. 1 - v }

-- 2.2 to 2.4: a wire gives its share, random or public value, or what its operation makes of the values of a and b
unfoldable pub gives : Value → Kind → ℕ → ℕ → ℕ → ℕ → ℕ → ℕ
gives K Share s r p a b = s
gives K Rand s r p a b = r
gives K Pub s r p a b = p
gives K Xor s r p a b = K.plus a b
gives K And s r p a b = K.times a b
gives K Not s r p a b = K.turn a

-- 2.2, 2.3, 2.8: share w has value w of the shares, a random or public with j others before it value j of its list; a lacking value is 0
unfoldable pub value_at : Value → Routine → List ℕ → List ℕ → List ℕ → (ℕ → ℕ) → ℕ → ℕ
value_at K R shares randoms publics earlier w =
    gives K (wire R w).kind (get_or shares w 0) (get_or randoms (rands_before R w) 0) (get_or publics (pubs_before R w) 0)
    (earlier (wire R w).a) (earlier (wire R w).b)

-- 2.1: the values of the first k wires, each from those before it
unfoldable pub first_values : Value → Routine → List ℕ → List ℕ → List ℕ → ℕ → List ℕ
first_values K R shares randoms publics zero = []
first_values K R shares randoms publics (suc k) =
    let vs = first_values K R shares randoms publics k in
    vs ++ (value_at K R shares randoms publics (λ w. get_or vs w 0) k ∷ [])

-- 2.1, 2.5: the values of all n wires, whatever their output marks
unfoldable pub running : Value → Routine → List ℕ → List ℕ → List ℕ → List ℕ
running K R shares randoms publics = first_values K R shares randoms publics (size R)

-- 2.2: the first m bits of a word, the lowest first
unfoldable pub bits : ℕ → ℕ → List ℕ
bits zero w = []
bits (suc m) w = w % 2 ∷ bits m (w / 2)

-- 2.1: the values of the n wires from three words
unfoldable pub bit_values : Routine → ℕ → ℕ → ℕ → List ℕ
bit_values R shares randoms publics = running bit R (bits 64 shares) (bits 64 randoms) (bits 64 publics)

-- 2.6, 7.14: each word is 0 in the bits that no wire has
unfoldable pub bits_fit : Routine → ℕ → ℕ → ℕ → Bool
bits_fit R shares randoms publics =
    ltb shares (2 ^ (R.S * R.D)) && ltb randoms (2 ^ rands_before R (size R)) && ltb publics (2 ^ pubs_before R (size R))

-- 7.20: the tests of a run, 11, then 14, then 15
unfoldable pub run_refusal : {A : Type 0} → Routine → ℕ → ℕ → ℕ → List ℕ → (Refusal → A) → A → A
run_refusal R shares randoms publics buffer refuse answer =
    cond (well_formed R)
    (cond (bits_fit R shares randoms publics) (cond (leb (size R) (length buffer)) answer (refuse No.Buffer)) (refuse No.Bits))
    (refuse No.Records)

-- 2.7, 7.24: the answer has the length n, or 0 with a refusal
unfoldable pub ran : Routine → ℕ → ℕ → ℕ → List ℕ → Ran
ran R shares randoms publics buffer =
    run_refusal R shares randoms publics buffer (λ f. record { outcome = Err f; len = 0 }) (record { outcome = Ok tt; len = size R })

-- 2.7, 6.12, 6.13: the buffer begins with the values then and keeps its later bytes; a refusal keeps all of it
unfoldable pub ran_into : Routine → ℕ → ℕ → ℕ → List ℕ → List ℕ
ran_into R shares randoms publics buffer =
    run_refusal R shares randoms publics buffer (λ _. buffer) (bit_values R shares randoms publics ++ drop (size R) buffer)

-- the definitions above, to unfold at once where a proof computes
unfoldable pub whole_running : Unit {0}
unfolding whole_routine gives value_at first_values running bits bit_values bits_fit run_refusal ran ran_into
whole_running = tt
