-- The bytes of a text, tested one after the other, and a test between two bounds.
use Rattle.std.specs.Prelude.{◌≡◌, Bool, true, ◌&&◌, List, ℕ, ◌+◌, ◌≤◌, ◌<◌, leb, length, get_or, drop}
use Rattle.std.proofs.Common.{sym, ap, ◌∙◌, add-one, drop-cons, drop_of_length-le}
use Rattle.data.specs.Basics.{each}
use Rattle.document.specs.Reading.{letter}

-- what a test between two bounds says of a byte, it says of an equal one
pub within : (lo hi : ℕ) {c k : ℕ} {b t : Bool} → k ≡ c → b ≡ (leb lo k && leb k hi) → b ≡ t → (leb lo c && leb c hi) ≡ t
within lo hi e h o = ap (λ (x : ℕ). leb lo x && leb x hi) (sym e) ∙ sym h ∙ o

-- from a place on: the byte there is tested, and those behind it
pub letters_step : (i : ℕ) (xs : List ℕ) → i < length xs → each letter (drop i xs) ≡ (letter (get_or xs i 0) && each letter (drop (i + 1) xs))
unfolding each
letters_step i xs h = rw add-one (ap (each letter) (drop-cons xs i 0 h))

-- behind the last byte none is left that fails
pub letters_end : (i : ℕ) (xs : List ℕ) → length xs ≤ i → each letter (drop i xs) ≡ true
unfolding each
letters_end i xs h = ap (each letter) (drop_of_length-le xs h)
