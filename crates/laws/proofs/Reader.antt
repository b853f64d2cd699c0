-- The tests before the first line of a text, one after the other, and what a read answers at each.
use Rattle.std.specs.Prelude.{◌≡◌, true, false, List, ℕ, ◌-◌, ◌≤◌, ◌<◌, length, get_or}
use Rattle.std.proofs.Common.{arith, lt-ltb, le-ltb, le-leb, eq-eqb, ne_eqb}
use Rattle.std.proofs.lemmas.Bool.{lt-leb}
use Rattle.data.specs.Basics.{each}
use Rattle.document.specs.Lines.{lf, lines_in}
use Rattle.document.specs.Reading.{not_read, from_first, letter, reading}
use Rattle.data.specs.declared.Refusal.TheVariants as No

-- no byte
pub read_none : (t : List ℕ) → length t ≡ 0 → reading t ≡ not_read No.Length 0
unfolding reading
read_none t h = simp (le-ltb 0 (length t) (omega arith))

-- more bytes than a text may have
pub read_long : (t : List ℕ) → (length t ≡ 0 → ⊥) → 4096 < length t → reading t ≡ not_read No.Length 0
unfolding reading
read_long t n h = simp (lt-ltb 0 (length t) (omega arith), lt-leb (length t) 4096 h)

module _ (t : List ℕ) (lo : length t ≡ 0 → ⊥) (hi : length t ≤ 4096) where
  -- a byte that no text has
  pub read_byte : each letter t ≡ false → reading t ≡ not_read No.Byte 0
  unfolding reading
  read_byte l = simp (lt-ltb 0 (length t) (omega arith), le-leb (length t) 4096 hi, l)

  -- no LF at the end
  pub read_end : each letter t ≡ true → (get_or t (length t - 1) 0 ≡ lf → ⊥) → reading t ≡ not_read No.Byte 0
  unfolding reading
  read_end l n = simp (lt-ltb 0 (length t) (omega arith), le-leb (length t) 4096 hi, l, ne_eqb (get_or t (length t - 1) 0) lf n)

  -- all tests are passed: the lines are read, from the first on
  pub read_on : each letter t ≡ true → get_or t (length t - 1) 0 ≡ lf → reading t ≡ from_first (lines_in t)
  unfolding reading
  read_on l e = simp (lt-ltb 0 (length t) (omega arith), le-leb (length t) 4096 hi, l, eq-eqb (get_or t (length t - 1) 0) lf e)
