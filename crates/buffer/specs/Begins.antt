-- A lent buffer that begins with some bytes, and is else as it was.
use Rattle.std.specs.Prelude.{◌≡◌, List, ◌++◌, ℕ, length, drop}

-- r is how many bytes v has; they stand first in the buffer after, and those behind them are kept
pub record Begins (v buffer : List ℕ) (r : ℕ) (after : List ℕ) : Type 0 where
  pub said : r ≡ length v
  pub left : after ≡ v ++ drop (length v) buffer
