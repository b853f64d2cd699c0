-- The ones of each secret in a word of shares.
use Rattle.std.specs.Prelude.{Bool, ℕ, ◌*◌, ◌/◌, ◌%◌, ◌^◌, ◌≤◌, ltb}
use Rattle.std.specs.Int.Count.{ones}
use Rattle.data.specs.Basics.{some}

-- the shares of S secrets of D shares have a bit each in the word
pub record Shares (s d : ℕ) : Type 0 where
  pub some_shares : 1 ≤ d
  pub few_shares : d ≤ 8
  pub few_secrets : s ≤ 8
  pub in_word : s * d ≤ 64

-- the ones of secret i in a word of shares
unfoldable pub ones_of : ℕ → ℕ → ℕ → ℕ
ones_of d i shares = ones (shares / 2 ^ (i * d) % 2 ^ d)

-- some secret has more ones than the bound
unfoldable pub some_over : ℕ → ℕ → ℕ → ℕ → Bool
some_over s d shares bound = some s (λ i. ltb bound (ones_of d i shares))
