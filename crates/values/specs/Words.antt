-- The test of 14 from the counts.
use Rattle.std.specs.Prelude.{Bool, ◌&&◌, ℕ, ◌^◌, ◌≤◌, ltb}
use Rattle.counts.specs.declared.Counts.{Counts}

-- counts that a word has bits for
pub record SmallCounts (first : ℕ) (c : Counts) : Type 0 where
  pub shares_small : first ≤ 64
  pub rands_small : c.rands ≤ 64
  pub pubs_small : c.pubs ≤ 64

-- 14, from the counts
unfoldable pub words_fit : ℕ → Counts → ℕ → ℕ → ℕ → Bool
words_fit first c shares randoms publics = ltb shares (2 ^ first) && ltb randoms (2 ^ c.rands) && ltb publics (2 ^ c.pubs)
