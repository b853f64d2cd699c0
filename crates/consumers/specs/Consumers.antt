-- How many live consumers that are no leaves each wire has, counted wire by wire.
use Rattle.std.specs.Prelude.{◌≡◌, cond, List, ℕ, ◌+◌, ◌<◌, eqb, length, get_or, set}
use Rattle.data.specs.Basics.{tally, Marks}
use Rattle.document.specs.Padding.{consumes}
use Rattle.data.specs.declared.Kind.{Kind}
use Rattle.data.specs.declared.Kind.TheVariants.{Share, Rand, Pub, Xor, And, Not}
use Rattle.data.specs.declared.Wire.{Wire}
use Rattle.marks.specs.Passes.{only_wires}

-- ---- counting the operands of one wire, each once

-- one more at place a
unfoldable pub bumped : List ℕ → ℕ → List ℕ
bumped c a = set c a (get_or c a 0 + 1)

-- one more at both places, or at the one that both are
unfoldable pub bumped_two : ℕ → ℕ → List ℕ → List ℕ
bumped_two a b c = cond (eqb a b) (bumped c a) (bumped (bumped c a) b)

unfoldable pub counted_with : Kind → ℕ → ℕ → List ℕ → List ℕ
counted_with Share a b c = c
counted_with Rand a b c = c
counted_with Pub a b c = c
counted_with Xor a b c = bumped_two a b c
counted_with And a b c = bumped_two a b c
counted_with Not a b c = bumped c a

-- each count has room for one more
pub record Spare (c : List ℕ) : Type 0 where
  pub spare : (v : ℕ) → v < 128 → get_or c v 0 < 255

-- ---- the counts over the wires from u on

pub record Consumers (ws : List Wire) (leaf alive : Marks) (u : ℕ) (c : List ℕ) : Type 0 where
  pub size : length c ≡ 128
  pub counts : (r : ℕ) → r < 128 → get_or c r 0 + tally u (consumes (only_wires ws) leaf alive r) ≡ tally (length ws) (consumes (only_wires ws) leaf alive r)
