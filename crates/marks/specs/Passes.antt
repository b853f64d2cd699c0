-- What the passes over the wires rest on: the wires alone, and operands that are marks' places.
use Rattle.std.specs.Prelude.{List, ℕ, ◌≤◌, ◌<◌, length, get_or}
use Rattle.document.specs.Routine.{Routine}
use Rattle.data.specs.declared.Wire.{Wire}
use Rattle.data.specs.declared.ProbeSet.{ProbeSet}
use Rattle.counts.specs.Counting.{record_at}

-- these wires and nothing else: the rule's steps look at neither S nor D
abbrev pub only_wires : List Wire → Routine
only_wires ws = record { S = 0; D = 0; wires = ws }

-- the operands are among the 128 marks
pub record Low (x : Wire) : Type 0 where
  pub low_a : x.a < 128
  pub low_b : x.b < 128

-- the wires and their operands are among the 128 marks
pub record Marked (ws : List Wire) : Type 0 where
  pub few : length ws ≤ 128
  pub low : (u : ℕ) → u < length ws → Low (record_at ws u)

-- the wires held are among the 128 marks
pub record LowProbes (set : ProbeSet) : Type 0 where
  pub at_most : set.len ≤ 4
  pub low_at : (i : ℕ) → i < set.len → get_or set.places i 0 < 128
