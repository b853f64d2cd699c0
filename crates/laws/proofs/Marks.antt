-- The live wires are those found from the last of n wires down.
use Rattle.std.specs.Prelude.{◌≡◌, List, ℕ, ◌≤◌, length}
use Rattle.std.proofs.Common.{sym, ap}
use Rattle.std.proofs.Math.Seq.{length-take-le}
use Rattle.data.specs.Basics.{Marks}
use Rattle.document.specs.Routine.{Routine, routine_of}
use Rattle.document.specs.Padding.{live_down, live}
use Rattle.data.specs.declared.Wire.{Wire}

-- the routine of the first n of the records, with no shares named
abbrev pub wired : ℕ → List Wire → Routine
wired n ws = routine_of (record { s = 0; d = 0; n = n }) ws

module _ (n : ℕ) (ws : List Wire) (leaf : Marks) where
  -- from the last wire down
  pub live_all : (m : Marks) → n ≤ length ws → live_down (wired n ws) leaf n m ≡ live (wired n ws) m leaf
  unfolding live
  live_all m h = ap (λ (k : ℕ). live_down (wired n ws) leaf k m) (sym (length-take-le n ws h))
