-- The cone of a wire: itself and all that it is computed from. What is live lies in the cone of a probed wire.
use Rattle.std.specs.Prelude.{ℕ, ◌≤◌}
use Rattle.std.proofs.Common.{le_refl, arith}
use Rattle.document.specs.Routine.{Routine, operands}
use Rattle.data.proofs.Laws.Tests.{Mem}
use Rattle.document.proofs.Laws.Marks.{Set, In}
use Rattle.document.proofs.Laws.Rule.{Live, probed, operand}
use Rattle.document.proofs.Laws.Live.{net, Earlier}

-- v stands in the cone of w
pub data Cone (R : Routine) : ℕ → ℕ → Type 0 where
  here : {w : ℕ} → Cone R w w
  down : {w u v : ℕ} → Mem u (operands R w) → Cone R u v → Cone R w v

pub cone_trans : {R : Routine} {w u v : ℕ} → Cone R w u → Cone R u v → Cone R w v
cone_trans here d = d
cone_trans (down m c) d = down m (cone_trans c d)

-- the cone holds no later wire
pub cone_low : (R : Routine) → Earlier R → {w v : ℕ} → Cone R w v → v ≤ w
cone_low R ok {w} {v} here = le_refl w
cone_low R ok {w} {v} (down {u = u} m c) = let a = ok w u m in let b = cone_low R ok c in omega arith

-- a live wire lies in the cone of a probed one
pub live_cone : (R : Routine) (P L : Set) {v : ℕ} → Live (net R) P L v → (y : ℕ) × In P y × Cone R y v
live_cone R P L {v} (probed p) = (v, p, here)
live_cone R P L (operand l o m) = let t = live_cone R P L l in (t.0, t.1, cone_trans t.2 (down m here))
