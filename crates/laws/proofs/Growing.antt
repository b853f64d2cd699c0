-- Wires passed over where one place is left.
use Rattle.std.specs.Prelude.{◌≡◌, ◌≢◌, List, ℕ, ◌+◌, ◌≤◌, ◌<◌, get_or}
use Rattle.std.proofs.Common.{sym, subst, arith}
use Rattle.data.proofs.Laws.Tests.{wire_cases}
use Rattle.cones.specs.declared.Cone.{Cone}
use Rattle.cones.specs.Seen.{unseen}
use Rattle.growing.specs.Growing.{own_of_both, Skipped}

-- a wire more that is passed over
pub skipped_more : (places from n : ℕ) (cones : List Cone) (z : Cone) (w : ℕ) → w < n → places ≡ 1 → Skipped places from n cones z w
    → own_of_both z (get_or cones w unseen) ≢ 0 → Skipped places from n cones z (w + 1)
skipped_more places from n cones z w h e k o = let y = k.since in record {
  since = omega arith;
  until = omega arith;
  spared = λ v l m. wire_cases v w
      (λ q. (e, subst (λ (u : ℕ). own_of_both z (get_or cones u unseen) ≢ 0) (sym q) o))
      (λ q. k.spared v l (omega arith));
}

-- none yet
pub skipped_none : (places from n : ℕ) (cones : List Cone) (z : Cone) → from ≤ n → Skipped places from n cones z from
skipped_none places from n cones z h = record { since = omega arith; until = h; spared = λ v l m. absurd (omega arith) }
