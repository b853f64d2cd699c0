-- The tests before a call on one set, by the numbers that they look at, and in the stated order.
use Rattle.std.specs.Prelude.{◌≡◌, Bool, true, ◌&&◌, List, ℕ, ltb, leb}
use Rattle.data.specs.Basics.{each}
use Rattle.data.specs.ProbeSets.{held, ascending}
use Rattle.data.specs.declared.ProbeSet.{ProbeSet}
use Rattle.data.specs.declared.Wire.{Wire}
use Rattle.data.specs.declared.Shape.{Shape}
use Rattle.data.specs.Refusals.{Outcome}
use Rattle.std.specs.Prelude.{Ok, Err}
use Rattle.data.specs.declared.Refusal.TheVariants as No
use Rattle.document.specs.Routine.{records_fit}
use Rattle.document.specs.Judgements.{set_refusal}
use Rattle.document.specs.Lent.{lent}

-- 12, by D
unfoldable pub order_in : ℕ → ℕ → Bool
order_in d t = leb 1 t && leb t 4 && ltb t d

-- 13, by n
unfoldable pub probes_in : ℕ → ℕ → ProbeSet → Bool
probes_in n t set = ltb 0 set.len && leb set.len t && ascending (held set) && each (λ w. ltb w n) (held set)

-- a call on one set is not refused
pub record Accepted (σ : Shape) (ws : List Wire) (t : ℕ) (set : ProbeSet) : Type 0 where
  pub good : records_fit σ ws ≡ true
  pub order : order_in σ.d t ≡ true
  pub probes : probes_in σ.n t set ≡ true

-- 7.17, 7.22: what becomes of a call on one set: the refusal of the first test that fails, or none
unfoldable pub checked : Shape → List Wire → ℕ → ProbeSet → Outcome
checked σ ws t set = lent σ ws (Err No.Records) (λ R. set_refusal R t set Err (Ok tt))
