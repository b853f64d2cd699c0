-- What a search for the next step goes by: the counts of consumers.
use Rattle.std.specs.Prelude.{Bool, not, ◌&&◌, cond, List, ℕ, eqb, get_or, Option as Found, Some, None}
use Rattle.std.proofs.Math.Option.{Option, none, some}
use Rattle.data.specs.Basics.{Marks, at}
use Rattle.data.specs.declared.Wire.{Wire}
use Rattle.data.specs.declared.Step.{Step}
use Rattle.document.specs.Padding.{first_pad, pads_of}
use Rattle.counts.specs.Counting.{record_at}

-- the step that a search found, or none, as the definitions have it
abbrev pub step_in : Found Step → Option Step
step_in None = none
step_in (Some s) = some s

-- r serves, by its count of consumers
unfoldable pub serves_by : Marks → Marks → List ℕ → ℕ → Bool
serves_by probe leaf counts r = at leaf r && not (at probe r) && eqb (get_or counts r 0) 1

-- the step of wire w, found by the counts
unfoldable pub pad_at : List Wire → Marks → Marks → Marks → List ℕ → ℕ → Option Step
pad_at ws probe leaf alive counts w =
    cond (at alive w && not (at leaf w))
    (first_pad (serves_by probe leaf counts) w (pads_of (record_at ws w).kind (record_at ws w).a (record_at ws w).b) none) none
