-- Searching lists of sets for the first open one, and growing the sets one wire at a time.
use Rattle.std.specs.Prelude.{Bool, cond, List, [], ◌∷◌, ◌++◌, ℕ, zero, suc, ◌+◌, ◌-◌, ◌^◌, ◌≤◌, ◌<◌, length, Ok, Err}
use Rattle.document.specs.Judgements.{sets_of, sets_in_order}
use Rattle.growing.specs.declared.Question.{Question}
use Rattle.growing.specs.declared.Grown.{Grown}
use Rattle.growing.specs.Growing.{Searched, none, found, routine_asked, ClosedBelow, Grows}

-- the first open set of the list, k sets judged before it
unfoldable pub search : (List ℕ → Bool) → ℕ → List (List ℕ) → Searched
search opens k [] = none k
search opens k (ps ∷ later) = cond (opens ps) (found (suc k) ps) (search opens (suc k) later)

-- go on with the next sets only where nothing was open
unfoldable pub on_from : Searched → (ℕ → Searched) → Searched
on_from (Ok k) next = next k
on_from (Err f) next = Err f

-- 5.9, 5.12: sets grown wire by wire come in their order: p places left, m wires left from lo on, the set so far, the count so far
unfoldable pub grow : (List ℕ → Bool) → ℕ → ℕ → ℕ → List ℕ → ℕ → Searched
grow opens zero m lo s k = cond (opens s) (found (suc k) s) (none (suc k))
grow opens (suc p) zero lo s k = none k
grow opens (suc p) (suc m) lo s k = on_from (grow opens p m (suc lo) (s ++ (lo ∷ [])) k) (λ j. grow opens (suc p) m (suc lo) s j)

-- what is found among the sets of 1 to k of n wires
unfoldable pub found_up_to : (List ℕ → Bool) → ℕ → ℕ → Searched
found_up_to opens k n = search opens 0 (sets_in_order k n)

-- a set to be grown by `places` wires from `from` on, where `count` sets were judged before
pub record Searching (q : Question) (places from : ℕ) (g : Grown) (count : ℕ) : Type 0 where
  pub below : from ≤ q.listing.now.shape.n
  pub room : g.set.len + places ≤ 4
  pub grows : Grows (routine_asked q) from g
  pub smaller : ClosedBelow q (g.set.len + places)
  pub counted : count + length (sets_of places (q.listing.now.shape.n - from) from) < 2 ^ 63
