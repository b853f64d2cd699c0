-- Probe sets and their addition (section 4 of docs/SPECIFICATION.md).
use Rattle.std.specs.Prelude.{◌≡◌, Bool, true, not, ◌&&◌, cond, List, [], ◌∷◌, ◌++◌, ℕ, suc, ◌+◌, ◌≤◌, ◌<◌, ltb, leb, length, take, drop, replicate}
use Rattle.data.specs.Basics.{elem, each, whole_basics}
use Rattle.data.specs.declared.Refusal.TheVariants as No
use Rattle.std.specs.Prelude.{Ok, Err}
use Rattle.data.specs.declared.ProbeSet.{ProbeSet}
use Rattle.data.specs.declared.Added.{Added}

-- 4.1, 4.2: a set holds the numbers in as many first places as its length says, all four where it says more
abbrev pub held : ProbeSet → List ℕ
held s = take s.len s.places

-- 4.3: each number is smaller than the next one
unfoldable pub ascending : List ℕ → Bool
ascending [] = true
ascending (p ∷ []) = true
ascending (p ∷ q ∷ ps) = ltb p q && ascending (q ∷ ps)

-- 4.4: the empty set, 0 in all four places
abbrev pub empty_set : ProbeSet
empty_set = record { places = replicate 4 0; len = 0 }

-- 4.11, 4.13: a list of at most four wires as a probe set, filled up with 0
unfoldable pub set_of : List ℕ → ProbeSet
set_of ps = record { places = take 4 (ps ++ replicate 4 0); len = length ps }

-- 4.6, 4.7: a number may be added that is not held and not over 127, where the length is below four and the set is ascending
unfoldable pub may_add : ProbeSet → ℕ → Bool
may_add s w = not (elem w (held s)) && ltb s.len 4 && leb w 127 && ascending (held s)

-- 4.9: the number at its place among the others
unfoldable pub insert : ℕ → List ℕ → List ℕ
insert w [] = w ∷ []
insert w (p ∷ ps) = cond (ltb w p) (w ∷ p ∷ ps) (p ∷ insert w ps)

-- 4.5, 4.8 to 4.10, 7.27: the number put in and the places behind the new end as they were, or a refusal and the set as it was
unfoldable pub adding : ProbeSet → ℕ → Added
adding s w =
    cond (may_add s w)
    (record { outcome = Ok tt; set = record { places = insert w (held s) ++ drop (s.len + 1) s.places; len = s.len + 1 } })
    (record { outcome = Err No.Probes; set = s })

-- the definitions above, to unfold at once where a proof computes
unfoldable pub whole_sets : Unit {0}
unfolding whole_basics ascending set_of may_add insert adding
whole_sets = tt

-- ---- words of the statements

-- 4.12: a set of wires of a routine is an ascending list of numbers below n
pub record WireSet (n : ℕ) (ps : List ℕ) : Type 0 where
  pub ascends : ascending ps ≡ true
  pub wires : each (λ w. ltb w n) ps ≡ true

-- 4.12: the same, told wire by wire: ascending from lo on, and below n
abbrev pub Asc : ℕ → ℕ → List ℕ → Type 0
Asc lo n [] = Unit {0}
Asc lo n (p ∷ ps) = (lo ≤ p) × (p < n) × Asc (suc p) n ps
