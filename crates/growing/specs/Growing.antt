-- One set of a judgement: what it is grown from, what is seen of it, and what became of it.
use Rattle.std.specs.Prelude.{◌≡◌, Bool, false, not, cond, ◌≢◌, List, [], ◌∷◌, ◌++◌, ℕ, ◌+◌, ◌≤◌, ◌<◌, length, get_or, Result, Ok, Err}
use Rattle.data.specs.Basics.{keep}
use Rattle.document.specs.Routine.{Routine, size}
use Rattle.data.specs.ProbeSets.{held, empty_set, set_of, Asc}
use Rattle.document.specs.Judgements.{is_open, judgement_of}
use Rattle.data.specs.declared.ProbeSet.{ProbeSet}
use Rattle.data.specs.declared.Wire.{Wire}
use Rattle.counts.specs.Counting.{record_at}
use Rattle.cones.specs.declared.Cone.{Cone}
use Rattle.cones.specs.Bits.{own_with}
use Rattle.cones.specs.Seen.{Seen, see, see_all, unseen}
use Rattle.data.specs.declared.Which.{Which}
use Rattle.data.specs.declared.Which.TheVariants.{Plain, Strong}
use Rattle.growing.specs.declared.Question.{Question}
use Rattle.growing.specs.declared.Grown.{Grown}
use Rattle.growing.specs.declared.Found.{Found}
use Rattle.document.specs.Reading.{routine_in}

-- what a search comes to: the count of the sets judged where none was open, or the open set that it found
abbrev pub Searched : Type 0
Searched = Result ℕ Found

-- nothing found, k sets judged
abbrev pub none : ℕ → Searched
none k = Ok k

-- this set found, as the k-th judged
abbrev pub found : ℕ → List ℕ → Searched
found k ps = Err (record { count = k; set = set_of ps })

-- the routine in question
abbrev pub routine_asked : Question → Routine
routine_asked q = routine_in q.listing.now

-- its sets that are open
abbrev pub opens_in : Question → List ℕ → Bool
opens_in q = is_open (judgement_of q.which) (routine_asked q) q.t

-- the words of a growing set
abbrev pub seen_of : Grown → Seen
seen_of g = g.cone

-- no wire yet
abbrev pub nothing_grown : Grown
nothing_grown = record { set = empty_set; cone = unseen }

-- with wire w, whose cone is given
unfoldable pub grown_by : Grown → ℕ → Cone → Grown
grown_by g w cone = record { set = set_of (held g.set ++ (w ∷ [])); cone = see g.cone cone.shares cone.rands cone.own }

-- the own randoms of two cones together
abbrev pub own_of_both : Cone → Cone → ℕ
own_of_both z c = own_with z.own z.rands c.rands c.own

-- from `from` to r, where one place is left, each wire makes a set with an own random
pub record Skipped (places from n : ℕ) (cones : List Cone) (z : Cone) (r : ℕ) : Type 0 where
  pub since : from ≤ r
  pub until : r ≤ n
  pub spared : (v : ℕ) → from ≤ v → v < r → (places ≡ 1) × (own_of_both z (get_or cones v unseen) ≢ 0)

-- the set judged as one set more
abbrev pub judged_set : (List ℕ → Bool) → List ℕ → ℕ → Searched
judged_set opens ps k = cond (opens ps) (found (k + 1) ps) (none (k + 1))

-- no set of fewer than k wires is open
abbrev pub ClosedBelow : Question → ℕ → Type 0
ClosedBelow q k = (ps : List ℕ) → Asc 0 (size (routine_asked q)) ps → 0 < length ps → length ps < k → opens_in q ps ≡ false

-- a set of ascending wires below `from`, and what is seen of them
pub record Grows (R : Routine) (from : ℕ) (g : Grown) : Type 0 where
  pub whole : g.set ≡ set_of (held g.set)
  pub few : g.set.len ≤ 4
  pub ascends : Asc 0 from (held g.set)
  pub seen : seen_of g ≡ see_all R unseen (held g.set)

-- the wires of the set stand among the records
pub record Holding (n : ℕ) (ws : List Wire) (s : ProbeSet) : Type 0 where
  pub four : s.len ≤ 4
  pub sized : length s.places ≡ 4
  pub few : n ≤ 128
  pub wires : (v : ℕ) → v < s.len → get_or s.places v 0 < n

-- 5.4: how many wires of the set have no output mark, by the list of records
unfoldable pub inner_of : List Wire → List ℕ → ℕ
inner_of ws ps = length (keep (λ w. not (record_at ws w).out) ps)

-- what a set's needed shares may not exceed
abbrev pub bound_of : Which → List Wire → ℕ → List ℕ → ℕ
bound_of Plain ws t ps = t
bound_of Strong ws t ps = inner_of ws ps

-- a set to be judged: it is whole, and no smaller set is open
pub record Asked (q : Question) (g : Grown) : Type 0 where
  pub grows : Grows (routine_asked q) q.listing.now.shape.n g
  pub smaller : ClosedBelow q g.set.len
