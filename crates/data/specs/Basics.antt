-- Small words of the definitions: tests over the numbers below a bound, membership, marks.
use Rattle.std.specs.Prelude.{◌≡◌, Bool, true, false, ◌&&◌, ◌||◌, cond, ◌⊎◌, List, [], ◌∷◌, ℕ, zero, suc, ◌+◌, eqb, get_or, set}

-- 1 where the test passes, 0 where it fails
abbrev pub one : Bool → ℕ
one true = 1
one false = 0

-- how many numbers below m pass the test
unfoldable pub tally : ℕ → (ℕ → Bool) → ℕ
tally zero f = 0
tally (suc m) f = one (f m) + tally m f

-- the test passes at each number below m
unfoldable pub all : ℕ → (ℕ → Bool) → Bool
all zero f = true
all (suc m) f = all m f && f m

-- the test passes at some number below m
unfoldable pub some : ℕ → (ℕ → Bool) → Bool
some zero f = false
some (suc m) f = some m f || f m

-- the test passes at each number of the list
unfoldable pub each : (ℕ → Bool) → List ℕ → Bool
each f [] = true
each f (x ∷ xs) = f x && each f xs

-- the number stands in the list
unfoldable pub elem : ℕ → List ℕ → Bool
elem v [] = false
elem v (x ∷ xs) = eqb v x || elem v xs

-- two lists of numbers are the same
unfoldable pub same : List ℕ → List ℕ → Bool
same [] [] = true
same [] (y ∷ ys) = false
same (x ∷ xs) [] = false
same (x ∷ xs) (y ∷ ys) = eqb x y && same xs ys

-- the elements that pass the test
unfoldable pub keep : {A : Type 0} → (A → Bool) → List A → List A
keep f [] = []
keep f (x ∷ xs) = cond (f x) (x ∷ keep f xs) (keep f xs)

-- m numbers, each one above the one before it, from lo on
unfoldable pub up_to : ℕ → ℕ → List ℕ
up_to zero lo = []
up_to (suc m) lo = lo ∷ up_to m (suc lo)

-- 3.1, 3.2: marks of one sort, one to a wire number
abbrev pub Marks : Type 0
Marks = List Bool

-- 3.1: wire w has the mark
abbrev pub at : Marks → ℕ → Bool
at m w = get_or m w false

-- 3.1: each wire of the list gets the mark
unfoldable pub mark : List ℕ → Marks → Marks
mark [] m = m
mark (w ∷ ws) m = mark ws (set m w true)

-- the words above, to unfold at once where a proof computes
unfoldable pub whole_basics : Unit {0}
unfolding tally all some each elem same keep up_to mark
whole_basics = tt

-- ---- words of the statements

-- the element stands in the list
abbrev pub Among : {A : Type 0} → A → List A → Type 0
Among v [] = ⊥
Among v (x ∷ xs) = (v ≡ x) ⊎ Among v xs

-- no element stands in the list twice
abbrev pub Once : {A : Type 0} → List A → Type 0
Once [] = Unit {0}
Once (x ∷ xs) = (Among x xs → ⊥) × Once xs
