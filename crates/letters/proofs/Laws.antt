-- The test of all bytes, in the library's word.
use Rattle.std.specs.Prelude.{◌≡◌, refl, Bool, ◌&&◌, List, [], ◌∷◌, ℕ}
use Rattle.std.specs.List.{list_all}
use Rattle.std.proofs.Common.{ap}
use Rattle.data.specs.Basics.{each}

pub each_is_all : (f : ℕ → Bool) (xs : List ℕ) → each f xs ≡ list_all f xs
unfolding each
each_is_all f [] = refl
each_is_all f (x ∷ xs) = ap (λ (t : Bool). f x && t) (each_is_all f xs)
