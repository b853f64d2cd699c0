-- Growing sets one wire at a time is searching the sets in order (5.9, 5.12).
use Rattle.std.specs.Prelude.{◌≡◌, refl, Bool, true, false, cond, List, [], ◌∷◌, ◌++◌, map, ℕ, zero, suc}
use Rattle.std.proofs.Common.{sym, ap, ap₂, ◌∙◌, append-nil}
use Rattle.std.proofs.Math.Path.{fun_ext}
use Rattle.std.proofs.Math.Seq.{append_snoc}
use Rattle.document.specs.Judgements.{sets_of}
use Rattle.growing.specs.Growing.{none, found}
use Rattle.searching.specs.Search.{search, on_from, grow}

pub search_append : (opens : List ℕ → Bool) (k : ℕ) (xs ys : List (List ℕ)) → search opens k (xs ++ ys) ≡ on_from (search opens k xs) (λ j. search opens j ys)
unfolding search on_from
search_append opens k [] ys = refl
search_append opens k (x ∷ xs) ys = go (opens x) (search_append opens (suc k) xs ys)
  where
    go : (b : Bool) → search opens (suc k) (xs ++ ys) ≡ on_from (search opens (suc k) xs) (λ j. search opens j ys)
        → cond b (found (suc k) x) (search opens (suc k) (xs ++ ys)) ≡ on_from (cond b (found (suc k) x) (search opens (suc k) xs)) (λ j. search opens j ys)
    go true e = refl
    go false e = e

map_append : (s : List ℕ) (xs ys : List (List ℕ)) → map (λ r. s ++ r) (xs ++ ys) ≡ map (λ r. s ++ r) xs ++ map (λ r. s ++ r) ys
map_append s [] ys = refl
map_append s (x ∷ xs) ys = ap {B = List (List ℕ)} (λ t. (s ++ x) ∷ t) (map_append s xs ys)

map_snoc : (s : List ℕ) (a : ℕ) (xs : List (List ℕ)) → map (λ r. s ++ r) (map (λ r. a ∷ r) xs) ≡ map (λ r. (s ++ (a ∷ [])) ++ r) xs
map_snoc s a [] = refl
map_snoc s a (x ∷ xs) = ap₂ {C = List (List ℕ)} (λ h t. h ∷ t) (sym (append_snoc s a x)) (map_snoc s a xs)

pub grow_is : (opens : List ℕ → Bool) (p m lo : ℕ) (s : List ℕ) (k : ℕ) → grow opens p m lo s k ≡ search opens k (map (λ r. s ++ r) (sets_of p m lo))
unfolding grow sets_of search
grow_is opens zero m lo s k = ap (λ (t : List ℕ). cond (opens t) (found (suc k) t) (none (suc k))) (sym (append-nil s))
grow_is opens (suc p) zero lo s k = refl
grow_is opens (suc p) (suc m) lo s k =
    ap₂ on_from (grow_is opens p m (suc lo) (s ++ (lo ∷ [])) k) (fun_ext (λ j. grow_is opens (suc p) m (suc lo) s j))
    ∙ sym (search_append opens k (map (λ r. (s ++ (lo ∷ [])) ++ r) (sets_of p m (suc lo))) (map (λ r. s ++ r) (sets_of (suc p) m (suc lo))))
    ∙ ap (search opens k) (ap (λ (t : List (List ℕ)). t ++ map (λ r. s ++ r) (sets_of (suc p) m (suc lo))) (sym (map_snoc s lo (sets_of p m (suc lo))))
    ∙ sym (map_append s (map (λ r. lo ∷ r) (sets_of p m (suc lo))) (sets_of (suc p) m (suc lo))))

map_same : (xs : List (List ℕ)) → map (λ r. [] ++ r) xs ≡ xs
map_same [] = refl
map_same (x ∷ xs) = ap {B = List (List ℕ)} (λ t. x ∷ t) (map_same xs)

-- the sets of p of m wires, from none
pub grow_sets : (opens : List ℕ → Bool) (p m k : ℕ) → grow opens p m 0 [] k ≡ search opens k (sets_of p m 0)
grow_sets opens p m k = grow_is opens p m 0 [] k ∙ ap (search opens k) (map_same (sets_of p m 0))
