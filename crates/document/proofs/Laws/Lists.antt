-- Laws of lists of any elements: what stands in a list that is made of others, that it stands there once, and how long the list is.
use Rattle.std.specs.Prelude.{◌≡◌, Bool, cond, ◌⊎◌}
use Rattle.std.proofs.Math.Path.{refl, sym, ap}
use Rattle.std.proofs.Common.{◌∙◌, subst, zero-mul}
use Rattle.std.proofs.Math.Bool.{true, false}
use Rattle.std.proofs.Math.Logic.{inl, inr}
use mathlib.Core.List.{List, [], ◌∷◌, ◌++◌, map, flat_map}
use Prim.Native.Nat.{ℕ, zero, suc, ◌+◌, ◌*◌, ◌≤◌, ◌<◌, zero-le}
use Rattle.std.proofs.Math.Nat.{suc-mul}
use native.Mathlib.Omega.{arith}
use Rattle.std.proofs.Math.ListN.{length, length-append}
use Rattle.data.specs.Basics.{keep, up_to, Among, Once}
use Rattle.data.proofs.Laws.Tests.{clash, wire_cases}

-- ---- one list behind another

module _ {A : Type 0} where
  pub among_l : (v : A) (xs ys : List A) → Among v xs → Among v (xs ++ ys)
  among_l v [] ys h = absurd h
  among_l v (x ∷ xs) ys (inl e) = inl e
  among_l v (x ∷ xs) ys (inr h) = inr (among_l v xs ys h)

  pub among_r : (v : A) (xs ys : List A) → Among v ys → Among v (xs ++ ys)
  among_r v [] ys h = h
  among_r v (x ∷ xs) ys h = inr (among_r v xs ys h)

  pub among_split : (v : A) (xs ys : List A) → Among v (xs ++ ys) → Among v xs ⊎ Among v ys
  among_split v [] ys h = inr h
  among_split v (x ∷ xs) ys (inl e) = inl (inl e)
  among_split v (x ∷ xs) ys (inr h) = elim (among_split v xs ys h) [ inl k ↦ inl (inr k) | inr k ↦ inr k ]

  once_append : (xs ys : List A) → Once xs → Once ys → ((v : A) → Among v xs → Among v ys → ⊥) → Once (xs ++ ys)
  once_append [] ys o p h = p
  once_append (x ∷ xs) ys o p h = (
    λ k. elim (among_split x xs ys k) [ inl i ↦ o.0 i | inr i ↦ h x (inl refl) i ],
    once_append xs ys o.1 p (λ v i j. h v (inr i) j),
  )

-- ---- the images of a list's elements

module _ {A B : Type 0} (f : A → B) where
  pub among_map : (x : A) (xs : List A) → Among x xs → Among (f x) (map f xs)
  among_map x [] h = absurd h
  among_map x (y ∷ xs) (inl e) = inl (ap f e)
  among_map x (y ∷ xs) (inr h) = inr (among_map x xs h)

  pub among_unmap : (v : B) (xs : List A) → Among v (map f xs) → (x : A) × (v ≡ f x) × Among x xs
  among_unmap v [] h = absurd h
  among_unmap v (x ∷ xs) (inl e) = (x, e, inl refl)
  among_unmap v (x ∷ xs) (inr h) = let t = among_unmap v xs h in (t.0, t.1, inr t.2)

  pub once_map : (xs : List A) → ((x y : A) → f x ≡ f y → x ≡ y) → Once xs → Once (map f xs)
  once_map [] apart o = tt
  once_map (x ∷ xs) apart o = (
    λ k. let t = among_unmap (f x) xs k in o.0 (subst (λ (y : A). Among y xs) (sym (apart x t.0 t.1)) t.2),
    once_map xs apart o.1,
  )

-- ---- a list for each element, one behind another

module _ {A B : Type 0} (g : A → List B) where
  pub among_flat : (v : B) (x : A) (xs : List A) → Among x xs → Among v (g x) → Among v (flat_map g xs)
  unfolding flat_map
  among_flat v x [] h i = absurd h
  among_flat v x (y ∷ xs) (inl e) i = among_l v (g y) (flat_map g xs) (subst (λ (z : A). Among v (g z)) e i)
  among_flat v x (y ∷ xs) (inr h) i = among_r v (g y) (flat_map g xs) (among_flat v x xs h i)

  pub among_unflat : (v : B) (xs : List A) → Among v (flat_map g xs) → (x : A) × Among x xs × Among v (g x)
  unfolding flat_map
  among_unflat v [] h = absurd h
  among_unflat v (x ∷ xs) h = go (among_split v (g x) (flat_map g xs) h) (among_unflat v xs)
    where
      go : Among v (g x) ⊎ Among v (flat_map g xs) → (Among v (flat_map g xs) → (y : A) × Among y xs × Among v (g y))
          → (y : A) × Among y (x ∷ xs) × Among v (g y)
      go (inl i) rest = (x, inl refl, i)
      go (inr i) rest = let t = rest i in (t.0, inr t.1, t.2)

  pub once_flat : (xs : List A) → Once xs → ((x : A) → Once (g x)) → ((x y : A) (v : B) → Among v (g x) → Among v (g y) → x ≡ y) → Once (flat_map g xs)
  unfolding flat_map
  once_flat [] o each apart = tt
  once_flat (x ∷ xs) o each apart = once_append (g x) (flat_map g xs) (each x) (once_flat xs o.1 each apart)
      (λ v i j. let t = among_unflat v xs j in o.0 (subst (λ (y : A). Among y xs) (sym (apart x t.0 v i t.2)) t.1))

  pub length_flat : (xs : List A) (c : ℕ) → ((x : A) → length (g x) ≡ c) → length (flat_map g xs) ≡ length xs * c
  unfolding flat_map
  length_flat [] c h = sym (zero-mul c)
  length_flat (x ∷ xs) c h =
      let a = length-append (g x) (flat_map g xs) in
      let b = length_flat xs c h in
      let d = suc-mul (length xs) c in
      let e = h x in
      omega arith

-- ---- the elements that pass a test

module _ {A : Type 0} (h : A → Bool) where
  pub among_keep : (x : A) (xs : List A) → Among x xs → h x ≡ true → Among x (keep h xs)
  unfolding keep
  among_keep x [] i e = absurd i
  among_keep x (y ∷ xs) i e = go (h y) refl i (λ k. among_keep x xs k e)
    where
      go : (b : Bool) → h y ≡ b → Among x (y ∷ xs) → (Among x xs → Among x (keep h xs)) → Among x (cond b (y ∷ keep h xs) (keep h xs))
      go true q (inl k) rest = inl k
      go true q (inr k) rest = inr (rest k)
      go false q (inl k) rest = clash (subst (λ (z : A). h z ≡ true) k e) q
      go false q (inr k) rest = rest k

  pub among_kept : (x : A) (xs : List A) → Among x (keep h xs) → Among x xs × (h x ≡ true)
  unfolding keep
  among_kept x [] i = absurd i
  among_kept x (y ∷ xs) i = go (h y) refl i (among_kept x xs)
    where
      go : (b : Bool) → h y ≡ b → Among x (cond b (y ∷ keep h xs) (keep h xs)) → (Among x (keep h xs) → Among x xs × (h x ≡ true))
          → Among x (y ∷ xs) × (h x ≡ true)
      go true q (inl k) rest = (inl k, ap h k ∙ q)
      go true q (inr k) rest = let t = rest k in (inr t.0, t.1)
      go false q k rest = let t = rest k in (inr t.0, t.1)

  pub once_keep : (xs : List A) → Once xs → Once (keep h xs)
  unfolding keep
  once_keep [] o = tt
  once_keep (x ∷ xs) o = go (h x) (once_keep xs o.1)
    where
      go : (b : Bool) → Once (keep h xs) → Once (cond b (x ∷ keep h xs) (keep h xs))
      go true rest = (λ k. o.0 (among_kept x xs k).0, rest)
      go false rest = rest

  pub kept_few : (xs : List A) → length (keep h xs) ≤ length xs
  unfolding keep
  kept_few [] = zero-le
  kept_few (x ∷ xs) = go (h x) (kept_few xs)
    where
      go : (b : Bool) → length (keep h xs) ≤ length xs → length (cond b (x ∷ keep h xs) (keep h xs)) ≤ length (x ∷ xs)
      go true l = omega arith
      go false l = omega arith

-- ---- the numbers from lo on

pub among_up_to : (m lo v : ℕ) → lo ≤ v → v < lo + m → Among v (up_to m lo)
unfolding up_to
among_up_to zero lo v h l = absurd (omega arith)
among_up_to (suc m) lo v h l = wire_cases v lo (λ e. inl e) (λ e. inr (among_up_to m (suc lo) v (omega arith) (omega arith)))

pub up_to_among : (m lo v : ℕ) → Among v (up_to m lo) → (lo ≤ v) × (v < lo + m)
unfolding up_to
up_to_among zero lo v h = absurd h
up_to_among (suc m) lo v (inl e) = (omega arith, omega arith)
up_to_among (suc m) lo v (inr h) = let t = up_to_among m (suc lo) v h in (omega (arith, t.0), omega (arith, t.1))

pub once_up_to : (m lo : ℕ) → Once (up_to m lo)
unfolding up_to
once_up_to zero lo = tt
once_up_to (suc m) lo = (λ h. omega (arith, (up_to_among m (suc lo) lo h).0), once_up_to m (suc lo))

pub length_up_to : (m lo : ℕ) → length (up_to m lo) ≡ m
unfolding up_to
length_up_to zero lo = refl
length_up_to (suc m) lo = ap suc (length_up_to m (suc lo))
