-- The sets in order (5.11): all sets of 1 to k wires, each once, a smaller set first, and of one size the lower one first.
use Rattle.std.specs.Prelude.{◌≡◌, refl, true, ◌⊎◌, List, [], ◌∷◌, ◌++◌, map, ℕ, zero, suc, ◌+◌, ◌*◌, ◌^◌, ◌≤◌, ◌<◌, ltb, length}
use Rattle.std.proofs.Common.{sym, ap, ◌∙◌, subst, inl, inr, zero-le, le_refl, pow-suc, mul-le-mul_right, arith, length-append}
use Rattle.std.proofs.Math.Nat.{pow-zero, pow-le-pow_left, pow-le-pow_right}
use Rattle.std.proofs.lemmas.List.{length-map}
use Rattle.data.specs.Basics.{each, Among}
use Rattle.data.specs.ProbeSets.{ascending, WireSet, Asc}
use Rattle.document.specs.Judgements.{sets_of, sets_in_order, Before, Ordered, Lower}
use Rattle.data.proofs.Laws.Tests.{and_l, and_r, and_i, ltb_true, true_ltb, wire_cases}
use Rattle.document.proofs.Laws.Lists.{among_l, among_r, among_split, among_map, among_unmap}

-- ---- sets by their tests

asc_of : (lo n : ℕ) (ps : List ℕ) → ascending ps ≡ true → each (λ w. ltb w n) ps ≡ true → ((p : ℕ) (qs : List ℕ) → ps ≡ p ∷ qs → lo ≤ p) → Asc lo n ps
unfolding ascending each
asc_of lo n [] a e h = tt
asc_of lo n (p ∷ []) a e h = (h p [] refl, ltb_true p n (and_l (ltb p n) true e), tt)
asc_of lo n (p ∷ q ∷ ps) a e h = (
  h p (q ∷ ps) refl,
  ltb_true p n (and_l (ltb p n) (each (λ w. ltb w n) (q ∷ ps)) e),
  asc_of (suc p) n (q ∷ ps) (and_r (ltb p q) (ascending (q ∷ ps)) a) (and_r (ltb p n) (each (λ w. ltb w n) (q ∷ ps)) e) (λ r rs z. first r rs z),
)
  where
    first : (r : ℕ) (rs : List ℕ) → q ∷ ps ≡ r ∷ rs → p < r
    first r rs z = let s : q ≡ r = cc in let l = ltb_true p q (and_l (ltb p q) (ascending (q ∷ ps)) a) in omega arith

pub asc : (n : ℕ) (ps : List ℕ) → WireSet n ps → Asc 0 n ps
asc n ps s = asc_of 0 n ps s.ascends s.wires (λ p qs _. zero-le)

ascends_of : (lo n : ℕ) (ps : List ℕ) → Asc lo n ps → ascending ps ≡ true
unfolding ascending
ascends_of lo n [] a = refl
ascends_of lo n (p ∷ []) a = refl
ascends_of lo n (p ∷ q ∷ ps) a = and_i (ltb p q) (ascending (q ∷ ps)) (true_ltb p q a.2.0) (ascends_of (suc p) n (q ∷ ps) a.2)

wires_of_lem : (lo n : ℕ) (ps : List ℕ) → Asc lo n ps → each (λ w. ltb w n) ps ≡ true
unfolding each
wires_of_lem lo n [] a = refl
wires_of_lem lo n (p ∷ ps) a = and_i (ltb p n) (each (λ w. ltb w n) ps) (true_ltb p n a.1) (wires_of_lem (suc p) n ps a.2)

pub wire_set : (n : ℕ) (ps : List ℕ) → Asc 0 n ps → WireSet n ps
wire_set n ps a = record { ascends = ascends_of 0 n ps a; wires = wires_of_lem 0 n ps a }

-- ---- the list holds just the sets of 1 to k wires

sets_of← : (m lo n : ℕ) (ps : List ℕ) → n ≡ lo + m → Asc lo n ps → Among ps (sets_of (length ps) m lo)
unfolding sets_of
sets_of← m lo n [] q a = inl refl
sets_of← zero lo n (p ∷ ps) q a = let x = a.0 in let y = a.1 in absurd (omega arith)
sets_of← (suc m) lo n (p ∷ ps) q a = wire_cases p lo
    (λ e. among_l (p ∷ ps) (map (λ s. lo ∷ s) (sets_of (length ps) m (suc lo))) (sets_of (suc (length ps)) m (suc lo))
    (subst (λ (q : ℕ). Among (q ∷ ps) (map (λ s. lo ∷ s) (sets_of (length ps) m (suc lo)))) (sym e)
    (among_map (λ s. lo ∷ s) ps (sets_of (length ps) m (suc lo)) (sets_of← m (suc lo) n ps (omega arith) (subst (λ (k : ℕ). Asc (suc k) n ps) e a.2)))))
    (λ e. among_r (p ∷ ps) (map (λ s. lo ∷ s) (sets_of (length ps) m (suc lo))) (sets_of (suc (length ps)) m (suc lo))
    (sets_of← m (suc lo) n (p ∷ ps) (omega arith) (let x = a.0 in omega arith, a.1, a.2)))

asc_up : (lo lo' n : ℕ) (ps : List ℕ) → lo ≤ lo' → Asc lo' n ps → Asc lo n ps
asc_up lo lo' n [] h a = tt
asc_up lo lo' n (p ∷ ps) h a = (let x = a.0 in omega arith, a.1, a.2)

sets_of→ : (k m lo n : ℕ) (ps : List ℕ) → n ≡ lo + m → Among ps (sets_of k m lo) → Asc lo n ps × (length ps ≡ k)
unfolding sets_of
sets_of→ zero m lo n ps q (inl e) = rw e (tt, refl)
sets_of→ zero m lo n ps q (inr h) = absurd h
sets_of→ (suc k) zero lo n ps q h = absurd h
sets_of→ (suc k) (suc m) lo n ps q h =
    go (among_split ps (map (λ s. lo ∷ s) (sets_of k m (suc lo))) (sets_of (suc k) m (suc lo)) h)
    (λ r. sets_of→ k m (suc lo) n r (omega arith)) (sets_of→ (suc k) m (suc lo) n ps (omega arith))
  where
    go : Among ps (map (λ s. lo ∷ s) (sets_of k m (suc lo))) ⊎ Among ps (sets_of (suc k) m (suc lo))
        → ((r : List ℕ) → Among r (sets_of k m (suc lo)) → Asc (suc lo) n r × (length r ≡ k))
        → (Among ps (sets_of (suc k) m (suc lo)) → Asc (suc lo) n ps × (length ps ≡ suc k)) → Asc lo n ps × (length ps ≡ suc k)
    go (inl i) f g =
        let t = among_unmap (λ s. lo ∷ s) ps (sets_of k m (suc lo)) i in
        let z = f t.0 t.2 in
        rw t.1 ((le_refl lo, omega arith, z.0), ap suc z.1)
    go (inr i) f g = let z = g i in (asc_up lo (suc lo) n ps (omega arith) z.0, z.1)

pub sets← : (k n : ℕ) (ps : List ℕ) → Asc 0 n ps → 0 < length ps → length ps ≤ k → Among ps (sets_in_order k n)
unfolding sets_in_order
sets← zero n ps a l h = absurd (omega arith)
sets← (suc k) n ps a l h = wire_cases (length ps) (suc k)
    (λ e. among_r ps (sets_in_order k n) (sets_of (suc k) n 0) (subst (λ (j : ℕ). Among ps (sets_of j n 0)) e (sets_of← n 0 n ps (omega arith) a)))
    (λ e. among_l ps (sets_in_order k n) (sets_of (suc k) n 0) (sets← k n ps a l (omega arith)))

pub sets→ : (k n : ℕ) (ps : List ℕ) → Among ps (sets_in_order k n) → Asc 0 n ps × (0 < length ps) × (length ps ≤ k)
unfolding sets_in_order
sets→ zero n ps h = absurd h
sets→ (suc k) n ps h = go (among_split ps (sets_in_order k n) (sets_of (suc k) n 0) h) (sets→ k n ps)
  where
    go : Among ps (sets_in_order k n) ⊎ Among ps (sets_of (suc k) n 0) → (Among ps (sets_in_order k n) → Asc 0 n ps × (0 < length ps) × (length ps ≤ k))
        → Asc 0 n ps × (0 < length ps) × (length ps ≤ suc k)
    go (inl i) f = let z = f i in (z.0, z.1, omega (arith, z.2))
    go (inr i) f = let z = sets_of→ (suc k) n 0 n ps (omega arith) i in (z.0, omega (arith, z.1), omega (arith, z.1))

-- ---- and holds them in the stated order

ordered_append : (xs ys : List (List ℕ)) → Ordered xs → Ordered ys → ((x y : List ℕ) → Among x xs → Among y ys → Before x y) → Ordered (xs ++ ys)
ordered_append [] ys o p h = p
ordered_append (x ∷ xs) ys o p h = (
  λ y k. elim (among_split y xs ys k) [ inl i ↦ o.0 y i | inr i ↦ h x y (inl refl) i ],
  ordered_append xs ys o.1 p (λ a b i j. h a b (inr i) j),
)

before_cons : (p : ℕ) (x y : List ℕ) → Before x y → Before (p ∷ x) (p ∷ y)
before_cons p x y (inl l) = inl (omega arith)
before_cons p x y (inr e) = inr (ap suc e.0, inr (refl, e.1))

ordered_map : (p : ℕ) (xs : List (List ℕ)) → Ordered xs → Ordered (map (λ r. p ∷ r) xs)
ordered_map p [] o = tt
ordered_map p (x ∷ xs) o = (
  λ y k. let t = among_unmap (λ r. p ∷ r) y xs k in subst (Before (p ∷ x)) (sym t.1) (before_cons p x t.0 (o.0 t.0 t.2)),
  ordered_map p xs o.1,
)

sets_of_ordered : (k m lo : ℕ) → Ordered (sets_of k m lo)
unfolding sets_of
sets_of_ordered zero m lo = (λ y k. absurd k, tt)
sets_of_ordered (suc k) zero lo = tt
sets_of_ordered (suc k) (suc m) lo =
    ordered_append (map (λ s. lo ∷ s) (sets_of k m (suc lo))) (sets_of (suc k) m (suc lo))
    (ordered_map lo (sets_of k m (suc lo)) (sets_of_ordered k m (suc lo))) (sets_of_ordered (suc k) m (suc lo))
    (λ x y i j. let t = among_unmap (λ s. lo ∷ s) x (sets_of k m (suc lo)) i in
    let a = sets_of→ k m (suc lo) (suc lo + m) t.0 refl t.2 in
    let b = sets_of→ (suc k) m (suc lo) (suc lo + m) y refl j in
    subst (λ (z : List ℕ). Before z y) (sym t.1) (inr (ap suc a.1 ∙ sym b.1, first t.0 y b.0 b.1)))
  where
    first : (r y : List ℕ) → Asc (suc lo) (suc lo + m) y → length y ≡ suc k → Lower (lo ∷ r) y
    first r [] a e = absurd (omega arith)
    first r (q ∷ qs) a e = inl a.0

pub sets_ordered : (k n : ℕ) → Ordered (sets_in_order k n)
unfolding sets_in_order
sets_ordered zero n = tt
sets_ordered (suc k) n =
    ordered_append (sets_in_order k n) (sets_of (suc k) n 0) (sets_ordered k n) (sets_of_ordered (suc k) n 0)
    (λ x y i j. let a = sets→ k n x i in let b = sets_of→ (suc k) n 0 n y (omega arith) j in inl (omega (arith, a.2, b.1)))

-- ---- how many sets there are, so that their count fits a word

sets_few : (p m lo : ℕ) → length (sets_of p m lo) ≤ m ^ p
unfolding sets_of
sets_few zero m lo = omega (arith, pow-zero m)
sets_few (suc p) zero lo = zero-le
sets_few (suc p) (suc m) lo =
    let a = sets_few p m (suc lo) in
    let b = sets_few (suc p) m (suc lo) in
    let u : m ^ p ≤ suc m ^ p = pow-le-pow_left (omega arith) p in
    let v = mul-le-mul_right m u in
    omega (
      arith,
      length-append (map (λ s. lo ∷ s) (sets_of p m (suc lo))) (sets_of (suc p) m (suc lo)),
      length-map (sets_of p m (suc lo)) (λ s. lo ∷ s),
      pow-suc m p,
      pow-suc (suc m) p,
    )

pub sets_below : (k n : ℕ) → k ≤ 4 → n ≤ 128 → length (sets_of k n 0) ≤ 128 ^ 4
sets_below k n h l = let a = sets_few k n 0 in let b : n ^ k ≤ 128 ^ k = pow-le-pow_left l k in
    let c : 128 ^ k ≤ 128 ^ 4 = pow-le-pow_right (omega arith) h in omega arith

pub in_order_below : (k n : ℕ) → k ≤ 4 → n ≤ 128 → length (sets_in_order k n) ≤ k * 128 ^ 4
unfolding sets_in_order
in_order_below zero n h l = omega arith
in_order_below (suc k) n h l =
    let a = in_order_below k n (omega arith) l in
    let b = sets_below (suc k) n h l in
    let c = length-append (sets_in_order k n) (sets_of (suc k) n 0) in
    omega arith
