-- Laws of tests: booleans, equal numbers, tests over the numbers below a bound, tallies, membership.
use Rattle.std.specs.Prelude.{◌≡◌, refl, Bool, true, false, not, ◌&&◌, ◌||◌, cond, ◌≢◌, List, [], ◌∷◌, ℕ, zero, suc, ◌+◌, ◌≤◌, ◌<◌, length, T, eqb, ltb, leb}
use Rattle.std.proofs.Common.{sym, ap, ap₂, ◌∙◌, subst, true≢false, inl, inr, zero-le, not-suc-le-zero, le_refl, arith, eqb→eq, ltb→lt, nltb→le, lt→ltb, leb→le, le→leb}
use Rattle.std.proofs.Math.Decide.{ℕ_discrete, le_ind}
use Rattle.std.proofs.Math.Dec.{eqb_refl, nleb→lt}
use Rattle.data.specs.Basics.{one, tally, all, some, each, elem, Among, Once}

-- ---- booleans

pub clash : {X : Type 0} {b : Bool} → b ≡ true → b ≡ false → X
clash p q = absurd (true≢false (sym p ∙ q))

-- a test that is not true is false
pub out_of : {b : Bool} → (b ≡ true → ⊥) → b ≡ false
out_of {b = true} f = absurd (f refl)
out_of {b = false} f = refl

pub bool_cases : {X : Type 0} (b : Bool) → (b ≡ true → X) → (b ≡ false → X) → X
bool_cases true f g = f refl
bool_cases false f g = g refl

pub and_l : (a b : Bool) → (a && b) ≡ true → a ≡ true
and_l true b e = refl
and_l false b e = e

pub and_r : (a b : Bool) → (a && b) ≡ true → b ≡ true
and_r true b e = e
and_r false b e = clash e refl

pub both : (a b : Bool) → (a && b) ≡ true → (a ≡ true) × (b ≡ true)
both a b e = (and_l a b e, and_r a b e)

pub and_i : (a b : Bool) → a ≡ true → b ≡ true → (a && b) ≡ true
and_i a b p q = ap₂ ◌&&◌ p q

pub and_false : (a b : Bool) → b ≡ false → (a && b) ≡ false
and_false true b e = e
and_false false b e = refl

pub not_t : (b : Bool) → not b ≡ true → b ≡ false
not_t true e = clash e refl
not_t false e = refl

pub not_f : (b : Bool) → not b ≡ false → b ≡ true
not_f true e = refl
not_f false e = clash refl e

pub or_cases : {X : Type 0} (a b : Bool) → (a || b) ≡ true → (a ≡ true → X) → (b ≡ true → X) → X
or_cases true b e f g = f refl
or_cases false b e f g = g e

pub or_l : (a b : Bool) → a ≡ true → (a || b) ≡ true
or_l a b e = ap (◌|| b) e

pub or_r : (a b : Bool) → b ≡ true → (a || b) ≡ true
or_r true b e = refl
or_r false b e = e

pub cond_cases : {A : Type 0} (Q : A → Type 0) (b : Bool) (x y : A) → (b ≡ true → Q x) → (b ≡ false → Q y) → Q (cond b x y)
cond_cases Q true x y f g = f refl
cond_cases Q false x y f g = g refl

pub cond_both : {A B : Type 0} (Q : A → B → Type 0) (b : Bool) (x y : A) (u v : B) → Q x u → Q y v → Q (cond b x y) (cond b u v)
cond_both Q true x y u v p q = p
cond_both Q false x y u v p q = q

pub cond_of : {A B : Type 0} (f : A → B) (b : Bool) (x y : A) → f (cond b x y) ≡ cond b (f x) (f y)
cond_of f true x y = refl
cond_of f false x y = refl

pub cond_and : {A B : Type 0} (f : A → B) (a b : Bool) (x y : A) → f (cond a (cond b x y) y) ≡ cond (a && b) (f x) (f y)
cond_and f true b x y = cond_of f b x y
cond_and f false b x y = refl

pub cond_true : {A : Type 0} {b : Bool} (x y : A) → b ≡ true → cond b x y ≡ x
cond_true x y e = ap (λ (c : Bool). cond c x y) e

pub cond_false : {A : Type 0} {b : Bool} (x y : A) → b ≡ false → cond b x y ≡ y
cond_false x y e = ap (λ (c : Bool). cond c x y) e

-- ---- numbers

pub T_of : (b : Bool) → b ≡ true → T b
T_of b e = subst T (sym e) tt

pub of_T : (b : Bool) → T b → b ≡ true
of_T true t = refl
of_T false t = absurd t

pub eqb_true : (a b : ℕ) → eqb a b ≡ true → a ≡ b
eqb_true a b e = eqb→eq a b (T_of (eqb a b) e)

pub true_eqb : (a b : ℕ) → a ≡ b → eqb a b ≡ true
true_eqb a b e = of_T (eqb a b) (subst (λ (k : ℕ). T (eqb a k)) e (eqb_refl a))

pub ltb_true : (a b : ℕ) → ltb a b ≡ true → a < b
ltb_true a b e = ltb→lt a b (T_of (ltb a b) e)

pub ltb_false : (a b : ℕ) → ltb a b ≡ false → b ≤ a
ltb_false a b e = nltb→le a b (subst (λ (c : Bool). T (not c)) (sym e) tt)

pub true_ltb : (a b : ℕ) → a < b → ltb a b ≡ true
true_ltb a b h = of_T (ltb a b) (lt→ltb a b h)

pub leb_true : (a b : ℕ) → leb a b ≡ true → a ≤ b
leb_true a b e = leb→le a b (T_of (leb a b) e)

pub leb_false : (a b : ℕ) → leb a b ≡ false → b < a
leb_false a b e = nleb→lt a b (subst (λ (c : Bool). T (not c)) (sym e) tt)

pub true_leb : (a b : ℕ) → a ≤ b → leb a b ≡ true
true_leb a b h = of_T (leb a b) (le→leb a b h)

-- by cases on whether two wires are the same
pub wire_cases : {X : Type 0} (v w : ℕ) → (v ≡ w → X) → (v ≢ w → X) → X
wire_cases {X} v w f g = go (ℕ_discrete v w)
  where
    go : Dec (v ≡ w) → X
    go (yes e) = f e
    go (no n) = g n

-- induction over the wires below
pub below : (Q : ℕ → Type 0) → ((n : ℕ) → ((m : ℕ) → m < n → Q m) → Q n) → (n : ℕ) → Q n
below Q f n = f n (go n)
  where
    go : (k m : ℕ) → m < k → Q m
    go zero m h = absurd (not-suc-le-zero h)
    go (suc k) m h = f m (λ i l. go k i (omega arith))

-- ---- tests over the numbers below a bound

pub all_at : (n : ℕ) (f : ℕ → Bool) → all n f ≡ true → (u : ℕ) → u < n → f u ≡ true
unfolding all
all_at zero f e u h = absurd (not-suc-le-zero h)
all_at (suc n) f e u h = wire_cases u n
    (λ q. subst (λ (k : ℕ). f k ≡ true) (sym q) (and_r (all n f) (f n) e))
    (λ q. all_at n f (and_l (all n f) (f n) e) u (omega arith))

pub all_of : (n : ℕ) (f : ℕ → Bool) → ((u : ℕ) → u < n → f u ≡ true) → all n f ≡ true
unfolding all
all_of zero f h = refl
all_of (suc n) f h = and_i (all n f) (f n) (all_of n f (λ u l. h u (omega arith))) (h n (omega arith))

pub all_ext : (n : ℕ) (f g : ℕ → Bool) → ((u : ℕ) → u < n → f u ≡ g u) → all n f ≡ all n g
unfolding all
all_ext zero f g h = refl
all_ext (suc n) f g h = ap₂ ◌&&◌ (all_ext n f g (λ u l. h u (omega arith))) (h n (omega arith))

-- where some does not pass, none does
pub some_none : (n : ℕ) (f : ℕ → Bool) → some n f ≡ false → (u : ℕ) → u < n → f u ≡ false
unfolding some
some_none zero f e u h = absurd (not-suc-le-zero h)
some_none (suc n) f e u h = wire_cases u n
    (λ q. subst (λ (k : ℕ). f k ≡ false) (sym q) (out_of (λ t. clash (or_r (some n f) (f n) t) e)))
    (λ q. some_none n f (out_of (λ t. clash (or_l (some n f) (f n) t) e)) u (omega arith))

pub none_some : (n : ℕ) (f : ℕ → Bool) → ((u : ℕ) → u < n → f u ≡ false) → some n f ≡ false
unfolding some
none_some zero f h = refl
none_some (suc n) f h = ap₂ ◌||◌ (none_some n f (λ u l. h u (omega arith))) (h n (omega arith))

-- ---- tallies

one_le : (a b : Bool) → (a ≡ true → b ≡ true) → one a ≤ one b
one_le true true h = le_refl 1
one_le true false h = clash (h refl) refl
one_le false b h = zero-le

pub tally_ext : (n : ℕ) (f g : ℕ → Bool) → ((k : ℕ) → k < n → f k ≡ g k) → tally n f ≡ tally n g
unfolding tally
tally_ext zero f g h = refl
tally_ext (suc n) f g h = ap₂ ◌+◌ (ap one (h n (omega arith))) (tally_ext n f g (λ k l. h k (omega arith)))

pub tally_mono : (n : ℕ) (f g : ℕ → Bool) → ((k : ℕ) → k < n → f k ≡ true → g k ≡ true) → tally n f ≤ tally n g
unfolding tally
tally_mono zero f g h = zero-le
tally_mono (suc n) f g h =
    let a = one_le (f n) (g n) (h n (omega arith)) in
    let b = tally_mono n f g (λ k l. h k (omega arith)) in
    omega arith

-- one more passes
pub tally_more : (n : ℕ) (f g : ℕ → Bool) (j : ℕ) → j < n → f j ≡ false → g j ≡ true → ((k : ℕ) → k < n → f k ≡ true → g k ≡ true) → tally n f < tally n g
unfolding tally
tally_more zero f g j l p q h = absurd (not-suc-le-zero l)
tally_more (suc n) f g j l p q h = wire_cases j n
    (λ e. let a : f n ≡ false = subst (λ (k : ℕ). f k ≡ false) e p in
    let b : g n ≡ true = subst (λ (k : ℕ). g k ≡ true) e q in
    let c = tally_mono n f g (λ k i. h k (omega arith)) in
    rw (a, b) (omega arith))
    (λ e. let a = one_le (f n) (g n) (h n (omega arith)) in
    let c = tally_more n f g j (omega arith) p q (λ k i. h k (omega arith)) in
    omega arith)

-- if not all pass, one fails
pub tally_spare : (n : ℕ) (f : ℕ → Bool) → tally n f < n → (j : ℕ) × (j < n) × (f j ≡ false)
unfolding tally
tally_spare zero f h = absurd (not-suc-le-zero h)
tally_spare (suc n) f h = bool_cases (f n)
    (λ i. let z : 1 + tally n f < suc n = rw i at h in
    let s = tally_spare n f (omega arith) in (s.0, omega (arith, s.1), s.2))
    (λ o. (n, omega arith, o))

pub tally_le : (f : ℕ → Bool) (n k : ℕ) → n ≤ k → tally n f ≤ tally k f
unfolding tally
tally_le f n k h = le_ind (λ (j : ℕ). tally n f ≤ tally j f) (le_refl (tally n f)) (λ j _ i. omega arith) k h

pub tally_max : (n : ℕ) (f : ℕ → Bool) → tally n f ≤ n
unfolding tally
tally_max zero f = zero-le
tally_max (suc n) f = let a = one_le (f n) true (λ _. refl) in let b = tally_max n f in omega arith

-- where none of the first a passes, at most the others do
pub tally_skip : (f : ℕ → Bool) (a n : ℕ) → a ≤ n → ((u : ℕ) → u < a → f u ≡ false) → a + tally n f ≤ n
unfolding tally
tally_skip f a n h none = le_ind (λ (j : ℕ). a + tally j f ≤ j) (none_first a none) (λ j _ i. let b = one_le (f j) true (λ _. refl) in omega arith) n h
  where
    none_first : (m : ℕ) → ((u : ℕ) → u < m → f u ≡ false) → m + tally m f ≤ m
    none_first zero z = zero-le
    none_first (suc m) z = let a = none_first m (λ u l. z u (omega arith)) in rw (z m (omega arith)) (omega arith)

one_apart : (a b : Bool) → (a ≡ true → b ≡ false) → one a + one b ≤ one (a || b)
one_apart true true h = clash refl (h refl)
one_apart true false h = le_refl 1
one_apart false b h = omega arith

-- of two tests that no number passes both
pub tally_apart : (n : ℕ) (f g : ℕ → Bool) → ((k : ℕ) → k < n → f k ≡ true → g k ≡ false) → tally n f + tally n g ≤ tally n (λ k. f k || g k)
unfolding tally
tally_apart zero f g h = zero-le
tally_apart (suc n) f g h =
    let a = one_apart (f n) (g n) (h n (omega arith)) in
    let b = tally_apart n f g (λ k l. h k (omega arith)) in
    omega arith

-- numbers that stand in a list once each are no more than pass a test that they pass
pub tally_list : (n : ℕ) (f : ℕ → Bool) (xs : List ℕ) → Once xs → ((x : ℕ) → Among x xs → (x < n) × (f x ≡ true)) → length xs ≤ tally n f
tally_list n f [] once h = zero-le
tally_list n f (x ∷ xs) once h =
    let g : ℕ → Bool = λ k. not (eqb k x) && f k in
    let a = tally_list n g xs once.1 (λ y m. let z = h y (inr m) in (
      z.0,
      and_i (not (eqb y x)) (f y) (ap not (out_of (λ e. once.0 (subst (λ (k : ℕ). Among k xs) (eqb_true y x e) m)))) z.1,
    )) in
    let b = tally_more n g f x (h x (inl refl)).0 (ap (λ (c : Bool). not c && f x) (true_eqb x x refl)) (h x (inl refl)).1
    (λ k _ e. and_r (not (eqb k x)) (f k) e) in
    omega arith

-- ---- membership

-- the number stands in the list
abbrev pub Mem : ℕ → List ℕ → Type 0
Mem v xs = Among v xs

pub elem→ : (v : ℕ) (xs : List ℕ) → elem v xs ≡ true → Mem v xs
unfolding elem
elem→ v [] e = clash e refl
elem→ v (x ∷ xs) e = or_cases (eqb v x) (elem v xs) e (λ p. inl (eqb_true v x p)) (λ p. inr (elem→ v xs p))

pub elem← : (v : ℕ) (xs : List ℕ) → Mem v xs → elem v xs ≡ true
unfolding elem
elem← v [] m = absurd m
elem← v (x ∷ xs) (inl e) = or_l (eqb v x) (elem v xs) (true_eqb v x e)
elem← v (x ∷ xs) (inr m) = or_r (eqb v x) (elem v xs) (elem← v xs m)

pub each_at : (f : ℕ → Bool) (xs : List ℕ) → each f xs ≡ true → (v : ℕ) → Mem v xs → f v ≡ true
unfolding each
each_at f [] e v m = absurd m
each_at f (x ∷ xs) e v (inl q) = ap f q ∙ and_l (f x) (each f xs) e
each_at f (x ∷ xs) e v (inr m) = each_at f xs (and_r (f x) (each f xs) e) v m

pub each_of : (f : ℕ → Bool) (xs : List ℕ) → ((v : ℕ) → Mem v xs → f v ≡ true) → each f xs ≡ true
unfolding each
each_of f [] h = refl
each_of f (x ∷ xs) h = and_i (f x) (each f xs) (h x (inl refl)) (each_of f xs (λ v m. h v (inr m)))
