-- Sums over all values below a bound and over all words of values; a permutation at one place keeps them.
use Rattle.std.specs.Prelude.{◌≡◌, cond, ◌≢◌, eqb, length, get_or, set}
use Rattle.std.proofs.Math.Path.{refl, sym, ap, fun_ext}
use Rattle.std.proofs.Common.{ap₂, ◌∙◌, subst, not-suc-le-zero, le_of_suc-le-suc, arith}
use mathlib.Core.List.{List, [], ◌∷◌}
use Prim.Native.Nat.{ℕ, zero, suc, ◌+◌, ◌<◌}
use Rattle.document.specs.Starts.{upd, OneToOne, Small}
use Rattle.data.proofs.Laws.Tests.{cond_true, cond_false, eqb_true, true_eqb, out_of, wire_cases}

-- ---- one changed place of a function

pub upd_same : {A : Type 0} (e : ℕ → A) (r : ℕ) (a : A) (v : ℕ) → v ≡ r → upd e r a v ≡ a
unfolding upd
upd_same e r a v q = cond_true a (e v) (true_eqb v r q)

pub upd_other : {A : Type 0} (e : ℕ → A) (r : ℕ) (a : A) (v : ℕ) → v ≢ r → upd e r a v ≡ e v
unfolding upd
upd_other e r a v n = cond_false a (e v) (out_of (λ q. n (eqb_true v r q)))

-- ---- the sum over the numbers below n

unfoldable pub total : ℕ → (ℕ → ℕ) → ℕ
total zero f = 0
total (suc n) f = f n + total n f

pub total_ext : (n : ℕ) (f g : ℕ → ℕ) → ((v : ℕ) → v < n → f v ≡ g v) → total n f ≡ total n g
unfolding total
total_ext zero f g h = refl
total_ext (suc n) f g h = ap₂ ◌+◌ (h n (omega arith)) (total_ext n f g (λ v l. h v (omega arith)))

total_add : (n : ℕ) (f g : ℕ → ℕ) → total n (λ v. f v + g v) ≡ total n f + total n g
unfolding total
total_add zero f g = refl
total_add (suc n) f g = let z = total_add n f g in omega arith

total_zero : (n : ℕ) → total n (λ _. 0) ≡ 0
unfolding total
total_zero zero = refl
total_zero (suc n) = let z = total_zero n in omega arith

pub total_swap : (n m : ℕ) (f : ℕ → ℕ → ℕ) → total n (λ u. total m (λ v. f u v)) ≡ total m (λ v. total n (λ u. f u v))
unfolding total
total_swap zero m f = sym (total_zero m)
total_swap (suc n) m f = ap (λ (k : ℕ). total m (f n) + k) (total_swap n m f) ∙ sym (total_add m (f n) (λ v. total n (λ u. f u v)))

-- one summand changes
total_upd : (n : ℕ) (f : ℕ → ℕ) (k c : ℕ) → k < n → total n (upd f k c) + f k ≡ total n f + c
unfolding total
total_upd zero f k c h = absurd (not-suc-le-zero h)
total_upd (suc n) f k c h = wire_cases n k
    (λ e. let a = upd_same f k c n e in
    let b = total_ext n (upd f k c) f (λ v l. upd_other f k c v (omega arith)) in
    let d : f n ≡ f k = ap f e in
    omega arith)
    (λ e. let a = upd_other f k c n e in let b = total_upd n f k c (omega arith) in omega arith)

-- ---- one-to-one functions: they permute the numbers below n

pub perm_ext : (n : ℕ) (π κ : ℕ → ℕ) → ((v : ℕ) → π v ≡ κ v) → OneToOne n π → OneToOne n κ
perm_ext n π κ h p = subst (OneToOne n) (fun_ext h) p

-- π below n, where what went to n goes where n went
around : ℕ → (ℕ → ℕ) → ℕ → ℕ
around n π v = cond (eqb (π v) n) (π n) (π v)

around_cases : {X : Type 0} (n : ℕ) (π : ℕ → ℕ) (v : ℕ) → (π v ≡ n → around n π v ≡ π n → X) → (π v ≢ n → around n π v ≡ π v → X) → X
unfolding around
around_cases n π v f g = wire_cases (π v) n
    (λ e. f e (cond_true (π n) (π v) (true_eqb (π v) n e)))
    (λ e. g e (cond_false (π n) (π v) (out_of (λ q. e (eqb_true (π v) n q)))))

pub total_perm : (n : ℕ) (π : ℕ → ℕ) → OneToOne n π → (f : ℕ → ℕ) → total n (λ v. f (π v)) ≡ total n f
unfolding total
total_perm zero π p f = refl
total_perm (suc n) π p f = wire_cases (π n) n
    (λ e. ap₂ ◌+◌ (ap f e) (total_perm n π (record {
      stays = λ v l. let a = p.stays v (omega arith) in
          let b : π v ≢ n = λ q. let z = p.apart v n (omega arith) (omega arith) (q ∙ sym e) in omega arith in omega arith;
      apart = λ u v l m. p.apart u v (omega arith) (omega arith);
    }) f))
    (λ e. let k<n : π n < n = let a = p.stays n (omega arith) in omega arith in
    let moved = total_perm n (around n π) (record {
      stays = λ v l. let a = p.stays v (omega arith) in around_cases n π v (λ _ q. omega arith) (λ d q. omega arith);
      apart = λ u v l m q. around_cases n π u
          (λ a x. around_cases n π v (λ b y. p.apart u v (omega arith) (omega arith) (a ∙ sym b))
          (λ b y. let z = p.apart n v (omega arith) (omega arith) (sym x ∙ q ∙ y) in absurd (omega arith)))
          (λ a x. around_cases n π v (λ b y. let z = p.apart u n (omega arith) (omega arith) (sym x ∙ q ∙ y) in absurd (omega arith))
          (λ b y. p.apart u v (omega arith) (omega arith) (sym x ∙ q ∙ y)));
    }) (upd f (π n) (f n)) in
    let same = total_ext n (λ v. upd f (π n) (f n) (around n π v)) (λ v. f (π v)) (λ v l. around_cases n π v
    (λ a x. upd_same f (π n) (f n) (around n π v) x ∙ ap f (sym a))
    (λ a x. upd_other f (π n) (f n) (around n π v) (λ q. let z = p.apart v n (omega arith) (omega arith) (sym x ∙ q) in omega arith) ∙ ap f x)) in
    let last = total_upd n f (π n) (f n) k<n in
    omega arith)

-- ---- the sum over all words of m values below b

unfoldable pub words : ℕ → ℕ → (List ℕ → ℕ) → ℕ
words b zero f = f []
words b (suc m) f = total b (λ v. words b m (λ xs. f (v ∷ xs)))

module _ (b : ℕ) (pos : 0 < b) where
  small_nil : Small b []
  small_nil k = pos

  small_cons : (v : ℕ) (xs : List ℕ) → v < b → Small b xs → Small b (v ∷ xs)
  small_cons v xs h s zero = h
  small_cons v xs h s (suc k) = s k

  pub small_set : (xs : List ℕ) (i v : ℕ) → Small b xs → v < b → Small b (set xs i v)
  small_set [] i v s h k = s k
  small_set (x ∷ xs) zero v s h zero = h
  small_set (x ∷ xs) zero v s h (suc k) = s (suc k)
  small_set (x ∷ xs) (suc i) v s h zero = s zero
  small_set (x ∷ xs) (suc i) v s h (suc k) = small_set xs i v (λ j. s (suc j)) h k

  pub words_ext : (m : ℕ) (f g : List ℕ → ℕ) → ((xs : List ℕ) → length xs ≡ m → Small b xs → f xs ≡ g xs) → words b m f ≡ words b m g
  unfolding words
  words_ext zero f g h = h [] refl small_nil
  words_ext (suc m) f g h = total_ext b _ _ (λ v l. words_ext m (λ xs. f (v ∷ xs)) (λ xs. g (v ∷ xs)) (λ xs e s. h (v ∷ xs) (ap suc e) (small_cons v xs l s)))

  words_swap : (m : ℕ) (f : ℕ → List ℕ → ℕ) → total b (λ v. words b m (f v)) ≡ words b m (λ xs. total b (λ v. f v xs))
  unfolding words
  words_swap zero f = refl
  words_swap (suc m) f = total_swap b b (λ v u. words b m (λ xs. f v (u ∷ xs))) ∙ total_ext b _ _ (λ u _. words_swap m (λ v xs. f v (u ∷ xs)))

  -- the value at place s goes through a permutation that reads the other places only
  pub slide : (m s : ℕ) → s < m → (π : List ℕ → ℕ → ℕ) → ((xs : List ℕ) (v : ℕ) → π (set xs s v) ≡ π xs)
      → ((xs : List ℕ) → Small b xs → OneToOne b (π xs))
      → (F : List ℕ → ℕ) → words b m (λ xs. F (set xs s (π xs (get_or xs s 0)))) ≡ words b m F
  unfolding words
  slide zero s h π i p F = absurd (not-suc-le-zero h)
  slide (suc m) zero h π i p F =
      total_ext b _ _ (λ v _. words_ext m (λ xs. F (π (v ∷ xs) v ∷ xs)) (λ xs. F (π (0 ∷ xs) v ∷ xs))
      (λ xs _ _. ap (λ (q : ℕ → ℕ). F (q v ∷ xs)) (i (0 ∷ xs) v)))
      ∙ words_swap m (λ v xs. F (π (0 ∷ xs) v ∷ xs))
      ∙ words_ext m (λ xs. total b (λ v. F (π (0 ∷ xs) v ∷ xs))) (λ xs. total b (λ v. F (v ∷ xs)))
      (λ xs _ s. total_perm b (π (0 ∷ xs)) (p (0 ∷ xs) (small_cons 0 xs pos s)) (λ v. F (v ∷ xs)))
      ∙ sym (words_swap m (λ v xs. F (v ∷ xs)))
  slide (suc m) (suc s) h π i p F =
      total_ext b _ _ (λ v l. slide m s (le_of_suc-le-suc h) (λ xs. π (v ∷ xs)) (λ xs u. i (v ∷ xs) u)
      (λ xs q. p (v ∷ xs) (small_cons v xs l q)) (λ xs. F (v ∷ xs)))
