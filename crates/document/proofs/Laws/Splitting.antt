-- Splitting secrets into shares: where a share of each secret is not live at the end, the secrets do not show in the counts.
use Rattle.std.specs.Prelude.{◌≡◌, Bool, ◌≢◌, length, set}
use Rattle.std.proofs.Math.Path.{refl, sym, ap, ap₂, subst}
use Rattle.std.proofs.Common.{◌∙◌, not-suc-le-zero, mul-le-mul_right, le_refl, arith, get_or-set_same}
use Rattle.std.proofs.Math.Bool.{cond}
use mathlib.Core.List.{List}
use Prim.Native.Nat.{ℕ, zero, suc, ◌+◌, ◌*◌, ◌≤◌, ◌<◌}
use Rattle.std.proofs.Math.Dec.{eqb}
use Rattle.std.proofs.Math.ListN.{get_or}
use Rattle.std.proofs.Math.Seq.{get_or-set_other}
use Rattle.data.specs.Basics.{all}
use Rattle.document.specs.Routine.{Routine}
use Rattle.document.specs.Running.{Value}
use Rattle.document.specs.Starts.{xor_of, upd, leaf_value, Small}
use Rattle.data.proofs.Laws.Tests.{clash, bool_cases, eqb_true, true_eqb, out_of, wire_cases, all_ext}
use Rattle.document.proofs.Laws.Marks.{Set}
use Rattle.document.proofs.Laws.Rule.{Live}
use Rattle.document.proofs.Laws.Live.{net, Earlier}
use Rattle.document.proofs.Laws.Sums.{upd_same, upd_other, words, words_ext, slide, small_set}
use Rattle.document.proofs.Laws.Values.{Lawful, cancel, plus_perm_l}
use Rattle.document.proofs.Laws.Counting.{Reads, AsOften, fixed}

-- the place of share j of secret i tells i
place : (D i j k l : ℕ) → j < D → l < D → i * D + j ≡ k * D + l → i < k → ⊥
place D i j k l p q e h = omega (arith, mul-le-mul_right D h)

other_place : (D i j k l : ℕ) → j < D → l < D → i ≢ k → i * D + j ≢ k * D + l
other_place D i j k l p q n e =
    n (let a : ¬ (i < k) = place D i j k l p q e in let b : ¬ (k < i) = place D k l i j q p (sym e) in omega arith)

pub place_inside : (S D i j : ℕ) → i < S → j < D → i * D + j < S * D
place_inside S D i j i<S j<D = omega (arith, mul-le-mul_right D i<S)

-- two tests of equal numbers agree where each follows from the other
eqb_iff : (a b c d : ℕ) → (a ≡ b → c ≡ d) → (c ≡ d → a ≡ b) → eqb a b ≡ eqb c d
eqb_iff a b c d f g = bool_cases (eqb c d)
    (λ e. true_eqb a b (g (eqb_true c d e)) ∙ sym e)
    (λ e. out_of (λ q. clash (true_eqb c d (f (eqb_true a b q))) e) ∙ sym e)

module _ (K : Value) (law : Lawful K) where
  open law use {pos, plus_ok, plus_assoc, plus_comm, plus_back}

  -- ---- the xor of shares

  pub xors_ext : (n : ℕ) (f g : ℕ → ℕ) → ((j : ℕ) → j < n → f j ≡ g j) → xor_of K n f ≡ xor_of K n g
  unfolding xor_of
  xors_ext zero f g h = refl
  xors_ext (suc n) f g h = ap₂ K.plus (xors_ext n f g (λ j l. h j (omega arith))) (h n (omega arith))

  pub xors_ok : (n : ℕ) (f : ℕ → ℕ) → ((j : ℕ) → f j < K.many) → xor_of K n f < K.many
  unfolding xor_of
  xors_ok zero f h = pos
  xors_ok (suc n) f h = plus_ok (xor_of K n f) (f n) (xors_ok n f h) (h n)

  -- one summand moves by d
  xors_move : (n : ℕ) (f g : ℕ → ℕ) → ((j : ℕ) → f j < K.many) → (j : ℕ) (d : ℕ) → d < K.many → j < n
      → g j ≡ K.plus (f j) d → ((i : ℕ) → i < n → i ≢ j → g i ≡ f i)
      → xor_of K n g ≡ K.plus (xor_of K n f) d
  unfolding xor_of
  xors_move zero f g s j d k l e h = absurd (not-suc-le-zero l)
  xors_move (suc n) f g s j d k l e h =
      let o = xors_ok n f s in
      wire_cases n j
      (λ q. ap₂ K.plus (xors_ext n g f (λ i k. h i (omega arith) (omega arith))) (ap g q ∙ e ∙ ap (λ (i : ℕ). K.plus (f i) d) (sym q))
      ∙ sym (plus_assoc (xor_of K n f) (f n) d o (s n) k))
      (λ q. ap₂ K.plus (xors_move n f g s j d k (omega arith) e (λ i k. h i (omega arith))) (h n (omega arith) q)
      ∙ plus_assoc (xor_of K n f) d (f n) o k (s n) ∙ ap (K.plus (xor_of K n f)) (plus_comm d (f n) k (s n)) ∙ sym (plus_assoc (xor_of K n f) (f n) d o (s n) k))

  eqb_plus : (a b d : ℕ) → a < K.many → b < K.many → d < K.many → eqb (K.plus a d) (K.plus b d) ≡ eqb a b
  eqb_plus a b d p q k = eqb_iff (K.plus a d) (K.plus b d) a b
      (λ e. cancel K law d a b k p q (plus_comm d a k p ∙ e ∙ plus_comm b d q k)) (λ e. ap (λ (z : ℕ). K.plus z d) e)

  -- ---- the share word x splits secret i, splits the first S

  unfoldable pub splits_at : ℕ → List ℕ → (ℕ → ℕ) → ℕ → Bool
  splits_at D x sec i = eqb (xor_of K D (λ j. get_or x (i * D + j) 0)) (sec i)

  unfoldable pub splits_to : ℕ → ℕ → List ℕ → (ℕ → ℕ) → Bool
  splits_to S D x sec = all S (splits_at D x sec)

  -- adding d to share j of secret i adds it to the secret
  module _ (D : ℕ) (x : List ℕ) (sec sec' : ℕ → ℕ) (i j : ℕ) (j<D : j < D) (d : ℕ) (d-ok : d < K.many)
      (sx : Small K.many x) (so : (k : ℕ) → sec k < K.many)
      (here : sec' i ≡ K.plus (sec i) d) (else : (k : ℕ) → k ≢ i → sec' k ≡ sec k) (fits : i * D + j < length x) where
    abbrev x' : List ℕ
    x' = set x (i * D + j) (K.plus (get_or x (i * D + j) 0) d)

    split_here : eqb (xor_of K D (λ l. get_or x' (i * D + l) 0)) (sec' i) ≡ eqb (xor_of K D (λ l. get_or x (i * D + l) 0)) (sec i)
    split_here =
        ap₂ eqb
        (xors_move D (λ l. get_or x (i * D + l) 0) (λ l. get_or x' (i * D + l) 0) (λ l. sx (i * D + l)) j d d-ok j<D
        (get_or-set_same x (i * D + j) (K.plus (get_or x (i * D + j) 0) d) 0 fits)
        (λ l _ n. get_or-set_other x (i * D + j) (i * D + l) (K.plus (get_or x (i * D + j) 0) d) 0 (λ q. n (omega arith))))
        here
        ∙ eqb_plus (xor_of K D (λ l. get_or x (i * D + l) 0)) (sec i) d (xors_ok D (λ l. get_or x (i * D + l) 0) (λ l. sx (i * D + l))) (so i) d-ok

    splits_move : (S : ℕ) → splits_to S D x' sec' ≡ splits_to S D x sec
    unfolding splits_to splits_at
    splits_move S = all_ext S _ _ (λ k _. wire_cases k i
        (λ e. rw e split_here)
        (λ n. ap₂ eqb
        (xors_ext D (λ l. get_or x' (k * D + l) 0) (λ l. get_or x (k * D + l) 0)
        (λ l p. get_or-set_other x (i * D + j) (k * D + l) (K.plus (get_or x (i * D + j) 0) d) 0 (other_place D k l i j p j<D n)))
        (else k n)))

  pub splits_ext : (S D : ℕ) (x : List ℕ) (sec sec' : ℕ → ℕ) → ((k : ℕ) → k < S → sec k ≡ sec' k) → splits_to S D x sec ≡ splits_to S D x sec'
  unfolding splits_to splits_at
  splits_ext S D x sec sec' h = all_ext S _ _ (λ k l. ap (eqb (xor_of K D (λ j. get_or x (k * D + j) 0))) (h k l))

  -- ---- the starts: share words that split the secrets, and random words, each counted as F says of its wires

  unfoldable pub start_sum : Routine → ℕ → Set → (ℕ → ℕ) → List ℕ → ((ℕ → ℕ) → ℕ) → (ℕ → ℕ) → ℕ
  start_sum R m L₀ σ₀ y F sec =
      words K.many (R.S * R.D) (λ x. cond (splits_to R.S R.D x sec) (words K.many m (λ ρ. F (leaf_value K R L₀ σ₀ x ρ y))) 0)

  module _ (R : Routine) (ok : Earlier R) (P L₀ : Set) (σ₀ : ℕ → ℕ) (m : ℕ) (L : Set) (σ : ℕ → ℕ) (as-often : AsOften K R P m L₀ σ₀ L σ)
      (y : List ℕ) (sy : Small K.many y) (F : (ℕ → ℕ) → ℕ) (reads : Reads P F) where
    -- a secret with a share that is not live may change
    move : (sec sec' : ℕ → ℕ) → ((k : ℕ) → sec k < K.many) → (i j : ℕ) → i < R.S → j < R.D → (Live (net R) P L (i * R.D + j) → ⊥) → (d : ℕ) → d < K.many
        → sec' i ≡ K.plus (sec i) d → ((k : ℕ) → k ≢ i → sec' k ≡ sec k) → start_sum R m L₀ σ₀ y F sec ≡ start_sum R m L₀ σ₀ y F sec'
    unfolding start_sum
    move sec sec' so i j i<S j<D dead d d-ok here else =
        words_ext K.many pos (R.S * R.D) (part sec) (λ x. part sec' (to x)) (λ x len sx.
        ap₂ (λ (b : Bool) (c : ℕ). cond b c 0)
        (sym (splits_move R.D x sec sec' i j j<D d d-ok sx so here else (let f = inside in omega arith) R.S))
        (fixed K law R ok P L₀ σ₀ m L σ as-often x (to x) y
        (λ w l _. sym (get_or-set_other x (i * R.D + j) w (K.plus (get_or x (i * R.D + j) 0) d) 0 (λ q. dead (subst (Live (net R) P L) q l))))
        sx (small_set K.many pos x (i * R.D + j) (K.plus (get_or x (i * R.D + j) 0) d) sx
        (plus_ok (get_or x (i * R.D + j) 0) d (sx (i * R.D + j)) d-ok)) sy F reads))
        ∙ slide K.many pos (R.S * R.D) (i * R.D + j) inside (λ xs v. K.plus v d) (λ xs v. refl) (λ xs _. plus_perm_l K law d d-ok) (part sec')
      where
        part : (ℕ → ℕ) → List ℕ → ℕ
        part s x = cond (splits_to R.S R.D x s) (words K.many m (λ ρ. F (leaf_value K R L₀ σ₀ x ρ y))) 0

        to : List ℕ → List ℕ
        to x = set x (i * R.D + j) (K.plus (get_or x (i * R.D + j) 0) d)

        inside : i * R.D + j < R.S * R.D
        inside = place_inside R.S R.D i j i<S j<D

    -- the first secrets of one choice, the others of the other
    mix : (ℕ → ℕ) → (ℕ → ℕ) → ℕ → ℕ → ℕ
    mix sec sec' zero = sec
    mix sec sec' (suc i) = upd (mix sec sec' i) i (sec' i)

    mix_is : (sec sec' : ℕ → ℕ) (n k : ℕ) → k < n → mix sec sec' n k ≡ sec' k
    unfolding mix
    mix_is sec sec' zero k h = absurd (not-suc-le-zero h)
    mix_is sec sec' (suc n) k h = wire_cases k n
        (λ e. upd_same (mix sec sec' n) n (sec' n) k e ∙ ap sec' (sym e))
        (λ q. upd_other (mix sec sec' n) n (sec' n) k q ∙ mix_is sec sec' n k (omega arith))

    module _ (spare : (i : ℕ) → i < R.S → (j : ℕ) × (j < R.D) × (Live (net R) P L (i * R.D + j) → ⊥))
        (sec sec' : ℕ → ℕ) (so : (k : ℕ) → sec k < K.many) (so' : (k : ℕ) → sec' k < K.many) where
      mix_ok : (n k : ℕ) → mix sec sec' n k < K.many
      unfolding mix
      mix_ok zero k = so k
      mix_ok (suc n) k = wire_cases k n
          (λ e. subst (λ (z : ℕ). z < K.many) (sym (upd_same (mix sec sec' n) n (sec' n) k e)) (so' n))
          (λ e. subst (λ (z : ℕ). z < K.many) (sym (upd_other (mix sec sec' n) n (sec' n) k e)) (mix_ok n k))

      mixed : (n : ℕ) → n ≤ R.S → start_sum R m L₀ σ₀ y F sec ≡ start_sum R m L₀ σ₀ y F (mix sec sec' n)
      unfolding mix
      mixed zero h = refl
      mixed (suc i) h =
          let s = spare i h in
          let at = mix sec sec' i in
          mixed i (omega arith)
          ∙ move at (upd at i (sec' i)) (mix_ok i) i s.0 h s.1 s.2 (K.plus (at i) (sec' i)) (plus_ok (at i) (sec' i) (mix_ok i i) (so' i))
          (upd_same at i (sec' i) i refl ∙ sym (plus_back (at i) (sec' i) (mix_ok i i) (so' i))) (λ k n. upd_other at i (sec' i) k n)

      -- with a share of each secret that is not live, the secrets do not show
      pub secret_free : start_sum R m L₀ σ₀ y F sec ≡ start_sum R m L₀ σ₀ y F sec'
      unfolding start_sum
      secret_free =
          mixed R.S (le_refl R.S)
          ∙ words_ext K.many pos (R.S * R.D) _ _
          (λ x _ _. ap (λ (b : Bool). cond b (words K.many m (λ ρ. F (leaf_value K R L₀ σ₀ x ρ y))) 0)
          (splits_ext R.S R.D x (mix sec sec' R.S) sec' (mix_is sec sec' R.S)))
