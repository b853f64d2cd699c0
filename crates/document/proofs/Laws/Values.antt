-- The laws that a kind of value must have, bits among them; and the values of wires of which some are leaves that show a draw.
use Rattle.std.specs.Prelude.{◌≡◌, Bool, ◌⊎◌, ◌≢◌, List, [], get_or}
use Rattle.std.proofs.Math.Path.{refl, ap, ap₂}
use Rattle.std.proofs.Common.{sym, ◌∙◌, inl, inr, not-suc-le-zero, mod-lt, zero-lt-suc, arith, lit<}
use Rattle.std.proofs.Math.Bool.{true, false, cond}
use Prim.Native.Nat.{ℕ, zero, suc, ◌+◌, ◌*◌, ◌/◌, ◌%◌, ◌<◌}
use Rattle.std.proofs.Math.Arith.{bin_ind}
use Rattle.std.specs.Int.Bits.{bit_xor, differ, xor_step, and_lt, xor_self, xor_zero_l}
use Rattle.std.proofs.lemmas.Nat.{xor_shr, xor_mod, xor_comm, xor_lt}
use Rattle.document.specs.Routine.{Routine, wire, rands_before, pubs_before, operands_of, operands}
use Rattle.document.specs.Running.{Value, bit, gives, value_at}
use Rattle.document.specs.Padding.{pads_of, pads}
use Rattle.data.proofs.Laws.Tests.{cond_true, cond_false, Mem}
use Rattle.document.proofs.Laws.Marks.{Set, In, Out}
use Rattle.document.specs.Starts.{upd, value_within, leaf_value, OneToOne, Small}
use Rattle.document.proofs.Laws.Sums.{upd_same, upd_other, perm_ext}
use Rattle.document.proofs.Laws.Live.{xor_pads, Earlier}
use Rattle.data.specs.declared.Kind.{Kind}
use Rattle.data.specs.declared.Kind.TheVariants.{Share, Rand, Pub, Xor, And, Not}

-- ---- lawful kinds of value

pub record Lawful (K : Value) : Type 0 where
  pub pos : 0 < K.many
  pub plus_ok : (a b : ℕ) → a < K.many → b < K.many → K.plus a b < K.many
  pub times_ok : (a b : ℕ) → a < K.many → b < K.many → K.times a b < K.many
  pub turn_ok : (a : ℕ) → a < K.many → K.turn a < K.many
  pub plus_assoc : (a b c : ℕ) → a < K.many → b < K.many → c < K.many → K.plus (K.plus a b) c ≡ K.plus a (K.plus b c)
  pub plus_comm : (a b : ℕ) → a < K.many → b < K.many → K.plus a b ≡ K.plus b a
  pub plus_back : (a b : ℕ) → a < K.many → b < K.many → K.plus a (K.plus a b) ≡ b
  pub turn_apart : (a b : ℕ) → a < K.many → b < K.many → K.turn a ≡ K.turn b → a ≡ b

digit : (x y z : ℕ) → x < 2 → y < 2 → z < 2 → differ (bit_xor x y) z ≡ differ x (bit_xor y z)
digit zero zero zero h k l = refl
digit zero zero (suc zero) h k l = refl
digit zero (suc zero) zero h k l = refl
digit zero (suc zero) (suc zero) h k l = refl
digit (suc zero) zero zero h k l = refl
digit (suc zero) zero (suc zero) h k l = refl
digit (suc zero) (suc zero) zero h k l = refl
digit (suc zero) (suc zero) (suc zero) h k l = refl
digit (suc (suc x)) y z h k l = absurd (omega arith)
digit zero (suc (suc y)) z h k l = absurd (omega arith)
digit (suc zero) (suc (suc y)) z h k l = absurd (omega arith)
digit zero zero (suc (suc z)) h k l = absurd (omega arith)
digit zero (suc zero) (suc (suc z)) h k l = absurd (omega arith)
digit (suc zero) zero (suc (suc z)) h k l = absurd (omega arith)
digit (suc zero) (suc zero) (suc (suc z)) h k l = absurd (omega arith)

pub xor_assoc : (a b c : ℕ) → bit_xor (bit_xor a b) c ≡ bit_xor a (bit_xor b c)
xor_assoc = bin_ind (λ (a : ℕ). (b c : ℕ) → bit_xor (bit_xor a b) c ≡ bit_xor a (bit_xor b c)) (λ b c. refl) (λ a ih b c.
    xor_step (bit_xor a b) c
    ∙ ap₂ (λ (x y : ℕ). x * 2 + y)
    (ap (λ (x : ℕ). bit_xor x (c / 2)) (xor_shr a b 1) ∙ ih (b / 2) (c / 2) ∙ ap (bit_xor (a / 2)) (sym (xor_shr b c 1)))
    (ap (λ (x : ℕ). differ x (c % 2)) (xor_mod a b 1)
    ∙ digit (a % 2) (b % 2) (c % 2) (mod-lt a (zero-lt-suc 1)) (mod-lt b (zero-lt-suc 1)) (mod-lt c (zero-lt-suc 1))
    ∙ ap (differ (a % 2)) (sym (xor_mod b c 1)))
    ∙ sym (xor_step a (bit_xor b c)))

pub xor_back : (a b : ℕ) → bit_xor a (bit_xor a b) ≡ b
xor_back a b = sym (xor_assoc a a b) ∙ ap (λ (x : ℕ). bit_xor x b) (xor_self a) ∙ xor_zero_l b

pub bit_lawful : Lawful bit
bit_lawful = record {
  pos = lit< tt;
  plus_ok = xor_lt 1;
  times_ok = and_lt 1;
  turn_ok = λ a h. omega arith;
  plus_assoc = λ a b c _ _ _. xor_assoc a b c;
  plus_comm = λ a b _ _. xor_comm a b;
  plus_back = λ a b _ _. xor_back a b;
  turn_apart = λ a b h k e. omega arith;
}

module _ (K : Value) (law : Lawful K) where
  open law use {pos, plus_ok, times_ok, turn_ok, plus_comm, plus_back, turn_apart}

  pub cancel : (c u v : ℕ) → c < K.many → u < K.many → v < K.many → K.plus c u ≡ K.plus c v → u ≡ v
  cancel c u v k a b e = sym (plus_back c u k a) ∙ ap (K.plus c) e ∙ plus_back c v k b

  pub plus_perm_r : (c : ℕ) → c < K.many → OneToOne K.many (λ v. K.plus c v)
  plus_perm_r c k = record { stays = λ v l. plus_ok c v k l; apart = λ u v a b e. cancel c u v k a b e }

  pub plus_perm_l : (c : ℕ) → c < K.many → OneToOne K.many (λ v. K.plus v c)
  plus_perm_l c k = record { stays = λ v l. plus_ok v c l k; apart = λ u v a b e. cancel c u v k a b (plus_comm c u k a ∙ e ∙ plus_comm v c b k) }

  turn_perm : OneToOne K.many K.turn
  turn_perm = record { stays = turn_ok; apart = turn_apart }

  -- ---- what a wire gives

  gives_ok : (k : Kind) (s r p a b : ℕ) → s < K.many → r < K.many → p < K.many → a < K.many → b < K.many → gives K k s r p a b < K.many
  unfolding gives
  gives_ok Share s r p a b hs hr hp ha hb = hs
  gives_ok Rand s r p a b hs hr hp ha hb = hr
  gives_ok Pub s r p a b hs hr hp ha hb = hp
  gives_ok Xor s r p a b hs hr hp ha hb = plus_ok a b ha hb
  gives_ok And s r p a b hs hr hp ha hb = times_ok a b ha hb
  gives_ok Not s r p a b hs hr hp ha hb = turn_ok a ha

  -- it reads its operands only
  gives_ext : (k : Kind) (x y s r p : ℕ) (e e' : ℕ → ℕ) → ((v : ℕ) → Mem v (operands_of k x y) → e v ≡ e' v)
      → gives K k s r p (e x) (e y) ≡ gives K k s r p (e' x) (e' y)
  unfolding gives operands_of
  gives_ext Share x y s r p e e' h = refl
  gives_ext Rand x y s r p e e' h = refl
  gives_ext Pub x y s r p e e' h = refl
  gives_ext Xor x y s r p e e' h = ap₂ K.plus (h x (inl refl)) (h y (inr (inl refl)))
  gives_ext And x y s r p e e' h = ap₂ K.times (h x (inl refl)) (h y (inr (inl refl)))
  gives_ext Not x y s r p e e' h = ap K.turn (h x (inl refl))

  -- only a share reads the share word
  gives_share : (k : Kind) (s s' r p a b : ℕ) → (k ≡ Share → s ≡ s') → gives K k s r p a b ≡ gives K k s' r p a b
  unfolding gives
  gives_share Share s s' r p a b h = h refl
  gives_share Rand s s' r p a b h = refl
  gives_share Pub s s' r p a b h = refl
  gives_share Xor s s' r p a b h = refl
  gives_share And s s' r p a b h = refl
  gives_share Not s s' r p a b h = refl

  -- ---- what a step promises (9.34): a wire is a one-to-one function of what it can be padded by, whatever the other wires hold

  -- an xor of two different wires, by either of them
  xor_one_to_one : (x y r : ℕ) → x ≢ y → (r ≡ x) ⊎ (r ≡ y) → (e : ℕ → ℕ) → ((v : ℕ) → e v < K.many)
      → OneToOne K.many (λ v. K.plus (upd e r v x) (upd e r v y))
  xor_one_to_one x y r n (inl q) e h = perm_ext K.many (λ v. K.plus v (e y)) (λ v. K.plus (upd e r v x) (upd e r v y))
      (λ v. sym (ap₂ K.plus (upd_same e r v x (sym q)) (upd_other e r v y (λ z. n (sym (z ∙ q)))))) (plus_perm_l (e y) (h y))
  xor_one_to_one x y r n (inr q) e h = perm_ext K.many (λ v. K.plus (e x) v) (λ v. K.plus (upd e r v x) (upd e r v y))
      (λ v. sym (ap₂ K.plus (upd_other e r v x (λ z. n (z ∙ q))) (upd_same e r v y (sym q)))) (plus_perm_r (e x) (h x))

  -- a not, by its operand
  not_one_to_one : (x r : ℕ) → r ≡ x → (e : ℕ → ℕ) → OneToOne K.many (λ v. K.turn (upd e r v x))
  not_one_to_one x r q e = perm_ext K.many K.turn (λ v. K.turn (upd e r v x)) (λ v. ap K.turn (sym (upd_same e r v x (sym q)))) turn_perm

  gives_one_to_one : (k : Kind) (x y r : ℕ) → Mem r (pads_of k x y) → (s q p : ℕ) (e : ℕ → ℕ) → ((v : ℕ) → e v < K.many)
      → OneToOne K.many (λ v. gives K k s q p (upd e r v x) (upd e r v y))
  unfolding gives pads_of
  gives_one_to_one Share x y r m s q p e h = absurd m
  gives_one_to_one Rand x y r m s q p e h = absurd m
  gives_one_to_one Pub x y r m s q p e h = absurd m
  gives_one_to_one Xor x y r m s q p e h = let two = xor_pads x y r m in xor_one_to_one x y r two.0 two.1 e h
  gives_one_to_one And x y r m s q p e h = absurd m
  gives_one_to_one Not x y r (inl i) s q p e h = not_one_to_one x r i e
  gives_one_to_one Not x y r (inr i) s q p e h = absurd i

  -- ---- the same of a routine's wire; a random that is no leaf reads nothing

  module _ (R : Routine) where
    abbrev pub inner_value : List ℕ → List ℕ → (ℕ → ℕ) → ℕ → ℕ
    inner_value x y e w = value_at K R x [] y e w

    pub inner_ext : (x y : List ℕ) (e e' : ℕ → ℕ) (w : ℕ) → ((v : ℕ) → Mem v (operands R w) → e v ≡ e' v) → inner_value x y e w ≡ inner_value x y e' w
    unfolding value_at operands
    inner_ext x y e e' w h = gives_ext (wire R w).kind (wire R w).a (wire R w).b (get_or x w 0) 0 (get_or y (pubs_before R w) 0) e e' h

    pub inner_share : (x x' y : List ℕ) (e : ℕ → ℕ) (w : ℕ) → ((wire R w).kind ≡ Share → get_or x w 0 ≡ get_or x' w 0) → inner_value x y e w ≡ inner_value x' y e w
    unfolding value_at
    inner_share x x' y e w h = gives_share (wire R w).kind (get_or x w 0) (get_or x' w 0) 0 (get_or y (pubs_before R w) 0) (e (wire R w).a) (e (wire R w).b) h

    pub inner_ok : (x y : List ℕ) (e : ℕ → ℕ) (w : ℕ) → Small K.many x → Small K.many y → ((v : ℕ) → e v < K.many) → inner_value x y e w < K.many
    unfolding value_at
    inner_ok x y e w sx sy h =
        gives_ok (wire R w).kind (get_or x w 0) 0 (get_or y (pubs_before R w) 0) (e (wire R w).a) (e (wire R w).b)
        (sx w) pos (sy (pubs_before R w)) (h (wire R w).a) (h (wire R w).b)

    pub pad_one_to_one : (x ρ y : List ℕ) (w r : ℕ) → Mem r (pads R w) → (e : ℕ → ℕ) → ((v : ℕ) → e v < K.many)
        → OneToOne K.many (λ v. value_at K R x ρ y (upd e r v) w)
    unfolding value_at pads
    pad_one_to_one x ρ y w r m e h =
        gives_one_to_one (wire R w).kind (wire R w).a (wire R w).b r m (get_or x w 0) (get_or ρ (rands_before R w) 0) (get_or y (pubs_before R w) 0) e h

    -- ---- the value of a wire when the leaves L show draw σ of the random word ρ

    module _ (ok : Earlier R) (L : Set) (σ : ℕ → ℕ) (x ρ y : List ℕ) where
      abbrev within : ℕ → ℕ → ℕ
      within = value_within K R L σ x ρ y

      abbrev val : ℕ → ℕ
      val = leaf_value K R L σ x ρ y

      small : Small K.many x → Small K.many ρ → Small K.many y → (k w : ℕ) → within k w < K.many
      unfolding value_within
      small sx sρ sy zero w = pos
      small sx sρ sy (suc k) w = go (L w) (small sx sρ sy k)
        where
          go : (b : Bool) → ((v : ℕ) → within k v < K.many) → cond b (get_or ρ (σ w) 0) (inner_value x y (within k) w) < K.many
          go true ih = sρ (σ w)
          go false ih = inner_ok x y (within k) w sx sy ih

      enough : (k j w : ℕ) → w < k → w < j → within k w ≡ within j w
      unfolding value_within
      enough zero j w h l = absurd (not-suc-le-zero h)
      enough (suc k) zero w h l = absurd (not-suc-le-zero l)
      enough (suc k) (suc j) w h l = ap (cond (L w) (get_or ρ (σ w) 0))
          (inner_ext x y (within k) (within j) w (λ v o. let q : v < w = ok w v o in enough k j v (omega arith) (omega arith)))

      value_wire : (w : ℕ) → val w ≡ cond (L w) (get_or ρ (σ w) 0) (inner_value x y val w)
      unfolding value_within leaf_value
      value_wire w = ap (cond (L w) (get_or ρ (σ w) 0))
          (inner_ext x y (within w) val w (λ v o. let q : v < w = ok w v o in enough w (suc v) v q (omega arith)))

      pub value_ok : Small K.many x → Small K.many ρ → Small K.many y → (w : ℕ) → leaf_value K R L σ x ρ y w < K.many
      unfolding leaf_value
      value_ok sx sρ sy w = small sx sρ sy (suc w) w

      pub value_leaf : (w : ℕ) → In L w → leaf_value K R L σ x ρ y w ≡ get_or ρ (σ w) 0
      value_leaf w i = value_wire w ∙ cond_true _ _ i

      pub value_inner : (w : ℕ) → Out L w → leaf_value K R L σ x ρ y w ≡ value_at K R x [] y (leaf_value K R L σ x ρ y) w
      value_inner w o = value_wire w ∙ cond_false _ _ o
