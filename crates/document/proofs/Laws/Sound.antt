-- What a well-formed routine is to the rule: operands are earlier wires, shares come first, the randoms are the first leaves, each with a slot of its own.
use Rattle.std.specs.Prelude.{◌≡◌, Bool, true, false, not, ◌&&◌, ◌||◌, cond, List, [], ◌∷◌, ℕ, zero, suc, ◌+◌, ◌*◌, ◌/◌, ◌%◌, ◌≤◌, ◌<◌, eqb, ltb, leb, length}
use Rattle.std.proofs.Math.Path.{refl, subst}
use Rattle.std.proofs.Common.{ap, ap₂, ◌∙◌, inl, inr, mul-le-mul_right, arith}
use Rattle.std.proofs.Math.Decide.{dec_le}
use Rattle.std.proofs.Math.ListN.{get_or-eq_default}
use Rattle.std.proofs.lemmas.List.{length-replicate}
use Rattle.data.specs.Basics.{tally, all, at}
use Rattle.document.specs.Routine.{Routine, size, blank, wire, is_rand, rands_before, operands_of, operands}
use Rattle.document.specs.Routine.{in_range, fits, record_fits_lem, ceilings, well_formed}
use Rattle.document.specs.Padding.{unmarked, rands_from, first_leaves, pads_of, pads}
use Rattle.data.proofs.Laws.Tests.{clash, out_of, and_l, and_r, and_i, and_false, ltb_true, leb_true, true_leb, wire_cases, all_at, tally_le, tally_skip, tally_apart, Mem}
use Rattle.document.proofs.Laws.Marks.{Set, In, mark_length_lem, mark_cases, mark_marks, none_marked}
use Rattle.document.proofs.Laws.Live.{Earlier, Within}
use Rattle.document.proofs.Laws.Steps.{has_pad, room}
use Rattle.document.proofs.Laws.Counting.{Slots}
use Rattle.data.specs.declared.Kind.{Kind}
use Rattle.data.specs.declared.Kind.TheVariants.{Share, Rand, Pub, Xor, And, Not}
use Rattle.data.specs.declared.Wire.{Wire}

pub record Sound (R : Routine) : Type 0 where
  pub earlier : Earlier R
  pub within : Within R
  pub shares : R.S * R.D ≤ size R
  pub few : size R ≤ 128
  pub some_secret : 1 ≤ R.S
  pub some_shares : 2 ≤ R.D
  pub few_secrets : R.S ≤ 8
  pub few_shares : R.D ≤ 8
  pub kinds : (w : ℕ) → w < R.S * R.D → (wire R w).kind ≡ Share
  pub places : (w : ℕ) → w < size R → (wire R w).kind ≡ Share → w < R.S * R.D

two_earlier : (w a b v : ℕ) (c : Bool) → (c && ltb a w && ltb b w) ≡ true → Mem v (a ∷ b ∷ []) → v < w
two_earlier w a b v c e (inl q) = omega (arith, ltb_true a w (and_r c (ltb a w) (and_l (c && ltb a w) (ltb b w) e)))
two_earlier w a b v c e (inr (inl q)) = omega (arith, ltb_true b w (and_r (c && ltb a w) (ltb b w) e))
two_earlier w a b v c e (inr (inr q)) = absurd q

fits_earlier : (R : Routine) (w : ℕ) (k : Kind) (a b v : ℕ) → fits R w k a b ≡ true → Mem v (operands_of k a b) → v < w
unfolding fits operands_of
fits_earlier R w Share a b v e m = absurd m
fits_earlier R w Rand a b v e m = absurd m
fits_earlier R w Pub a b v e m = absurd m
fits_earlier R w Xor a b v e m = two_earlier w a b v (leb (R.S * R.D) w) e m
fits_earlier R w And a b v e m = two_earlier w a b v (leb (R.S * R.D) w) e m
fits_earlier R w Not a b v e (inl q) =
    omega (arith, ltb_true a w (and_r (leb (R.S * R.D) w) (ltb a w) (and_l (leb (R.S * R.D) w && ltb a w) (eqb b 0) e)))
fits_earlier R w Not a b v e (inr q) = absurd q

-- the first of three tests
first_of : (a b c : Bool) → (a && b && c) ≡ true → a ≡ true
first_of a b c e = and_l a b (and_l (a && b) c e)

-- a wire below S times D that fits is a share
fits_share : (R : Routine) (w : ℕ) (k : Kind) (a b : ℕ) → fits R w k a b ≡ true → w < R.S * R.D → k ≡ Share
unfolding fits
fits_share R w Share a b e h = refl
fits_share R w Rand a b e h = absurd (omega (arith, leb_true (R.S * R.D) w (first_of (leb (R.S * R.D) w) (eqb a 0) (eqb b 0) e)))
fits_share R w Pub a b e h = absurd (omega (arith, leb_true (R.S * R.D) w (first_of (leb (R.S * R.D) w) (eqb a 0) (eqb b 0) e)))
fits_share R w Xor a b e h = absurd (omega (arith, leb_true (R.S * R.D) w (first_of (leb (R.S * R.D) w) (ltb a w) (ltb b w) e)))
fits_share R w And a b e h = absurd (omega (arith, leb_true (R.S * R.D) w (first_of (leb (R.S * R.D) w) (ltb a w) (ltb b w) e)))
fits_share R w Not a b e h = absurd (omega (arith, leb_true (R.S * R.D) w (first_of (leb (R.S * R.D) w) (ltb a w) (eqb b 0) e)))

-- a record past the end is blank
past : (R : Routine) (u : ℕ) → size R ≤ u → wire R u ≡ blank
past R u h = get_or-eq_default R.wires blank h

pub within_of : (R : Routine) → Within R
unfolding operands operands_of
within_of R u v m = go (dec_le (size R) u)
  where
    go : Dec (size R ≤ u) → u < size R
    go (yes l) = absurd (subst (λ (x : Wire). Mem v (operands_of x.kind x.a x.b)) (past R u l) m)
    go (no l) = omega arith

module _ (R : Routine) (good : well_formed R ≡ true) where
  ranged : in_range R.S R.D ≡ true
  unfolding well_formed
  ranged = search (and_l, and_r)

  room_for_shares : leb (R.S * R.D) (size R) ≡ true
  unfolding well_formed
  room_for_shares = search (and_l, and_r)

  under : ceilings R ≡ true
  unfolding well_formed
  under = search (and_l, and_r)

  records : all (size R) (record_fits_lem R) ≡ true
  unfolding well_formed
  records = search (and_l, and_r)

  pub record_at_lem : (w : ℕ) → w < size R → fits R w (wire R w).kind (wire R w).a (wire R w).b ≡ true
  unfolding record_fits_lem
  record_at_lem w h = all_at (size R) (record_fits_lem R) records w h

  pub sound : Sound R
  unfolding in_range ceilings fits operands pads
  sound = record {
    earlier = λ u v m. fits_earlier R u (wire R u).kind (wire R u).a (wire R u).b v (record_at_lem u (within_of R u v m)) m;
    within = within_of R;
    shares = leb_true (R.S * R.D) (size R) room_for_shares;
    few = leb_true (size R) 128 (let z = under in search (and_l, and_r));
    some_secret = leb_true 1 R.S (let z = ranged in search (and_l, and_r));
    some_shares = leb_true 2 R.D (let z = ranged in search (and_l, and_r));
    few_secrets = leb_true R.S 8 (let z = ranged in search (and_l, and_r));
    few_shares = leb_true R.D 8 (let z = ranged in search (and_l, and_r));
    kinds = λ w h. fits_share R w (wire R w).kind (wire R w).a (wire R w).b
        (record_at_lem w (let z = leb_true (R.S * R.D) (size R) room_for_shares in omega arith)) h;
    places = λ w h s. ltb_true w (R.S * R.D) (first_of (ltb w (R.S * R.D)) (eqb (wire R w).a (w / R.D)) (eqb (wire R w).b (w % R.D))
        (subst (λ (k : Kind). fits R w k (wire R w).a (wire R w).b ≡ true) s (record_at_lem w h)));
  }

-- shares have no pads, so the wires with pads are no shares
bare : (R : Routine) → Sound R → (w : ℕ) → w < R.S * R.D → has_pad (pads R w) ≡ false
unfolding pads pads_of has_pad
bare R so w h = ap (λ (k : Kind). has_pad (pads_of k (wire R w).a (wire R w).b)) (so.kinds w h)

pub few_rooms : (R : Routine) → Sound R → (L : List Bool) → R.S * R.D + room R L ≤ size R
unfolding room
few_rooms R so L = tally_skip _ (R.S * R.D) (size R) so.shares (λ u h. and_false (not (at L u)) (has_pad (pads R u)) (bare R so u h))

-- there are at least two shares
pub shares_two : (R : Routine) → Sound R → 2 ≤ R.S * R.D
shares_two R so = let a = so.some_shares in let b = mul-le-mul_right R.D so.some_secret in omega arith

-- ---- wires that are neither shares nor randoms

-- the number of such a wire, and its kind
unfoldable pub is_other : Routine → ℕ → Bool
is_other R w = leb (R.S * R.D) w && not (is_rand (wire R w).kind)

-- a wire that has something to be padded by is one
pub padded_other : (R : Routine) → Sound R → (w r : ℕ) → Mem r (pads R w) → is_other R w ≡ true
unfolding is_other pads pads_of
padded_other R so w r m = and_i (leb (R.S * R.D) w) (not (is_rand (wire R w).kind))
    (go (dec_le (R.S * R.D) w)) (no_random (wire R w).kind (wire R w).a (wire R w).b m)
  where
    no_random : (k : Kind) (a b : ℕ) → Mem r (pads_of k a b) → not (is_rand k) ≡ true
    no_random Share a b m = refl
    no_random Rand a b m = absurd m
    no_random Pub a b m = refl
    no_random Xor a b m = refl
    no_random And a b m = refl
    no_random Not a b m = refl

    no_share : (k : Kind) (a b : ℕ) → Mem r (pads_of k a b) → k ≡ Share → ⊥
    no_share k a b m e = subst (λ (k : Kind). Mem r (pads_of k a b)) e m

    go : Dec (R.S * R.D ≤ w) → leb (R.S * R.D) w ≡ true
    go (yes l) = true_leb (R.S * R.D) w l
    go (no l) = absurd (no_share (wire R w).kind (wire R w).a (wire R w).b m (so.kinds w (omega arith)))

-- with the shares and the randoms they are no more than all wires
pub others_few : (R : Routine) → Sound R → R.S * R.D + rands_before R (size R) + tally (size R) (is_other R) ≤ size R
unfolding rands_before is_other
others_few R so =
    let rands : ℕ → Bool = λ w. is_rand (wire R w).kind in
    let a = tally_apart (size R) rands (is_other R) (λ w _ e. and_false (leb (R.S * R.D) w) (not (rands w)) (ap not e)) in
    let b = tally_skip (λ w. rands w || is_other R w) (R.S * R.D) (size R) so.shares (λ w h. ap₂ ◌||◌
    (ap is_rand (so.kinds w h)) (out_of (λ e. let z = leb_true (R.S * R.D) w (and_l (leb (R.S * R.D) w) (not (rands w)) e) in omega arith))) in
    omega arith

-- ---- the first leaves

rands→ : (R : Routine) (m lo v : ℕ) → Mem v (rands_from R m lo) → is_rand (wire R v).kind ≡ true
unfolding rands_from
rands→ R zero lo v h = absurd h
rands→ R (suc m) lo v h = go (is_rand (wire R lo).kind) refl h (rands→ R m (suc lo) v)
  where
    go : (b : Bool) → is_rand (wire R lo).kind ≡ b → Mem v (cond b (lo ∷ rands_from R m (suc lo)) (rands_from R m (suc lo)))
        → (Mem v (rands_from R m (suc lo)) → is_rand (wire R v).kind ≡ true) → is_rand (wire R v).kind ≡ true
    go true e (inl q) rest = rw q e
    go true e (inr i) rest = rest i
    go false e i rest = rest i

rands← : (R : Routine) (m lo v : ℕ) → lo ≤ v → v < lo + m → is_rand (wire R v).kind ≡ true → Mem v (rands_from R m lo)
unfolding rands_from
rands← R zero lo v h l e = absurd (omega arith)
rands← R (suc m) lo v h l e = go (is_rand (wire R lo).kind) refl (λ k. rands← R m (suc lo) v k (omega arith) e)
  where
    go : (b : Bool) → is_rand (wire R lo).kind ≡ b → (suc lo ≤ v → Mem v (rands_from R m (suc lo)))
        → Mem v (cond b (lo ∷ rands_from R m (suc lo)) (rands_from R m (suc lo)))
    go true q rest = wire_cases v lo inl (λ n. inr (rest (omega arith)))
    go false q rest = wire_cases v lo (λ n. clash (subst (λ (k : ℕ). is_rand (wire R k).kind ≡ true) n e) q) (λ n. rest (omega arith))

pub rand_below : (R : Routine) (u : ℕ) → is_rand (wire R u).kind ≡ true → u < size R
rand_below R u i = go (dec_le (size R) u)
  where
    go : Dec (size R ≤ u) → u < size R
    go (yes l) = clash i (ap (λ (x : Wire). is_rand x.kind) (past R u l))
    go (no l) = omega arith

pub first_length : (R : Routine) → length (first_leaves R) ≡ 128
unfolding first_leaves
first_length R = mark_length_lem (rands_from R (size R) 0) unmarked ∙ length-replicate 128 false

-- 3.4: the first leaves are the randoms
pub first_leaf→ : (R : Routine) (v : ℕ) → In (at (first_leaves R)) v → is_rand (wire R v).kind ≡ true
unfolding first_leaves
first_leaf→ R v i = mark_cases (rands_from R (size R) 0) unmarked v i (rands→ R (size R) 0 v) (λ j. clash j (none_marked 128 v))

pub first_leaf← : (R : Routine) → size R ≤ 128 → (v : ℕ) → is_rand (wire R v).kind ≡ true → In (at (first_leaves R)) v
unfolding first_leaves
first_leaf← R few v e =
    let h = rand_below R v e in
    let z : length unmarked ≡ 128 = length-replicate 128 false in
    mark_marks (rands_from R (size R) 0) unmarked v (rands← R (size R) 0 v (omega arith) (omega arith) e) (omega arith)

-- ---- the slots of randoms: each its own

slot_next : (R : Routine) (u v : ℕ) → is_rand (wire R u).kind ≡ true → u < v → rands_before R u < rands_before R v
unfolding rands_before tally
slot_next R u v i h =
    let f : ℕ → Bool = λ k. is_rand (wire R k).kind in
    let b : tally (suc u) f ≤ tally v f = tally_le f (suc u) v h in
    let c : 1 + tally u f ≤ tally v f = rw i at b in
    omega arith

pub first_slots : (R : Routine) (P : Set) → Slots R P (at (first_leaves R)) (rands_before R) (rands_before R (size R))
first_slots R P = record {
  low = λ u i. slot_next R u (size R) (first_leaf→ R u i) (rand_below R u (first_leaf→ R u i));
  apart = λ u v _ _ i j e. one_of u v (λ h. slot_next R u v (first_leaf→ R u i) h) (λ h. slot_next R v u (first_leaf→ R v j) h) e;
}
  where
    one_of : (u v : ℕ) → (u < v → rands_before R u < rands_before R v) → (v < u → rands_before R v < rands_before R u) → rands_before R u ≡ rands_before R v → u ≡ v
    one_of u v f g e =
        let a : ¬ (u < v) = λ h. let z = f h in omega arith in
        let b : ¬ (v < u) = λ h. let z = g h in omega arith in
        omega arith
