-- The next step found by the counts of consumers is the rule's.
use Rattle.std.specs.Prelude.{◌≡◌, Bool, ◌||◌, List, [], ◌∷◌, length, get_or}
use Rattle.std.proofs.Math.Path.{refl, ap, ap₂}
use Rattle.std.proofs.Common.{sym, ◌∙◌, inl, inr, add-one, eq-eqb, ne_eqb}
use Rattle.std.proofs.Math.Bool.{true, false, not, ◌&&◌, cond}
use Rattle.std.proofs.Math.Option.{Option, none, some}
use Prim.Native.Nat.{ℕ, suc, ◌+◌, ◌-◌, ◌≤◌, ◌<◌, zero-le, min, max}
use native.Mathlib.Omega.{arith}
use Rattle.std.proofs.Math.Dec.{eqb}
use Rattle.data.specs.Basics.{elem, Marks, at}
use Rattle.document.specs.Padding.{pads_of, pads, consumes, only_consumer, serves, pads_by, first_pad, lowest_pad}
use Rattle.document.specs.Routine.{operands_of, operands}
use Rattle.data.proofs.Laws.Tests.{and_i, Mem, elem←}
use Rattle.document.proofs.Laws.Live.{pad_op_of}
use Rattle.data.specs.declared.Kind.{Kind}
use Rattle.data.specs.declared.Kind.TheVariants.{Share, Rand, Pub, Xor, And, Not}
use Rattle.data.specs.declared.Wire.{Wire}
use Rattle.data.specs.declared.Step.{Step}
use Rattle.counts.specs.Counting.{record_at}
use Rattle.marks.specs.Passes.{only_wires, Marked}
use Rattle.consumers.specs.Consumers.{Consumers}
use Rattle.consumers.proofs.Laws.Consumers.{counts_all, only_counted}
use Rattle.std.specs.Prelude.{Option as Found, Some, None}
use Rattle.std.specs.Option.{option_or}
use Rattle.std.specs.Bool.{then_some}
use Rattle.step.specs.Next.{step_in, serves_by, pad_at}

-- the first step found, or else the other
unfoldable pub or_else : Option Step → Option Step → Option Step
or_else none later = later
or_else (some s) later = some s

first_or : (f : ℕ → Bool) (w : ℕ) (rs : List ℕ) (later : Option Step) → first_pad f w rs later ≡ or_else (first_pad f w rs none) later
unfolding first_pad or_else
first_or f w [] later = refl
first_or f w (r ∷ rs) later = go (f r) (first_or f w rs later)
  where
    go : (b : Bool) → first_pad f w rs later ≡ or_else (first_pad f w rs none) later
        → cond b (some (record { w = w; r = r })) (first_pad f w rs later) ≡ or_else (cond b (some (record { w = w; r = r })) (first_pad f w rs none)) later
    go true e = refl
    go false e = e

first_same : (f g : ℕ → Bool) (w : ℕ) (rs : List ℕ) (later : Option Step) → ((r : ℕ) → Mem r rs → f r ≡ g r) → first_pad f w rs later ≡ first_pad g w rs later
unfolding first_pad
first_same f g w [] later h = refl
first_same f g w (r ∷ rs) later h =
    ap₂ (λ (b : Bool) (o : Option Step). cond b (some (record { w = w; r = r })) o) (h r (inl refl)) (first_same f g w rs later (λ v m. h v (inr m)))

first_never : (f : ℕ → Bool) (w : ℕ) (rs : List ℕ) (later : Option Step) → ((r : ℕ) → f r ≡ false) → first_pad f w rs later ≡ later
unfolding first_pad
first_never f w [] later h = refl
first_never f w (r ∷ rs) later h = ap (λ (b : Bool). cond b (some (record { w = w; r = r })) (first_pad f w rs later)) (h r) ∙ first_never f w rs later h

-- operands are the record's two numbers
operands_low : (k : Kind) (a b r : ℕ) → a < 128 → b < 128 → Mem r (operands_of k a b) → r < 128
unfolding operands_of
operands_low Share a b r ha hb m = absurd m
operands_low Rand a b r ha hb m = absurd m
operands_low Pub a b r ha hb m = absurd m
operands_low Xor a b r ha hb (inl e) = omega arith
operands_low Xor a b r ha hb (inr (inl e)) = omega arith
operands_low Xor a b r ha hb (inr (inr m)) = absurd m
operands_low And a b r ha hb (inl e) = omega arith
operands_low And a b r ha hb (inr (inl e)) = omega arith
operands_low And a b r ha hb (inr (inr m)) = absurd m
operands_low Not a b r ha hb (inl e) = omega arith
operands_low Not a b r ha hb (inr m) = absurd m

-- ---- the step of a wire, operand by operand

module _ (f : ℕ → Bool) (w : ℕ) where
  pub pad_one : (r : ℕ) (b : Bool) → b ≡ f r → step_in (then_some b (record { w = w; r = r })) ≡ first_pad f w (r ∷ []) none
  unfolding first_pad
  pad_one r b e = rw (← e) (go b)
    where
      go : (b : Bool) → step_in (then_some b (record { w = w; r = r })) ≡ cond b (some (record { w = w; r = r })) none
      go true = refl
      go false = refl

  pub pad_same : (a b : ℕ) → a ≡ b → none ≡ first_pad f w (pads_of Xor a b) none
  unfolding first_pad pads_of
  pad_same a b e = simp (eq-eqb a b e)

  pub pad_two : (a b lo hi : ℕ) (x y : Found Step) → (a ≡ b → ⊥) → lo ≡ min a b → hi ≡ max a b
      → step_in x ≡ first_pad f w (lo ∷ []) none → step_in y ≡ first_pad f w (hi ∷ []) none → step_in (option_or x y) ≡ first_pad f w (pads_of Xor a b) none
  unfolding first_pad pads_of or_else
  pad_two a b lo hi x y n l h p q =
      in_or x y ∙ ap₂ or_else p q ∙ sym (first_or f w (lo ∷ []) (first_pad f w (hi ∷ []) none)) ∙ rw (ne_eqb a b n, l, h) refl
    where
      in_or : (x y : Found Step) → step_in (option_or x y) ≡ or_else (step_in x) (step_in y)
      in_or None y = refl
      in_or (Some s) y = refl

-- ---- the step of a wire, by its record

module _ (ws : List Wire) (probe leaf alive : Marks) (counts : List ℕ) (w : ℕ) where
  -- a wire that is not live, or a leaf
  pub pad_out : (not (at alive w) || at leaf w) ≡ true → pad_at ws probe leaf alive counts w ≡ none
  unfolding pad_at
  pad_out h = go (at alive w) (at leaf w) _ h
    where
      go : (i o : Bool) (x : Option Step) → (not i || o) ≡ true → cond (i && not o) x none ≡ none
      go true true x h = refl
      go true false x h = cc
      go false o x h = refl

  inner : (not (at alive w) || at leaf w) ≡ false
      → pad_at ws probe leaf alive counts w ≡ first_pad (serves_by probe leaf counts) w (pads_of (record_at ws w).kind (record_at ws w).a (record_at ws w).b) none
  unfolding pad_at
  inner h = go (at alive w) (at leaf w) _ h
    where
      go : (i o : Bool) (x : Option Step) → (not i || o) ≡ false → cond (i && not o) x none ≡ x
      go true true x h = cc
      go true false x h = refl
      go false o x h = cc

  pub pad_xor : (record_at ws w).kind ≡ Xor → (not (at alive w) || at leaf w) ≡ false
      → pad_at ws probe leaf alive counts w ≡ first_pad (serves_by probe leaf counts) w (pads_of Xor (record_at ws w).a (record_at ws w).b) none
  pad_xor e h = rw (← e) (inner h)

  pub pad_not : (record_at ws w).kind ≡ Not → (not (at alive w) || at leaf w) ≡ false
      → pad_at ws probe leaf alive counts w ≡ first_pad (serves_by probe leaf counts) w ((record_at ws w).a ∷ []) none
  unfolding pads_of
  pad_not e h = inner h ∙ ap (λ (k : Kind). first_pad (serves_by probe leaf counts) w (pads_of k (record_at ws w).a (record_at ws w).b) none) e

  -- only an `xor` and a `not` have anything to be padded by
  pub pad_other : ((record_at ws w).kind ≡ Xor → ⊥) → ((record_at ws w).kind ≡ Not → ⊥) → (not (at alive w) || at leaf w) ≡ false
      → pad_at ws probe leaf alive counts w ≡ none
  unfolding pads_of first_pad
  pad_other n m h = inner h ∙ none_of (record_at ws w).kind n m
    where
      none_of : (k : Kind) → (k ≡ Xor → ⊥) → (k ≡ Not → ⊥) → first_pad (serves_by probe leaf counts) w (pads_of k (record_at ws w).a (record_at ws w).b) none ≡ none
      none_of Share n m = refl
      none_of Rand n m = refl
      none_of Pub n m = refl
      none_of Xor n m = absurd (n refl)
      none_of And n m = refl
      none_of Not n m = absurd (m refl)

-- ---- the lowest step

module _ (ws : List Wire) (good : Marked ws) (probe leaf alive : Marks) (counts : List ℕ) (told : Consumers ws leaf alive 0 counts) where
  -- an operand of a live wire that is no leaf serves by its count exactly when it serves
  serves_is : (w r : ℕ) → w < length ws → at alive w ≡ true → at leaf w ≡ false → Mem r (pads (only_wires ws) w)
      → pads_by (only_wires ws) probe leaf alive w r ≡ serves_by probe leaf counts r
  unfolding pads_by serves serves_by only_consumer consumes operands
  serves_is w r h i o m =
      let R = only_wires ws in
      let op = pad_op_of R w r m in
      let low = good.low w h in
      let hr = operands_low (record_at ws w).kind (record_at ws w).a (record_at ws w).b r low.low_a low.low_b
      op in
      let eats : consumes R leaf alive r w ≡ true = and_i (at alive w && not (at leaf w)) (elem r (operands R w))
      (and_i (at alive w) (not (at leaf w)) i (ap not o)) (elem← r (operands R w) op) in
      let only : only_consumer R leaf alive w r ≡ eqb (get_or counts r 0) 1 =
      only_counted (length ws) (consumes R leaf alive r) w h eats ∙ ap (λ (k : ℕ). eqb k 1) (sym (counts_all ws leaf alive 0 counts zero-le told r hr)) in
      ap₂ ◌&&◌ (and_i (at alive w && not (at leaf w)) (elem r (pads R w)) (and_i (at alive w) (not (at leaf w)) i (ap not o)) (elem← r (pads R w) m))
      (ap (λ (b : Bool). at leaf r && not (at probe r) && b) only)

  pad_at_lem : (w : ℕ) → w < length ws → first_pad (pads_by (only_wires ws) probe leaf alive w) w (pads (only_wires ws) w) none ≡ pad_at ws probe leaf alive counts w
  unfolding pad_at pads pads_by
  pad_at_lem w h = go (at alive w) (at leaf w) refl refl
    where
      go : (x y : Bool) → at alive w ≡ x → at leaf w ≡ y → first_pad (pads_by (only_wires ws) probe leaf alive w) w (pads (only_wires ws) w) none
          ≡ cond (x && not y) (first_pad (serves_by probe leaf counts) w (pads_of (record_at ws w).kind (record_at ws w).a (record_at ws w).b) none) none
      go true false i o =
          first_same (pads_by (only_wires ws) probe leaf alive w) (serves_by probe leaf counts) w (pads (only_wires ws) w) none (λ r m. serves_is w r h i o m)
      go true true i o = first_never (pads_by (only_wires ws) probe leaf alive w) w (pads (only_wires ws) w) none
          (λ r. ap₂ (λ (p q : Bool). p && not q && elem r (pads (only_wires ws) w) && serves (only_wires ws) probe leaf alive w r) i o)
      go false y i o = first_never (pads_by (only_wires ws) probe leaf alive w) w (pads (only_wires ws) w) none
          (λ r. ap (λ (p : Bool). p && not (at leaf w) && elem r (pads (only_wires ws) w) && serves (only_wires ws) probe leaf alive w r) i)

  lowest_turn : (w : ℕ) → w < length ws → lowest_pad (only_wires ws) (pads_by (only_wires ws) probe leaf alive) (length ws - w) w
      ≡ or_else (pad_at ws probe leaf alive counts w) (lowest_pad (only_wires ws) (pads_by (only_wires ws) probe leaf alive) (length ws - (w + 1)) (w + 1))
  unfolding lowest_pad
  lowest_turn w h =
      let R = only_wires ws in
      let e : length ws - w ≡ suc (length ws - (w + 1)) = omega arith in
      let rest = lowest_pad R (pads_by R probe leaf alive) (length ws - (w + 1)) (suc w) in
      ap (λ (k : ℕ). lowest_pad R (pads_by R probe leaf alive) k w) e
      ∙ first_or (pads_by R probe leaf alive w) w (pads R w) rest
      ∙ ap (λ (o : Option Step). or_else o rest) (pad_at_lem w h)
      ∙ ap (λ (k : ℕ). or_else (pad_at ws probe leaf alive counts w) (lowest_pad R (pads_by R probe leaf alive) (length ws - (w + 1)) k)) (sym (add-one w))

  pub lowest_found : (w : ℕ) (s : Step) → w < length ws → pad_at ws probe leaf alive counts w ≡ some s
      → lowest_pad (only_wires ws) (pads_by (only_wires ws) probe leaf alive) (length ws - w) w ≡ some s
  unfolding or_else
  lowest_found w s h e = lowest_turn w h
      ∙ ap (λ (o : Option Step). or_else o (lowest_pad (only_wires ws) (pads_by (only_wires ws) probe leaf alive) (length ws - (w + 1)) (w + 1))) e

  pub lowest_on : (w : ℕ) → w < length ws → pad_at ws probe leaf alive counts w ≡ none
      → lowest_pad (only_wires ws) (pads_by (only_wires ws) probe leaf alive) (length ws - w) w
      ≡ lowest_pad (only_wires ws) (pads_by (only_wires ws) probe leaf alive) (length ws - (w + 1)) (w + 1)
  unfolding or_else
  lowest_on w h e = lowest_turn w h ∙ ap (λ (o : Option Step). or_else o (lowest_pad (only_wires ws) (pads_by (only_wires ws) probe leaf alive) (length ws - (w + 1)) (w + 1))) e

  pub lowest_end : (w : ℕ) → length ws ≤ w → lowest_pad (only_wires ws) (pads_by (only_wires ws) probe leaf alive) (length ws - w) w ≡ none
  unfolding lowest_pad
  lowest_end w h = let e : length ws - w ≡ 0 = omega arith in ap (λ (k : ℕ). lowest_pad (only_wires ws) (pads_by (only_wires ws) probe leaf alive) k w) e
