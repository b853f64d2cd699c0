-- The table of own randoms lacks none: whatever gates the rule pads, a random that is a wire's own by them is listed.
use Rattle.std.specs.Prelude.{◌≡◌, Bool, not, cond, ◌≢◌, List, [], ◌∷◌}
use Rattle.std.proofs.Math.Path.{refl, sym, ap}
use Rattle.std.proofs.Common.{◌∙◌, subst, inl, inr, arith}
use Rattle.std.proofs.Math.Bool.{true, false}
use Prim.Native.Nat.{ℕ, ◌^◌, ◌<◌}
use Rattle.std.proofs.Math.ListN.{get_or}
use Rattle.document.specs.Routine.{Routine, size, wire, is_rand, rands_before, operands_of, operands}
use Rattle.document.specs.Padding.{pads_of, pads}
use Rattle.data.proofs.Laws.Tests.{clash, out_of, cond_false, and_i, or_cases, or_l, or_r, eqb_true, below, Mem}
use Rattle.document.proofs.Laws.Rule.{probed}
use Rattle.document.proofs.Laws.Live.{xor_pads, pad_op_of}
use Rattle.document.proofs.Laws.Sound.{Sound, first_leaf←, first_slots}
use Rattle.data.specs.declared.Kind.{Kind}
use Rattle.data.specs.declared.Kind.TheVariants.{Share, Rand, Pub, Xor, And, Not}
use Rattle.cones.specs.Bits.{minus}
use Rattle.cones.specs.Tables.{built, rand_bit, gather, cone_at, rand_cones, own_of, own_at, own_rands}
use Rattle.cones.proofs.Laws.Bits.{has, has_or, has_minus, has_none, has_one, has_at}
use Rattle.cones.proofs.Laws.Cone.{Cone, here, down}
use Rattle.cones.proofs.Laws.Own.{Own, itself, above}
use Rattle.cones.proofs.Laws.Tables.{built_at, cone_reads, own_reads}

-- ---- one wire

-- a random has its own bit
own_rand : (k : Kind) (a b bit : ℕ) (cone own : ℕ → ℕ) → is_rand k ≡ true → own_of k bit a b cone own ≡ bit
unfolding own_of
own_rand Share a b bit cone own i = clash i refl
own_rand Rand a b bit cone own i = refl
own_rand Pub a b bit cone own i = clash i refl
own_rand Xor a b bit cone own i = clash i refl
own_rand And a b bit cone own i = clash i refl
own_rand Not a b bit cone own i = clash i refl

-- a wire has the own randoms of what it can be padded by, where its other operands do not hold them
own_up : (k : Kind) (a b bit : ℕ) (cone own : ℕ → ℕ) (r j : ℕ) → Mem r (pads_of k a b) → has (own r) j ≡ true
    → ((v : ℕ) → Mem v (operands_of k a b) → v ≢ r → has (cone v) j ≡ false) → has (own_of k bit a b cone own) j ≡ true
unfolding own_of pads_of operands_of
own_up Share a b bit cone own r j m h n = absurd m
own_up Rand a b bit cone own r j m h n = absurd m
own_up Pub a b bit cone own r j m h n = absurd m
own_up Xor a b bit cone own r j m h n =
    let two = xor_pads a b r m in
    ap (λ (x : ℕ). has x j) (cond_false _ _ (out_of (λ q. two.0 (eqb_true a b q))))
    ∙ has_or (minus (own a) (cone b)) (minus (own b) (cone a)) j
    ∙ elim two.1 [
      | inl q ↦ or_l (has (minus (own a) (cone b)) j) (has (minus (own b) (cone a)) j) (kept a b q (λ e. two.0 (sym (e ∙ q))) (inr (inl refl)))
      | inr q ↦ or_r (has (minus (own a) (cone b)) j) (has (minus (own b) (cone a)) j) (kept b a q (λ e. two.0 (e ∙ q)) (inl refl))
    ]
  where
    kept : (x y : ℕ) → r ≡ x → y ≢ r → Mem y (a ∷ b ∷ []) → has (minus (own x) (cone y)) j ≡ true
    kept x y q d k = has_minus (own x) (cone y) j ∙ and_i (has (own x) j) (not (has (cone y) j)) (subst (λ (z : ℕ). has (own z) j ≡ true) q h) (ap not (n y k d))
own_up And a b bit cone own r j m h n = absurd m
own_up Not a b bit cone own r j (inl q) h n = subst (λ (z : ℕ). has (own z) j ≡ true) q h
own_up Not a b bit cone own r j (inr q) h n = absurd q

-- ---- the tables

gather_from : (e : ℕ → ℕ) (vs : List ℕ) (j : ℕ) → has (gather e vs) j ≡ true → (v : ℕ) × Mem v vs × (has (e v) j ≡ true)
unfolding gather
gather_from e [] j i = clash i (has_none j)
gather_from e (v ∷ vs) j i = or_cases (has (e v) j) (has (gather e vs) j) (sym (has_or (e v) (gather e vs) j) ∙ i)
    (λ h. (v, inl refl, h)) (λ h. let t = gather_from e vs j h in (t.0, inr t.1, t.2))

module _ (R : Routine) (so : Sound R) where
  abbrev cones : ℕ → ℕ
  cones v = get_or (rand_cones R (size R)) v 0

  -- a bit of a cone's word is a random in the cone
  cone_from_lem : (w : ℕ) → w < size R → (j : ℕ) → has (cones w) j ≡ true → (r : ℕ) × Cone R w r × (is_rand (wire R r).kind ≡ true) × (rands_before R r ≡ j)
  unfolding rand_cones cone_at rand_bit
  cone_from_lem = below (λ w. w < size R → (j : ℕ) → has (cones w) j ≡ true
      → (r : ℕ) × Cone R w r × (is_rand (wire R r).kind ≡ true) × (rands_before R r ≡ j)) (λ w ih h j i.
      let e : ℕ → ℕ = λ v. get_or (built (cone_at R (rand_bit R)) (size R)) v 0 in
      or_cases (has (rand_bit R w) j) (has (gather e (operands R w)) j)
      (sym (has_or (rand_bit R w) (gather e (operands R w)) j)
      ∙ sym (ap (λ (x : ℕ). has x j) (built_at (cone_at R (rand_bit R)) (cone_reads R so.earlier (rand_bit R)) (size R) w h)) ∙ i)
      (λ b. own_bit w j (is_rand (wire R w).kind) refl b)
      (λ g. let t = gather_from e (operands R w) j g in
      let l = so.earlier w t.0 t.1 in
      let c = ih t.0 l (omega arith) j t.2 in
      (c.0, down t.1 c.1, c.2, c.3)))
    where
      own_bit : (w j : ℕ) (b : Bool) → is_rand (wire R w).kind ≡ b → has (cond b (2 ^ rands_before R w) 0) j ≡ true
          → (r : ℕ) × Cone R w r × (is_rand (wire R r).kind ≡ true) × (rands_before R r ≡ j)
      own_bit w j true e i = (w, here, e, has_at (rands_before R w) j i)
      own_bit w j false e i = clash i (has_none j)

  -- randoms with one place are one
  one_place : (u v : ℕ) → is_rand (wire R u).kind ≡ true → is_rand (wire R v).kind ≡ true → rands_before R u ≡ rands_before R v → u ≡ v
  one_place u v i j e =
      (first_slots R (λ _. true)).apart u v (probed refl) (probed refl) (first_leaf← R so.few u i) (first_leaf← R so.few v j) e

  own_is_rand : {r w : ℕ} → Own R r w → is_rand (wire R r).kind ≡ true
  own_is_rand (itself i) = i
  own_is_rand (above m o n) = own_is_rand o

  abbrev own : ℕ → ℕ
  own v = get_or (own_rands R (size R)) v 0

  own_at_lem : (w : ℕ) → w < size R → own w ≡ own_of (wire R w).kind (2 ^ rands_before R w) (wire R w).a (wire R w).b cones own
  unfolding own_rands own_at
  own_at_lem w h = built_at (own_at R cones) (own_reads R so.earlier so.within cones) (size R) w h

  pub own_listed : {r w : ℕ} → Own R r w → w < size R → has (get_or (own_rands R (size R)) w 0) (rands_before R r) ≡ true
  unfolding pads operands
  own_listed {r} (itself i) h = ap (λ (x : ℕ). has x (rands_before R r))
      (own_at_lem r h ∙ own_rand (wire R r).kind (wire R r).a (wire R r).b (2 ^ rands_before R r) cones own i) ∙ has_one (rands_before R r)
  own_listed {r} {w} (above {a = a} m o n) h =
      let j = rands_before R r in
      let low = so.earlier w a (pad_op_of R w a m) in
      ap (λ (x : ℕ). has x j) (own_at_lem w h)
      ∙ own_up (wire R w).kind (wire R w).a (wire R w).b (2 ^ rands_before R w) cones own a j m (own_listed o (omega arith))
      (λ v k d. out_of (λ i.
      let l = so.earlier w v k in
      let c = cone_from_lem v (omega arith) j i in
      n v k d (subst (Cone R v) (one_place c.0 r c.2 (own_is_rand o) c.3) c.1)))
