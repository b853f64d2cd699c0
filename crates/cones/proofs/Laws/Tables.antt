-- The tables hold what the cones hold, and the own randoms.
use Rattle.std.specs.Prelude.{◌≡◌, Bool, false, not, ◌≢◌, eqb, length}
use Rattle.std.proofs.Math.Path.{refl, sym, ap, ap₂}
use Rattle.std.proofs.Common.{◌∙◌, subst, inl, inr, not-suc-le-zero, arith, length-append}
use Rattle.std.proofs.Math.Bool.{true, cond}
use mathlib.Core.List.{List, [], ◌∷◌, ◌++◌}
use Prim.Native.Nat.{ℕ, zero, suc, ◌*◌, ◌^◌, ◌<◌, min, max}
use Rattle.std.specs.Int.Bits.{bit_or}
use Rattle.std.proofs.Math.ListN.{get_or, get_or-append}
use Rattle.std.proofs.lemmas.List.{get_or_at}
use Rattle.document.specs.Routine.{Routine, size, wire, is_rand, rands_before, operands_of, operands}
use Rattle.document.specs.Padding.{pads_of, pads}
use Rattle.data.proofs.Laws.Tests.{clash, bool_cases, cond_true, and_l, and_r, not_t, or_cases, or_l, or_r, true_ltb, wire_cases, below, Mem}
use Rattle.document.proofs.Laws.Live.{Earlier, Within}
use Rattle.data.specs.declared.Kind.{Kind}
use Rattle.data.specs.declared.Kind.TheVariants.{Share, Rand, Pub, Xor, And, Not}
use Rattle.cones.proofs.Laws.Cone.{Cone, here, down}
use Rattle.cones.proofs.Laws.Own.{Own, itself, above}
use Rattle.cones.specs.Bits.{minus}
use Rattle.cones.proofs.Laws.Bits.{has, has_or, has_minus, has_none, has_one, has_at}
use Rattle.cones.specs.Tables.{built, share_bit, rand_bit, gather, cone_at, share_cones, rand_cones, own_of, own_at, own_rands}

pub built_length : (f : (ℕ → ℕ) → ℕ → ℕ) (k : ℕ) → length (built f k) ≡ k
unfolding built
built_length f zero = refl
built_length f (suc k) = let l = built_length f k in let a = length-append (built f k) (f (λ v. get_or (built f k) v 0) k ∷ []) in omega arith

-- a wire that is made is what the rule says of the whole list, if the rule reads earlier wires only
pub built_at : (f : (ℕ → ℕ) → ℕ → ℕ) → ((e e' : ℕ → ℕ) (w : ℕ) → ((v : ℕ) → v < w → e v ≡ e' v) → f e w ≡ f e' w)
    → (k w : ℕ) → w < k → get_or (built f k) w 0 ≡ f (λ v. get_or (built f k) v 0) w
unfolding built
built_at f reads zero w h = absurd (not-suc-le-zero h)
built_at f reads (suc k) w h =
    let ws = built f k in
    let new = f (λ v. get_or ws v 0) k in
    let len : length ws ≡ k = built_length f k in
    wire_cases w k
    (λ e. ap (λ (j : ℕ). get_or (ws ++ (new ∷ [])) j 0) e ∙ get_or_at ws new [] 0 k len
    ∙ reads (λ v. get_or ws v 0) (λ v. get_or (ws ++ (new ∷ [])) v 0) k (λ v l. sym (get_or-append ws (new ∷ []) 0 v (omega arith)))
    ∙ ap (f (λ v. get_or (ws ++ (new ∷ [])) v 0)) (sym e))
    (λ e. get_or-append ws (new ∷ []) 0 w (omega arith) ∙ built_at f reads k w (omega arith)
    ∙ reads (λ v. get_or ws v 0) (λ v. get_or (ws ++ (new ∷ [])) v 0) w (λ v l. sym (get_or-append ws (new ∷ []) 0 v (omega arith))))

pub gather_ext : (e e' : ℕ → ℕ) (vs : List ℕ) → ((v : ℕ) → Mem v vs → e v ≡ e' v) → gather e vs ≡ gather e' vs
unfolding gather
gather_ext e e' [] h = refl
gather_ext e e' (v ∷ vs) h = ap₂ bit_or (h v (inl refl)) (gather_ext e e' vs (λ u m. h u (inr m)))

gather_has : (e : ℕ → ℕ) (vs : List ℕ) (v j : ℕ) → Mem v vs → has (e v) j ≡ true → has (gather e vs) j ≡ true
unfolding gather
gather_has e [] v j m i = absurd m
gather_has e (u ∷ vs) v j (inl q) i = has_or (e u) (gather e vs) j ∙ or_l (has (e u) j) (has (gather e vs) j) (subst (λ (k : ℕ). has (e k) j ≡ true) q i)
gather_has e (u ∷ vs) v j (inr m) i = has_or (e u) (gather e vs) j ∙ or_r (has (e u) j) (has (gather e vs) j) (gather_has e vs v j m i)

module _ (R : Routine) (ok : Earlier R) where
  pub cone_reads : (bit : ℕ → ℕ) (e e' : ℕ → ℕ) (w : ℕ) → ((v : ℕ) → v < w → e v ≡ e' v) → cone_at R bit e w ≡ cone_at R bit e' w
  unfolding cone_at
  cone_reads bit e e' w h = ap (bit_or (bit w)) (gather_ext e e' (operands R w) (λ v m. h v (ok w v m)))

  -- the bits of a wire in the cone are in the cone's word
  cone_has : (bit : ℕ → ℕ) (n : ℕ) {w v : ℕ} (j : ℕ) → Cone R w v → w < n → has (bit v) j ≡ true → has (get_or (built (cone_at R bit) n) w 0) j ≡ true
  unfolding cone_at
  cone_has bit n {w} j here h i =
      ap (λ (x : ℕ). has x j) (built_at (cone_at R bit) (cone_reads bit) n w h)
      ∙ has_or (bit w) (gather (λ v. get_or (built (cone_at R bit) n) v 0) (operands R w)) j ∙ or_l (has (bit w) j) _ i
  cone_has bit n {w} j (down {u = u} m c) h i =
      ap (λ (x : ℕ). has x j) (built_at (cone_at R bit) (cone_reads bit) n w h)
      ∙ has_or (bit w) (gather (λ v. get_or (built (cone_at R bit) n) v 0) (operands R w)) j
      ∙ or_r (has (bit w) j) _ (gather_has (λ v. get_or (built (cone_at R bit) n) v 0) (operands R w) u j m
      (cone_has bit n j c (let z = ok w u m in omega arith) i))

  pub share_cone : {w v : ℕ} → Cone R w v → w < size R → v < R.S * R.D → has (get_or (share_cones R (size R)) w 0) v ≡ true
  unfolding share_cones share_bit
  share_cone {w} {v} c h l = cone_has (share_bit R) (size R) v c h (ap (λ (x : ℕ). has x v) (cond_true (2 ^ v) 0 (true_ltb v (R.S * R.D) l)) ∙ has_one v)

  pub rand_cone : {w r : ℕ} → Cone R w r → w < size R → is_rand (wire R r).kind ≡ true → has (get_or (rand_cones R (size R)) w 0) (rands_before R r) ≡ true
  unfolding rand_cones rand_bit
  rand_cone {w} {r} c h i =
      cone_has (rand_bit R) (size R) (rands_before R r) c h (ap (λ (x : ℕ). has x (rands_before R r)) (cond_true (2 ^ rands_before R r) 0 i)
      ∙ has_one (rands_before R r))

-- the random whose place among the randoms is j
pub record Owned (R : Routine) (w j : ℕ) : Type 0 where
  pub rand : ℕ
  pub is_rand_lem : is_rand (wire R rand).kind ≡ true
  pub place : rands_before R rand ≡ j
  pub own : Own R rand w

module _ (R : Routine) (ok : Earlier R) (ends : Within R) where
  own_ext : (k : Kind) (a b bit : ℕ) (cone e e' : ℕ → ℕ) → ((v : ℕ) → Mem v (operands_of k a b) → e v ≡ e' v) → own_of k bit a b cone e ≡ own_of k bit a b cone e'
  unfolding own_of operands_of
  own_ext Share a b bit cone e e' h = refl
  own_ext Rand a b bit cone e e' h = refl
  own_ext Pub a b bit cone e e' h = refl
  own_ext Xor a b bit cone e e' h = ap₂ (λ (x y : ℕ). cond (eqb a b) 0 (bit_or (minus x (cone b)) (minus y (cone a)))) (h a (inl refl)) (h b (inr (inl refl)))
  own_ext And a b bit cone e e' h = refl
  own_ext Not a b bit cone e e' h = h a (inl refl)

  pub own_reads : (cone : ℕ → ℕ) (e e' : ℕ → ℕ) (w : ℕ) → ((v : ℕ) → v < w → e v ≡ e' v) → own_at R cone e w ≡ own_at R cone e' w
  unfolding own_at operands
  own_reads cone e e' w h = own_ext (wire R w).kind (wire R w).a (wire R w).b (2 ^ rands_before R w) cone e e' (λ v m. h v (ok w v m))

  abbrev cones : ℕ → ℕ
  cones v = get_or (rand_cones R (size R)) v 0

  ops_xor : (w a b : ℕ) → (wire R w).kind ≡ Xor → (wire R w).a ≡ a → (wire R w).b ≡ b → operands R w ≡ a ∷ b ∷ []
  unfolding operands operands_of
  ops_xor w a b ek ea eb = ap (λ (k : Kind). operands_of k (wire R w).a (wire R w).b) ek ∙ ap₂ {C = List ℕ} (λ x y. x ∷ y ∷ []) ea eb

  pads_xor : (w a b : ℕ) → (wire R w).kind ≡ Xor → (wire R w).a ≡ a → (wire R w).b ≡ b → eqb a b ≡ false → pads R w ≡ min a b ∷ max a b ∷ []
  unfolding pads pads_of
  pads_xor w a b ek ea eb q =
      ap (λ (k : Kind). pads_of k (wire R w).a (wire R w).b) ek ∙ ap₂ (λ (x y : ℕ). pads_of Xor x y) ea eb
      ∙ ap (λ (c : Bool). cond c [] (min a b ∷ max a b ∷ [])) q

  pub ops_not : (w a : ℕ) → (wire R w).kind ≡ Not → (wire R w).a ≡ a → operands R w ≡ a ∷ []
  unfolding operands operands_of
  ops_not w a ek ea = ap (λ (k : Kind). operands_of k (wire R w).a (wire R w).b) ek ∙ ap {B = List ℕ} (λ x. x ∷ []) ea

  pads_not : (w a : ℕ) → (wire R w).kind ≡ Not → (wire R w).a ≡ a → pads R w ≡ a ∷ []
  unfolding pads pads_of
  pads_not w a ek ea = ap (λ (k : Kind). pads_of k (wire R w).a (wire R w).b) ek ∙ ap {B = List ℕ} (λ x. x ∷ []) ea

  -- an own random of one operand of an xor, that the other operand does not hold
  lifted : (w a b j : ℕ) → Mem a (pads R w) → ((v : ℕ) → Mem v (operands R w) → v ≢ a → v ≡ b) → b < size R → Owned R a j → has (cones b) j ≡ false
      → Owned R w j
  lifted w a b j m two b<n o n = record {
    rand = o.rand;
    is_rand_lem = o.is_rand_lem;
    place = o.place;
    own = above m o.own (λ v k d c. clash
        (subst (λ (i : ℕ). has (cones b) i ≡ true) o.place (rand_cone R ok (subst (λ (u : ℕ). Cone R u o.rand) (two v k d) c) b<n o.is_rand_lem)) n);
  }

  owned_by : (w : ℕ) → w < size R → (k : Kind) (a b : ℕ) → (wire R w).kind ≡ k → (wire R w).a ≡ a → (wire R w).b ≡ b → (own : ℕ → ℕ) (j : ℕ)
      → ((v : ℕ) → v < w → has (own v) j ≡ true → Owned R v j) → has (own_of k (2 ^ rands_before R w) a b cones own) j ≡ true → Owned R w j
  unfolding own_of
  owned_by w h Share a b ek ea eb own j ih i = clash i (has_none j)
  owned_by w h Rand a b ek ea eb own j ih i =
      let r : is_rand (wire R w).kind ≡ true = ap is_rand ek in record { rand = w; is_rand_lem = r; place = has_at (rands_before R w) j i; own = itself r }
  owned_by w h Pub a b ek ea eb own j ih i = clash i (has_none j)
  owned_by w h Xor a b ek ea eb own j ih i = bool_cases (eqb a b)
      (λ q. clash (sym (ap (λ (c : Bool). has (cond c 0 (bit_or (minus (own a) (cones b)) (minus (own b) (cones a)))) j) q) ∙ i) (has_none j))
      (λ q. or_cases (has (minus (own a) (cones b)) j) (has (minus (own b) (cones a)) j)
      (sym (has_or (minus (own a) (cones b)) (minus (own b) (cones a)) j)
      ∙ sym (ap (λ (c : Bool). has (cond c 0 (bit_or (minus (own a) (cones b)) (minus (own b) (cones a)))) j) q) ∙ i)
      (λ e. half a b q e (λ v m d. pick_b v m d) (pad_a q) (op_a) (op_b))
      (λ e. half b a q e (λ v m d. pick_a v m d) (pad_b q) (op_b) (op_a)))
    where
      ops : operands R w ≡ a ∷ b ∷ []
      ops = ops_xor w a b ek ea eb

      op_a : a < w
      op_a = ok w a (subst (Mem a) (sym ops) (inl refl))

      op_b : b < w
      op_b = ok w b (subst (Mem b) (sym ops) (inr (inl refl)))

      pick_b : (v : ℕ) → Mem v (operands R w) → v ≢ a → v ≡ b
      pick_b v m d = elim (subst (Mem v) ops m) [ inl e ↦ absurd (d e) | inr k ↦ elim k [ inl e ↦ e | inr z ↦ absurd z ] ]

      pick_a : (v : ℕ) → Mem v (operands R w) → v ≢ b → v ≡ a
      pick_a v m d = elim (subst (Mem v) ops m) [ inl e ↦ e | inr k ↦ elim k [ inl e ↦ absurd (d e) | inr z ↦ absurd z ] ]

      pad_a : eqb a b ≡ false → Mem a (pads R w)
      pad_a q = subst (Mem a) (sym (pads_xor w a b ek ea eb q)) (wire_cases a (min a b) inl (λ n. inr (inl (omega arith))))

      pad_b : eqb a b ≡ false → Mem b (pads R w)
      pad_b q = subst (Mem b) (sym (pads_xor w a b ek ea eb q)) (wire_cases b (min a b) inl (λ n. inr (inl (omega arith))))

      half : (x y : ℕ) → eqb a b ≡ false → has (minus (own x) (cones y)) j ≡ true → ((v : ℕ) → Mem v (operands R w) → v ≢ x → v ≡ y) → Mem x (pads R w)
          → x < w → y < w → Owned R w j
      half x y q e other m lx ly =
          let z = sym (has_minus (own x) (cones y) j) ∙ e in
          lifted w x y j m other (omega arith) (ih x lx (and_l (has (own x) j) (not (has (cones y) j)) z))
          (not_t (has (cones y) j) (and_r (has (own x) j) (not (has (cones y) j)) z))
  owned_by w h And a b ek ea eb own j ih i = clash i (has_none j)
  owned_by w h Not a b ek ea eb own j ih i =
      let o = ih a (ok w a (subst (Mem a) (sym (ops_not w a ek ea)) (inl refl))) i in record {
        rand = o.rand;
        is_rand_lem = o.is_rand_lem;
        place = o.place;
        own = above (subst (Mem a) (sym (pads_not w a ek ea)) (inl refl)) o.own
            (λ v m d _. elim (subst (Mem v) (ops_not w a ek ea) m) [ inl e ↦ d e | inr z ↦ z ]);
      }

  -- a bit of a wire's own randoms is an own random
  pub owned : (w : ℕ) → w < size R → (j : ℕ) → has (get_or (own_rands R (size R)) w 0) j ≡ true → Owned R w j
  unfolding own_rands own_at
  owned = below (λ w. w < size R → (j : ℕ) → has (get_or (own_rands R (size R)) w 0) j ≡ true → Owned R w j) (λ w ih h j i.
      owned_by w h (wire R w).kind (wire R w).a (wire R w).b refl refl refl (λ v. get_or (own_rands R (size R)) v 0) j
      (λ v l k. ih v l (omega arith) j k)
      (sym (ap (λ (x : ℕ). has x j) (built_at (own_at R cones) (own_reads cones) (size R) w h)) ∙ i))
