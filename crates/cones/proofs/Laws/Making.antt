-- The tables with a wire more are those of the definitions.
use Rattle.std.specs.Prelude.{◌≡◌, Bool, true, cond, ltb, leb, length, take, set}
use Rattle.std.proofs.Math.Path.{refl, sym, ap}
use Rattle.std.proofs.Common.{ap₂, ◌∙◌, subst, inl, inr, arith, get_or-take}
use mathlib.Core.List.{List}
use Prim.Native.Nat.{ℕ, ◌+◌, ◌*◌, ◌^◌, ◌<◌}
use Rattle.std.specs.Int.Bits.{bit_or, or_zero_r}
use Rattle.std.proofs.Math.ListN.{get_or}
use Rattle.document.specs.Routine.{blank, Routine, size, wire, is_rand, rands_before, well_formed, routine_of, records_fit, operands_of, operands}
use Rattle.std.proofs.lemmas.List.{get_or-set_same, get_or-set_other}
use Rattle.data.proofs.Laws.Tests.{and_r, wire_cases, Mem}
use Rattle.document.proofs.Laws.Sound.{Sound, sound, first_leaf←, first_slots}
use Rattle.data.specs.declared.Kind.{Kind}
use Rattle.data.specs.declared.Kind.TheVariants.{Share, Rand, Pub, Xor, And, Not}
use Rattle.data.specs.declared.Wire.{Wire}
use Rattle.data.specs.declared.Shape.{Shape}
use denote.Enum.Bare.{sameb}
use Rattle.data.specs.contracts.Kind.{the_type}
use Rattle.counts.specs.declared.Counts.{Counts}
use Rattle.counts.specs.Counting.{record_at, counts_of, with_record}
use Rattle.counts.proofs.Laws.Counts.{wire_is, rands_is, counts_more}
use Rattle.records.proofs.Laws.Fitting.{fit_of, a_within, b_within}
use Rattle.cones.specs.Tables.{built, share_bit, rand_bit, gather, cone_at, share_cones, rand_cones, own_of, own_at, own_rands}
use Rattle.cones.proofs.Laws.Tables.{built_at, gather_ext, cone_reads, own_reads}
use Rattle.cones.specs.Seen.{Seen, unseen}
use Rattle.cones.specs.Making.{gather_of, own_between, cone_from, cone_in}

-- ---- a routine that fits

pub fit_sound : (σ : Shape) (ws : List Wire) → records_fit σ ws ≡ true → Sound (routine_of σ ws)
unfolding records_fit
fit_sound σ ws e = sound (routine_of σ ws) (and_r (leb σ.n (length ws)) (well_formed (routine_of σ ws)) e)

-- the code's test for a random
same_rand : (k : Kind) → sameb the_type k Rand ≡ is_rand k
same_rand Share = refl
same_rand Rand = refl
same_rand Pub = refl
same_rand Xor = refl
same_rand And = refl
same_rand Not = refl

-- ---- a wire more

gather_of_lem : (k : Kind) (a b : ℕ) (e : ℕ → ℕ) → gather_of k (e a) (e b) ≡ gather e (operands_of k a b)
unfolding gather operands_of
gather_of_lem Share a b e = refl
gather_of_lem Rand a b e = refl
gather_of_lem Pub a b e = refl
gather_of_lem Xor a b e = ap (bit_or (e a)) (sym (or_zero_r (e b)))
gather_of_lem And a b e = ap (bit_or (e a)) (sym (or_zero_r (e b)))
gather_of_lem Not a b e = sym (or_zero_r (e a))

own_between_lem : (k : Kind) (a b bit : ℕ) (c : ℕ → Seen)
    → own_between k (cond (is_rand k) bit 0) a b (c a) (c b) ≡ own_of k bit a b (λ v. (c v).rands) (λ v. (c v).own)
unfolding own_of
own_between_lem Share a b bit c = refl
own_between_lem Rand a b bit c = refl
own_between_lem Pub a b bit c = refl
own_between_lem Xor a b bit c = refl
own_between_lem And a b bit c = refl
own_between_lem Not a b bit c = refl

own_same : (k : Kind) (a b bit : ℕ) (c c' e e' : ℕ → ℕ) → ((v : ℕ) → Mem v (operands_of k a b) → c v ≡ c' v) → ((v : ℕ) → Mem v (operands_of k a b) → e v ≡ e' v)
    → own_of k bit a b c e ≡ own_of k bit a b c' e'
unfolding own_of operands_of
own_same Share a b bit c c' e e' g h = refl
own_same Rand a b bit c c' e e' g h = refl
own_same Pub a b bit c c' e e' g h = refl
own_same Xor a b bit c c' e e' g h = rw (g a (inl refl), g b (inr (inl refl)), h a (inl refl), h b (inr (inl refl))) refl
own_same And a b bit c c' e e' g h = refl
own_same Not a b bit c c' e e' g h = h a (inl refl)

module _ (σ : Shape) (ws : List Wire) (fit : records_fit σ ws ≡ true) (w : ℕ) (in-n : w < σ.n) where
  abbrev R : Routine
  R = routine_of σ ws

  abbrev x : Wire
  x = record_at ws w

  so : Sound R
  so = fit_sound σ ws fit

  is-x : wire R w ≡ x
  is-x = wire_is σ ws w in-n

  in-R : w < size R
  in-R = let z = (fit_of σ ws fit).sized in omega arith

  share_is : cond (ltb w (σ.s * σ.d)) (2 ^ w) 0 ≡ share_bit R w
  unfolding share_bit
  share_is = refl

  rand_is : (j : ℕ) → j ≡ (counts_of w ws).rands → cond (is_rand x.kind) (2 ^ j) 0 ≡ rand_bit R w
  unfolding rand_bit
  rand_is j e = rw (is-x, e, rands_is σ ws w (omega arith)) refl

  -- the cones of the earlier wires are the tables'
  abbrev Earliers : (ℕ → Seen) → Type 0
  Earliers c = (v : ℕ) → v < w → c v ≡ cone_in R v

  cone_is : (bit : ℕ → ℕ) (c : ℕ → ℕ) → ((v : ℕ) → v < w → c v ≡ get_or (built (cone_at R bit) (size R)) v 0)
      → bit_or (bit w) (gather_of x.kind (c x.a) (c x.b)) ≡ get_or (built (cone_at R bit) (size R)) w 0
  unfolding cone_at operands
  cone_is bit c h =
      let e : ℕ → ℕ = λ v. get_or (built (cone_at R bit) (size R)) v 0 in
      ap (λ (y : Wire). bit_or (bit w) (gather_of y.kind (c y.a) (c y.b))) (sym is-x)
      ∙ ap (bit_or (bit w)) (gather_of_lem (wire R w).kind (wire R w).a (wire R w).b c
      ∙ gather_ext c e (operands_of (wire R w).kind (wire R w).a (wire R w).b) (λ v m. h v (so.earlier w v m)))
      ∙ sym (built_at (cone_at R bit) (cone_reads R so.earlier bit) (size R) w in-R)

  own_is : (j : ℕ) (c : ℕ → Seen) → j ≡ (counts_of w ws).rands → Earliers c
      → own_between x.kind (cond (is_rand x.kind) (2 ^ j) 0) x.a x.b (c x.a) (c x.b) ≡ get_or (own_rands R (size R)) w 0
  unfolding own_rands own_at operands
  own_is j c e h =
      let cone : ℕ → ℕ = λ v. get_or (rand_cones R (size R)) v 0 in
      let own : ℕ → ℕ = λ v. get_or (built (own_at R cone) (size R)) v 0 in
      let i : j ≡ rands_before R w = e ∙ sym (rands_is σ ws w (omega arith)) in
      own_between_lem x.kind x.a x.b (2 ^ j) c
      ∙ ap (λ (b : ℕ). own_of x.kind (2 ^ b) x.a x.b (λ v. (c v).rands) (λ v. (c v).own)) i
      ∙ ap (λ (y : Wire). own_of y.kind (2 ^ rands_before R w) y.a y.b (λ v. (c v).rands) (λ v. (c v).own)) (sym is-x)
      ∙ own_same (wire R w).kind (wire R w).a (wire R w).b (2 ^ rands_before R w) (λ v. (c v).rands) cone (λ v. (c v).own) own
      (λ v m. ap (λ (z : Seen). z.rands) (h v (so.earlier w v m)))
      (λ v m. ap (λ (z : Seen). z.own) (h v (so.earlier w v m)))
      ∙ sym (built_at (own_at R cone) (own_reads R so.earlier so.within cone) (size R) w in-R)

  -- the cone of the next wire
  cone_made : (j : ℕ) (c : ℕ → Seen) → j ≡ (counts_of w ws).rands → Earliers c
      → cone_from x (cond (ltb w (σ.s * σ.d)) (2 ^ w) 0) (cond (is_rand x.kind) (2 ^ j) 0) (c x.a) (c x.b) ≡ cone_in R w
  unfolding share_cones rand_cones
  cone_made j c e h =
      let s = ap (λ (b : ℕ). bit_or b (gather_of x.kind (c x.a).shares (c x.b).shares)) share_is
      ∙ cone_is (share_bit R) (λ v. (c v).shares) (λ v l. ap (λ (z : Seen). z.shares) (h v l)) in
      let r = ap (λ (b : ℕ). bit_or b (gather_of x.kind (c x.a).rands (c x.b).rands)) (rand_is j e)
      ∙ cone_is (rand_bit R) (λ v. (c v).rands) (λ v l. ap (λ (z : Seen). z.rands) (h v l)) in
      let o = own_is j c e h in
      cc

  -- the code's record of wire w, and whether it is a random
  abbrev item : Wire
  item = get_or (take σ.n ws) w blank

  is_item : item ≡ x
  is_item = get_or-take σ.n ws w blank in-n

  pub item_inside : (item.a < 128) × (item.b < 128)
  item_inside = let f = fit_of σ ws fit in
      let k = f.few in
      let a = a_within f w in-n in
      let b = b_within f w in-n in
      let p = ap (λ (y : Wire). y.a) is_item in
      let q = ap (λ (y : Wire). y.b) is_item in
      (omega arith, omega arith)

  pub place_below : (j : ℕ) → j ≡ (counts_of w ws).rands → sameb the_type item.kind Rand ≡ true → j < 64
  place_below j e h =
      let f = fit_of σ ws fit in
      let k = f.rands_few in
      let r : is_rand (wire R w).kind ≡ true = ap (λ (y : Wire). is_rand y.kind) (is-x ∙ sym is_item) ∙ sym (same_rand item.kind) ∙ h in
      let l = (first_slots R (λ _. true)).low w (first_leaf← R so.few w r) in
      let z = ap (rands_before R) f.sized in
      let p = rands_is σ ws w (omega arith) in
      let q = rands_is σ ws σ.n (omega arith) in
      omega arith

  -- the cones with the next wire more
  pub cones_more : (cones : List Seen) (j share rand : ℕ) (made : Seen) → w < length cones → j ≡ (counts_of w ws).rands
      → Earliers (λ v. get_or cones v unseen)
      → share ≡ cond (ltb w (σ.s * σ.d)) (2 ^ w) 0 → rand ≡ cond (sameb the_type item.kind Rand) (2 ^ j) 0
      → made ≡ cone_from item share rand (get_or cones item.a unseen) (get_or cones item.b unseen)
      → (v : ℕ) → v < w + 1 → get_or (set cones w made) v unseen ≡ cone_in R v
  cones_more cones j share rand made l e h p q m v k =
      let r : rand ≡ cond (is_rand x.kind) (2 ^ j) 0 =
      q ∙ ap (λ (b : Bool). cond b (2 ^ j) 0) (same_rand item.kind ∙ ap (λ (y : Wire). is_rand y.kind) is_item) in
      let here : made ≡ cone_in R w =
      m ∙ ap₂ (λ (s r : ℕ). cone_from item s r (get_or cones item.a unseen) (get_or cones item.b unseen)) p r
      ∙ ap (λ (y : Wire). cone_from y (cond (ltb w (σ.s * σ.d)) (2 ^ w) 0) (cond (is_rand x.kind) (2 ^ j) 0) (get_or cones y.a unseen) (get_or cones y.b unseen)) is_item
      ∙ cone_made j (λ v. get_or cones v unseen) e h in
      wire_cases v w
      (λ i. subst (λ (u : ℕ). get_or (set cones w made) u unseen ≡ cone_in R u) (sym i) (get_or-set_same cones w made unseen l ∙ here))
      (λ n. get_or-set_other cones w v made unseen n ∙ h v (omega arith))

  -- the counts with the next wire more
  pub counts_next : (c : Counts) → c ≡ counts_of w ws → with_record c item ≡ counts_of (w + 1) ws
  counts_next c e = ap₂ with_record e is_item ∙ sym (counts_more w ws)
