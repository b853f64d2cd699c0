-- What is seen of a growing set is so: the shares and randoms in its cones, and the randoms own to one of its wires.
use Rattle.std.specs.Prelude.{◌≡◌, refl, true, not, ◌≢◌, List, [], ◌∷◌, ◌++◌, ℕ, ◌*◌, ◌<◌, get_or}
use Rattle.std.proofs.Common.{sym, ◌∙◌, subst, inl, inr}
use Rattle.document.specs.Routine.{Routine, size, wire, is_rand, rands_before}
use Rattle.data.proofs.Laws.Tests.{clash, and_l, and_r, not_t, or_cases, or_l, or_r, Mem}
use Rattle.document.proofs.Laws.Live.{Earlier, Within}
use Rattle.cones.proofs.Laws.Cone.{Cone}
use Rattle.cones.specs.Bits.{minus}
use Rattle.cones.proofs.Laws.Bits.{has, has_or, has_minus, has_none}
use Rattle.cones.specs.Tables.{share_cones, rand_cones, own_rands}
use Rattle.cones.proofs.Laws.Tables.{share_cone, rand_cone, Owned, owned}
use Rattle.cones.specs.Seen.{Seen, see, unseen, see_wire, see_all}

pub see_more : (R : Routine) (z : Seen) (ps : List ℕ) (w : ℕ) → see_all R z (ps ++ (w ∷ [])) ≡ see_wire R (see_all R z ps) w
unfolding see_all
see_more R z [] w = refl
see_more R z (p ∷ ps) w = see_more R (see_wire R z p) ps w

-- wire x of the set has a random of its own, at place j among the randoms, that no other wire of the set holds
pub record Alone (R : Routine) (ps : List ℕ) (j : ℕ) : Type 0 where
  pub wire_of : ℕ
  pub among : Mem wire_of ps
  pub has_own : Owned R wire_of j
  pub others : (y : ℕ) → Mem y ps → y ≢ wire_of → Cone R y has_own.rand → ⊥

-- the words say so of the set
pub record Sees (R : Routine) (ps : List ℕ) (z : Seen) : Type 0 where
  pub sees_shares : (y v : ℕ) → Mem y ps → Cone R y v → v < R.S * R.D → has z.shares v ≡ true
  pub sees_rands : (y r : ℕ) → Mem y ps → Cone R y r → is_rand (wire R r).kind ≡ true → has z.rands (rands_before R r) ≡ true
  pub sees_own : (j : ℕ) → has z.own j ≡ true → Alone R ps j

pub sees_none : (R : Routine) → Sees R [] unseen
sees_none R = record { sees_shares = λ y v m. absurd m; sees_rands = λ y r m. absurd m; sees_own = λ j i. clash i (has_none j) }

mem_snoc : {X : Type 0} (v : ℕ) (ps : List ℕ) (w : ℕ) → Mem v (ps ++ (w ∷ [])) → (Mem v ps → X) → (v ≡ w → X) → X
mem_snoc v [] w (inl e) f g = g e
mem_snoc v [] w (inr k) f g = absurd k
mem_snoc v (p ∷ ps) w (inl e) f g = f (inl e)
mem_snoc v (p ∷ ps) w (inr m) f g = mem_snoc v ps w m (λ k. f (inr k)) g

mem_early : (v : ℕ) (ps : List ℕ) (w : ℕ) → Mem v ps → Mem v (ps ++ (w ∷ []))
mem_early v [] w m = absurd m
mem_early v (p ∷ ps) w (inl e) = inl e
mem_early v (p ∷ ps) w (inr m) = inr (mem_early v ps w m)

mem_last : (ps : List ℕ) (w : ℕ) → Mem w (ps ++ (w ∷ []))
mem_last [] w = inl refl
mem_last (p ∷ ps) w = inr (mem_last ps w)

-- a wire more, that was not there, is seen
pub sees_more : (R : Routine) → Earlier R → Within R → (ps : List ℕ) (z : Seen) (w : ℕ) → w < size R → Sees R ps z → Sees R (ps ++ (w ∷ [])) (see_wire R z w)
unfolding see_wire see
sees_more R ok ends ps z w h s = record {
  sees_shares = λ y v m c l. has_or z.shares (get_or (share_cones R (size R)) w 0) v ∙ mem_snoc y ps w m
      (λ k. or_l (has z.shares v) _ (s.sees_shares y v k c l))
      (λ e. or_r (has z.shares v) _ (share_cone R ok (subst (λ (u : ℕ). Cone R u v) e c) h l));
  sees_rands = λ y r m c i. has_or z.rands rand (rands_before R r) ∙ mem_snoc y ps w m
      (λ k. or_l (has z.rands (rands_before R r)) _ (s.sees_rands y r k c i))
      (λ e. or_r (has z.rands (rands_before R r)) _ (rand_cone R ok (subst (λ (u : ℕ). Cone R u r) e c) h i));
  sees_own = λ j i. or_cases (has (minus z.own rand) j) (has (minus own z.rands) j) (sym (has_or (minus z.own rand) (minus own z.rands) j)
      ∙ i) (old j) (new j);
}
  where
    rand : ℕ
    rand = get_or (rand_cones R (size R)) w 0

    own : ℕ
    own = get_or (own_rands R (size R)) w 0

    -- it was own before, and the new wire does not hold it
    old : (j : ℕ) → has (minus z.own rand) j ≡ true → Alone R (ps ++ (w ∷ [])) j
    old j e =
        let t = sym (has_minus z.own rand j) ∙ e in
        let a = s.sees_own j (and_l (has z.own j) (not (has rand j)) t) in
        let o = a.has_own in
        record {
          wire_of = a.wire_of;
          among = mem_early a.wire_of ps w a.among;
          has_own = o;
          others = λ y m n c. mem_snoc y ps w m (λ k. a.others y k n c)
              (λ q. clash (subst (λ (i : ℕ). has rand i ≡ true) o.place (rand_cone R ok (subst (λ (u : ℕ). Cone R u o.rand) q c) h o.is_rand_lem))
              (not_t (has rand j) (and_r (has z.own j) (not (has rand j)) t)));
        }

    -- it is the new wire's own, and no earlier one holds it
    new : (j : ℕ) → has (minus own z.rands) j ≡ true → Alone R (ps ++ (w ∷ [])) j
    new j e =
        let t = sym (has_minus own z.rands j) ∙ e in
        let o = owned R ok ends w h j (and_l (has own j) (not (has z.rands j)) t) in
        record {
          wire_of = w;
          among = mem_last ps w;
          has_own = o;
          others = λ y m n c. mem_snoc y ps w m
              (λ k. clash (subst (λ (i : ℕ). has z.rands i ≡ true) o.place (s.sees_rands y o.rand k c o.is_rand_lem))
              (not_t (has z.rands j) (and_r (has own j) (not (has z.rands j)) t)))
              n;
        }
