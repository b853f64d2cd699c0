-- What spares a run: a set with an own random needs what a smaller set needs, and no set needs shares beyond its cones.
use Rattle.std.specs.Prelude.{◌≡◌, Bool, cond, ◌≢◌, ◌↔◌, List, [], ◌∷◌, ℕ, zero, suc, ◌+◌, ◌-◌, ◌*◌, ◌^◌, ◌≤◌, ◌<◌, eqb, ltb, length}
use Rattle.std.proofs.Math.Path.{refl}
use Rattle.std.proofs.Common.{sym, ap, ◌∙◌, subst, inl, inr, zero-le, le_refl}
use Rattle.std.proofs.Math.Bool.{true, false, not}
use Rattle.std.proofs.Math.Nat.{mul-le-mul_right}
use native.Mathlib.Omega.{arith}
use Rattle.std.specs.Int.Count.{ones}
use Rattle.data.specs.Basics.{tally, some, keep, at}
use Rattle.document.specs.Routine.{Routine, size, wire, is_rand}
use Rattle.document.specs.Padding.{probed as probedMarks, first_leaves, last_leaves, live_at_end, pads, pads_of, bits_of, needed_of}
use Rattle.document.specs.Judgements.{Judgement, plain, strong, inner, is_open}
use Rattle.data.proofs.Laws.Tests.{clash, out_of, bool_cases, eqb_true, true_eqb, ltb_true, ltb_false, wire_cases, tally_ext}
use Rattle.data.proofs.Laws.Tests.{tally_mono, Mem}
use Rattle.document.proofs.Laws.Lists.{among_keep, among_kept, kept_few}
use Rattle.document.proofs.Laws.Rule.{Live, grows}
use Rattle.document.proofs.Laws.Live.{net}
use Rattle.document.proofs.Laws.Sound.{Sound, first_leaf←}
use Rattle.document.proofs.Laws.Needed.{probed→, probed←, asc_low, ended_at, needed_live, needed_tally}
use Rattle.document.proofs.Laws.Judging.{closed_exactly}
use Rattle.data.specs.ProbeSets.{Asc}
use Rattle.data.specs.declared.Kind.{Kind}
use Rattle.cones.proofs.Laws.Cone.{live_cone}
use Rattle.cones.proofs.Laws.Own.{Own, itself, above, Without, own_spared}
use Rattle.cones.proofs.Laws.Bits.{has, has_some, ones_has}
use Rattle.cones.specs.Seen.{Seen}
use Rattle.cones.proofs.Laws.Seen.{Alone, Sees}

-- ---- a set without one wire

unfoldable pub without : ℕ → List ℕ → List ℕ
without x ps = keep (λ v. not (eqb v x)) ps

kept_asc : (f : ℕ → Bool) (lo n : ℕ) (ps : List ℕ) → Asc lo n ps → Asc lo n (keep f ps)
unfolding keep
kept_asc f lo n [] a = tt
kept_asc f lo n (p ∷ ps) a = go (f p) (kept_asc f (suc p) n ps a.2)
  where
    up : (qs : List ℕ) → Asc (suc p) n qs → Asc lo n qs
    up [] b = tt
    up (q ∷ qs) b = (let z = a.0 in let y = b.0 in omega arith, b.1, b.2)

    go : (b : Bool) → Asc (suc p) n (keep f ps) → Asc lo n (cond b (p ∷ keep f ps) (keep f ps))
    go true k = (a.0, a.1, k)
    go false k = up (keep f ps) k

pub without_less : (x : ℕ) (ps : List ℕ) → Mem x ps → length (without x ps) < length ps
unfolding without keep
without_less x [] m = absurd m
without_less x (p ∷ ps) m = wire_cases p x
    (λ e. let z = kept_few (λ v. not (eqb v x)) ps in
    subst (λ (b : Bool). length (cond b (p ∷ keep (λ v. not (eqb v x)) ps) (keep (λ v. not (eqb v x)) ps)) < length (p ∷ ps)) (sym (ap not (true_eqb p x e)))
    (omega arith))
    (λ e. let z = without_less x ps (elim m [ inl q ↦ absurd (e (sym q)) | inr k ↦ k ]) in
    subst (λ (b : Bool). length (cond b (p ∷ keep (λ v. not (eqb v x)) ps) (keep (λ v. not (eqb v x)) ps)) < length (p ∷ ps))
    (sym (ap not (out_of (λ q. e (eqb_true p x q))))) (omega arith))

pub without_asc : (x n : ℕ) (ps : List ℕ) → Asc 0 n ps → Asc 0 n (without x ps)
unfolding without
without_asc x n ps a = kept_asc (λ v. not (eqb v x)) 0 n ps a

tally_none : (m : ℕ) → tally m (λ _. false) ≡ 0
unfolding tally
tally_none zero = refl
tally_none (suc m) = let z = tally_none m in omega arith

module _ (R : Routine) (so : Sound R) where
  -- a wire with an own random is no share
  own_no_share : {r x : ℕ} → Own R r x → R.S * R.D ≤ x
  unfolding pads pads_of
  own_no_share {r} {x} o = go o
    where
      go : {z : ℕ} → Own R r z → R.S * R.D ≤ z
      go (itself i) = bool_cases (ltb r (R.S * R.D)) (λ e. clash i (ap is_rand (so.kinds r (ltb_true r (R.S * R.D) e)))) (ltb_false r (R.S * R.D))
      go (above {x = z} {a = a} m _ _) = bool_cases (ltb z (R.S * R.D))
          (λ e. absurd (subst (λ (k : Kind). Mem a (pads_of k (wire R z).a (wire R z).b)) (so.kinds z (ltb_true z (R.S * R.D) e)) m))
          (ltb_false z (R.S * R.D))

  marked_without : (ps : List ℕ) (x : ℕ) → ((v : ℕ) → Mem v ps → v < size R) → Without (at (probedMarks ps)) (at (probedMarks (without x ps))) x
  unfolding without
  marked_without ps x low = record {
    sub = λ v i. let k = among_kept (λ v. not (eqb v x)) v ps (probed→ _ v i) in let b = low v k.0 in let f = so.few in probed← ps v (omega arith) k.0;
    else = λ v i n. let k = probed→ ps v i in let b = low v k in let f = so.few in
        probed← _ v (omega arith) (among_keep (λ v. not (eqb v x)) v ps k (ap not (out_of (λ q. n (eqb_true v x q)))));
    gone = out_of (λ i. clash (true_eqb x x refl) (go (eqb x x) (among_kept (λ v. not (eqb v x)) x ps (probed→ _ x i)).1));
  }
    where
      go : (b : Bool) → not b ≡ true → b ≡ false
      go true e = clash e refl
      go false e = refl

  -- the set needs just what it needs without the wire that has an own random
  pub alone_needs : (ps : List ℕ) → Asc 0 (size R) ps → (j : ℕ) (a : Alone R ps j) (i : ℕ) → i < R.S → needed_of R ps i ≡ needed_of R (without a.wire_of ps) i
  alone_needs ps asc j a i i<S =
      let x = a.wire_of in
      let o = a.has_own in
      let low : (v : ℕ) → Mem v ps → v < size R = λ v. asc_low 0 (size R) ps v asc in
      let x<n = low x a.among in
      let f = so.few in
      let e = ended_at R so ps in
      let e' = ended_at R so (without x ps) in
      let grown = grows (net R) (at (probedMarks ps)) (at (probedMarks ps)) (at (first_leaves R)) (λ w h. h) e.run in
      let spared : (v : ℕ) → v ≢ x → Live (net R) (at (probedMarks ps)) (at (last_leaves R ps)) v ↔ Live (net R) (at (probedMarks (without x ps)))
      (at (last_leaves R (without x ps))) v =
      own_spared R so.earlier (at (probedMarks ps)) (at (probedMarks (without x ps))) (at (first_leaves R)) (at (last_leaves R ps))
      (at (last_leaves R (without x ps))) x o.rand
      (marked_without ps x low) e.run e.final e'.run e'.final grown (λ v k. grown v (first_leaf← R f v k)) o.own
      (probed← ps x (omega arith) a.among) (λ y k n c. a.others y (probed→ ps y k) n c) in
      needed_tally R so ps i i<S
      ∙ tally_ext R.D _ _ (λ k k<D. same ps x (i * R.D + k) (spared (i * R.D + k) (let z = own_no_share o.own in
      let b = mul-le-mul_right R.D i<S in omega arith)))
      ∙ sym (needed_tally R so (without x ps) i i<S)
    where
      same : (ps : List ℕ) (x v : ℕ) → Live (net R) (at (probedMarks ps)) (at (last_leaves R ps)) v ↔ Live (net R) (at (probedMarks (without x ps)))
          (at (last_leaves R (without x ps))) v
          → at (live_at_end R ps) v ≡ at (live_at_end R (without x ps)) v
      same ps x v iff =
          let l = needed_live R so ps v in
          let l' = needed_live R so (without x ps) v in
          bool_cases (at (live_at_end R (without x ps)) v)
          (λ t. l.1 (iff.1 (l'.0 t)) ∙ sym t)
          (λ t. out_of (λ k. clash (l'.1 (iff.0 (l.0 k))) t) ∙ sym t)

  -- the empty set needs nothing
  none_needed : (i : ℕ) → i < R.S → needed_of R [] i ≡ 0
  none_needed i i<S =
      needed_tally R so [] i i<S ∙ tally_ext R.D _ (λ _. false) (λ k _. out_of (λ t.
      let c = live_cone R (at (probedMarks [])) (at (last_leaves R [])) ((needed_live R so [] (i * R.D + k)).0 t) in absurd (probed→ [] c.0 c.1)))
      ∙ tally_none R.D

  -- no secret needs more than its shares in the cones
  pub cone_bounds : (ps : List ℕ) → Asc 0 (size R) ps → (z : Seen) → Sees R ps z → z.shares < 2 ^ 64 → (i : ℕ) → i < R.S
      → needed_of R ps i ≤ ones (bits_of R i z.shares)
  unfolding bits_of
  cone_bounds ps asc z s small i i<S =
      let m = 64 - (i * R.D + R.D) in
      let most = mul-le-mul_right R.D i<S in
      let eight = so.few_shares in
      let secrets = mul-le-mul_right R.D so.few_secrets in
      let fits : i * R.D + R.D + m ≡ 64 = omega arith in
      let a = needed_tally R so ps i i<S in
      let b = ones_has (i * R.D) R.D m z.shares (subst (λ (k : ℕ). z.shares < 2 ^ k) (sym fits) small) in
      let c = tally_mono R.D (λ k. at (live_at_end R ps) (i * R.D + k)) (λ k. has z.shares (i * R.D + k)) (λ k k<D t.
      let l = live_cone R (at (probedMarks ps)) (at (last_leaves R ps)) ((needed_live R so ps (i * R.D + k)).0 t) in
      s.sees_shares l.0 (i * R.D + k) (probed→ ps l.0 l.1) l.2 (omega arith)) in
      omega arith

-- ---- judgements that these serve

-- a judgement that observes the probes alone, and bounds a larger set no lower
pub record Steady (J : Judgement) : Type 0 where
  pub watches : (R : Routine) (ps : List ℕ) → J.observes R ps ≡ ps
  pub bounds : (R : Routine) (t x : ℕ) (ps : List ℕ) → J.bound R t (without x ps) ≤ J.bound R t ps

pub plain_steady : Steady plain
plain_steady = record { watches = λ R ps. refl; bounds = λ R t x ps. le_refl t }

kept_kept : (f g : ℕ → Bool) (ps : List ℕ) → length (keep f (keep g ps)) ≤ length (keep f ps)
unfolding keep
kept_kept f g [] = zero-le
kept_kept f g (p ∷ ps) = go (g p) (f p) refl (kept_kept f g ps)
  where
    go : (b c : Bool) → f p ≡ c → length (keep f (keep g ps)) ≤ length (keep f ps)
        → length (keep f (cond b (p ∷ keep g ps) (keep g ps))) ≤ length (cond c (p ∷ keep f ps) (keep f ps))
    go true true e h = subst (λ (d : Bool). length (cond d (p ∷ keep f (keep g ps)) (keep f (keep g ps))) ≤ suc (length (keep f ps))) (sym e) (omega arith)
    go true false e h = subst (λ (d : Bool). length (cond d (p ∷ keep f (keep g ps)) (keep f (keep g ps))) ≤ length (keep f ps)) (sym e) h
    go false true e h = omega arith
    go false false e h = h

pub strong_steady : Steady strong
unfolding inner without
strong_steady = record { watches = λ R ps. refl; bounds = λ R t x ps. kept_kept (λ w. not (wire R w).out) (λ v. not (eqb v x)) ps }

module _ (J : Judgement) (steady : Steady J) (R : Routine) (so : Sound R) (t : ℕ) where
  closed : (ps : List ℕ) → ((i : ℕ) → i < R.S → needed_of R ps i ≤ J.bound R t ps) → is_open J R t ps ≡ false
  closed ps h = (closed_exactly J R t ps).1 (λ i i<S.
      let a = ap (λ (qs : List ℕ). needed_of R qs i) (steady.watches R ps) in let b = h i i<S in omega arith)

  needs_of : (ps : List ℕ) → is_open J R t ps ≡ false → (i : ℕ) → i < R.S → needed_of R ps i ≤ J.bound R t ps
  needs_of ps e i i<S =
      let a = ap (λ (qs : List ℕ). needed_of R qs i) (steady.watches R ps) in let b = (closed_exactly J R t ps).0 e i i<S in omega arith

  -- a set with an own random is not open, where no smaller set is
  pub own_closed : (ps : List ℕ) → Asc 0 (size R) ps → (z : Seen) → Sees R ps z → z.own ≢ 0
      → ((qs : List ℕ) → Asc 0 (size R) qs → 0 < length qs → length qs < length ps → is_open J R t qs ≡ false) → is_open J R t ps ≡ false
  own_closed ps asc z s some smaller =
      let b = has_some z.own some in
      let a = s.sees_own b.0 b.1 in
      closed ps (λ i i<S. go (without a.wire_of ps) i i<S (alone_needs R so ps asc b.0 a i i<S) (steady.bounds R t a.wire_of ps)
      (without_asc a.wire_of (size R) ps asc) (without_less a.wire_of ps a.among))
    where
      go : (qs : List ℕ) → (i : ℕ) → i < R.S → needed_of R ps i ≡ needed_of R qs i → J.bound R t qs ≤ J.bound R t ps → Asc 0 (size R) qs
          → length qs < length ps → needed_of R ps i ≤ J.bound R t ps
      go [] i i<S same le asc' less = let z = none_needed R so i i<S in omega arith
      go (q ∷ qs) i i<S same le asc' less = let z = needs_of (q ∷ qs) (smaller (q ∷ qs) asc' (omega arith) less) i i<S in omega arith

  -- a set whose cones hold no more than the bound of each secret is not open
  pub cones_closed : (ps : List ℕ) → Asc 0 (size R) ps → (z : Seen) → Sees R ps z → z.shares < 2 ^ 64
      → ((i : ℕ) → i < R.S → ones (bits_of R i z.shares) ≤ J.bound R t ps) → is_open J R t ps ≡ false
  cones_closed ps asc z s small h = closed ps (λ i i<S. let a = cone_bounds R so ps asc z s small i i<S in let b = h i i<S in omega arith)
