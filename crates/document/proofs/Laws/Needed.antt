-- Needed shares: the run to its end, more probes need no less, and a judgement that bounds by the order passes below where it passes.
use Rattle.std.specs.Prelude.{◌≡◌, refl, Bool, true, false, cond, ◌≢◌, ◌↔◌, List, [], ◌∷◌, ℕ, suc, ◌+◌, ◌*◌, ◌-◌, ◌≤◌, ◌<◌, ltb, length}
use Rattle.std.proofs.Common.{ap, ◌∙◌, inl, inr, zero-le, le_refl, arith}
use Rattle.std.proofs.Math.Path.{subst}
use Rattle.std.proofs.Math.Nat.{mul-le-mul_right}
use Rattle.std.proofs.Math.Decide.{dec_le, le_ind}
use Rattle.std.specs.Int.Count.{ones}
use Rattle.std.proofs.lemmas.List.{length-replicate}
use Rattle.data.specs.Basics.{tally, at}
use Rattle.document.specs.Routine.{Routine, size}
use Rattle.data.specs.ProbeSets.{insert, Asc}
use Rattle.document.specs.Padding.{unmarked, probed as probedMarks, first_leaves, steps, last_leaves, live_at_end}
use Rattle.document.specs.Padding.{word, needed_shares, bits_of, needed_of}
use Rattle.data.proofs.Laws.Tests.{clash, ltb_true, ltb_false, tally_more, tally_spare, Mem}
use Rattle.document.proofs.Laws.Marks.{In, mark_length_lem, mark_cases, mark_marks, none_marked}
use Rattle.document.proofs.Laws.Rule.{Live, probed, monotone}
use Rattle.document.proofs.Laws.Live.{net, live_is}
use Rattle.document.proofs.Laws.Steps.{Ended, ended, left_most}
use Rattle.document.proofs.Laws.Sound.{Sound, first_length}
use Rattle.document.proofs.Laws.Splitting.{place_inside}
use Rattle.document.proofs.Laws.Words.{ones_part}

-- ---- probed wires

pub probed_length : (ps : List ℕ) → length (probedMarks ps) ≡ 128
unfolding probedMarks
probed_length ps = mark_length_lem ps unmarked ∙ length-replicate 128 false

pub probed→ : (ps : List ℕ) (v : ℕ) → In (at (probedMarks ps)) v → Mem v ps
unfolding probedMarks
probed→ ps v i = mark_cases ps unmarked v i (λ m. m) (λ j. clash j (none_marked 128 v))

pub probed← : (ps : List ℕ) (v : ℕ) → v < 128 → Mem v ps → In (at (probedMarks ps)) v
unfolding probedMarks
probed← ps v h m = let z : length unmarked ≡ 128 = length-replicate 128 false in mark_marks ps unmarked v m (omega arith)

-- ---- ascending lists of wires from lo on, below n

pub asc_low : (lo n : ℕ) (ps : List ℕ) (v : ℕ) → Asc lo n ps → Mem v ps → v < n
asc_low lo n [] v a m = absurd m
asc_low lo n (p ∷ ps) v a (inl e) = let z = a.1 in omega arith
asc_low lo n (p ∷ ps) v a (inr m) = asc_low (suc p) n ps v a.2 m

-- qs is ps with c put in
pub record Grown (lo n c : ℕ) (ps qs : List ℕ) : Type 0 where
  pub asc : Asc lo n qs
  pub size : length qs ≡ suc (length ps)
  pub here : Mem c qs
  pub there : (v : ℕ) → Mem v ps → Mem v qs

pub inserted : (lo n c : ℕ) (ps : List ℕ) → lo ≤ c → c < n → (Mem c ps → ⊥) → Asc lo n ps → Grown lo n c ps (insert c ps)
unfolding insert
inserted lo n c [] l h m a = record { asc = (l, h, tt); size = refl; here = inl refl; there = λ v k. absurd k }
inserted lo n c (p ∷ ps) l h m a = go (ltb c p) refl (inserted (suc p) n c ps)
  where
    go : (b : Bool) → ltb c p ≡ b → (suc p ≤ c → c < n → (Mem c ps → ⊥) → Asc (suc p) n ps → Grown (suc p) n c ps (insert c ps))
        → Grown lo n c (p ∷ ps) (cond b (c ∷ p ∷ ps) (p ∷ insert c ps))
    go true e rest = record { asc = (l, h, (ltb_true c p e, a.1, a.2)); size = refl; here = inl refl; there = λ v k. inr k }
    go false e rest =
        let p≤c = ltb_false c p e in
        let apart : c ≢ p = λ q. m (inl q) in
        let g = rest (omega arith) h (λ k. m (inr k)) a.2 in
        record {
          asc = (a.0, a.1, g.asc);
          size = ap suc g.size;
          here = inr g.here;
          there = λ v k. elim k [ inl q ↦ inl q | inr i ↦ inr (g.there v i) ];
        }

-- ---- what a set observes: the probes, and more with more probes

pub record Watch (R : Routine) (obs : List ℕ → List ℕ) : Type 0 where
  pub inside : (ps : List ℕ) → ((v : ℕ) → Mem v ps → v < size R) → (v : ℕ) → Mem v (obs ps) → v < size R
  pub self : (ps : List ℕ) (v : ℕ) → Mem v ps → Mem v (obs ps)
  pub more : (ps qs : List ℕ) → ((v : ℕ) → Mem v ps → Mem v qs) → (v : ℕ) → Mem v (obs ps) → Mem v (obs qs)

pub watch_same : (R : Routine) → Watch R (λ ps. ps)
watch_same R = record { inside = λ ps h. h; self = λ ps v m. m; more = λ ps qs h. h }

-- each set of 1 to t wires needs at most t shares of each secret
pub record WithinOrder (R : Routine) (obs : List ℕ → List ℕ) (t : ℕ) : Type 0 where
  pub passes : (ps : List ℕ) → Asc 0 (size R) ps → 0 < length ps → length ps ≤ t → (i : ℕ) → i < R.S → needed_of R (obs ps) i ≤ t

module _ (R : Routine) (so : Sound R) where
  -- ---- the run to its end

  pub ended_at : (ps : List ℕ) → Ended R (probedMarks ps) (first_leaves R) (last_leaves R ps)
  unfolding last_leaves steps
  ended_at ps =
      let l = probed_length ps in
      let m = first_length R in
      let f = so.few in
      ended R so.earlier so.within (probedMarks ps) (omega arith) (size R) (first_leaves R) (omega arith) (left_most R (first_leaves R))

  pub needed_live : (ps : List ℕ) (v : ℕ) → In (at (live_at_end R ps)) v ↔ Live (net R) (at (probedMarks ps)) (at (last_leaves R ps)) v
  unfolding live_at_end
  needed_live ps v = let l = probed_length ps in let f = so.few in live_is R so.earlier (last_leaves R ps) so.within (probedMarks ps) (omega arith) v

  -- a probed wire is live
  pub needed_probed : (ps : List ℕ) (v : ℕ) → v < size R → Mem v ps → In (at (live_at_end R ps)) v
  needed_probed ps v h m = let f = so.few in (needed_live ps v).1 (probed (probed← ps v (omega arith) m))

  -- 3.25: adding probes never removes a wire that is live at the end
  pub needed_mono : (ps qs : List ℕ) → ((v : ℕ) → Mem v ps → Mem v qs) → ((v : ℕ) → Mem v ps → v < size R)
      → (v : ℕ) → In (at (live_at_end R ps)) v → In (at (live_at_end R qs)) v
  needed_mono ps qs sub low v i =
      let e = ended_at ps in
      let f = so.few in
      (needed_live qs v).1 (monotone (net R) (at (probedMarks ps)) (at (probedMarks qs)) (at (first_leaves R))
      (λ u j. let k = probed→ ps u j in let b = low u k in probed← qs u (omega arith) (sub u k))
      e.run e.final (ended_at qs).run v ((needed_live ps v).0 i))

  -- 3.28: the ones of a secret's bits are how many of its shares are live at the end
  pub needed_tally : (ps : List ℕ) (i : ℕ) → i < R.S → needed_of R ps i ≡ tally R.D (λ j. at (live_at_end R ps) (i * R.D + j))
  unfolding needed_of bits_of needed_shares
  needed_tally ps i h =
      let m = R.S * R.D - (i * R.D + R.D) in
      let fits : i * R.D + R.D + m ≡ R.S * R.D = omega (arith, mul-le-mul_right R.D h) in
      subst (λ (z : ℕ). ones (bits_of R i (word z (at (live_at_end R ps)))) ≡ tally R.D (λ j. at (live_at_end R ps) (i * R.D + j)))
      fits (ones_part (i * R.D) R.D m (at (live_at_end R ps)))

  -- ---- lower orders (9.13)

  module _ (obs : List ℕ → List ℕ) (wa : Watch R obs) where
    -- if a set of t wires needed t + 1 shares of a secret, one unneeded share more would need t + 2
    lower_one : (t : ℕ) → suc t < R.D → WithinOrder R obs (suc t) → WithinOrder R obs t
    lower_one t h p = record { passes = λ ps a l m i k. go ps a l m i k (dec_le (needed_of R (obs ps) i) t) }
      where
        go : (ps : List ℕ) → Asc 0 (size R) ps → 0 < length ps → length ps ≤ t → (i : ℕ) → i < R.S
            → Dec (needed_of R (obs ps) i ≤ t) → needed_of R (obs ps) i ≤ t
        go ps a l m i k (yes e) = e
        go ps a l m i k (no over) =
            let f : ℕ → Bool = λ j. at (live_at_end R (obs ps)) (i * R.D + j) in
            let is = needed_tally (obs ps) i k in
            let q = p.passes ps a l (omega arith) i k in
            let s = tally_spare R.D f (omega arith) in
            let c = i * R.D + s.0 in
            let all = so.shares in
            let c<n : c < size R = omega (arith, place_inside R.S R.D i s.0 k s.1) in
            let g = inserted 0 (size R) c ps zero-le c<n (λ x. clash (needed_probed (obs ps) c c<n (wa.self ps c x)) s.2) a in
            let one_more = g.size in
            let is' = needed_tally (obs (insert c ps)) i k in
            let r = p.passes (insert c ps) g.asc (omega arith) (omega arith) i k in
            let more = tally_more R.D f (λ j. at (live_at_end R (obs (insert c ps))) (i * R.D + j)) s.0 s.1 s.2
            (needed_probed (obs (insert c ps)) c c<n (wa.self (insert c ps) c g.here))
            (λ u _ e. needed_mono (obs ps) (obs (insert c ps)) (wa.more ps (insert c ps) g.there)
            (wa.inside ps (λ v. asc_low 0 (length R.wires) ps v a)) (i * R.D + u) e) in
            omega arith

    pub lower : (k t : ℕ) → k ≤ t → t < R.D → WithinOrder R obs t → WithinOrder R obs k
    lower k t h = le_ind (λ (j : ℕ). j < R.D → WithinOrder R obs j → WithinOrder R obs k) (λ _ p. p) (λ j _ f l p. f (omega arith) (lower_one j l p)) t h

    -- bounding each set by its own size comes to the same
    pub own_size : (t : ℕ) → t < R.D
        → WithinOrder R obs t ↔ ((ps : List ℕ) → Asc 0 (size R) ps → 0 < length ps → length ps ≤ t → (i : ℕ) → i < R.S → needed_of R (obs ps) i ≤ length ps)
    own_size t h = (
      λ p ps a l m i k. (lower (length ps) t m h p).passes ps a l (le_refl (length ps)) i k,
      λ f. record { passes = λ ps a l m i k. let z = f ps a l m i k in omega arith },
    )
