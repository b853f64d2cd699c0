-- A whole set judged: not open by an own random, not open by its cones, or as its run to the end says.
use Rattle.std.specs.Prelude.{◌≡◌, refl, false, ◌≢◌, ℕ, zero, suc, ◌*◌, ◌/◌, ◌%◌, ◌^◌, ◌<◌, get_or}
use Rattle.std.proofs.Common.{sym, ◌∙◌, inl, inr, arith, get_or-take}
use Rattle.std.proofs.Math.Path.{ap, ap₂, subst}
use mathlib.Core.List.{List, [], ◌∷◌, ◌++◌, append-nil}
use Rattle.std.specs.Int.Count.{ones}
use Rattle.std.proofs.Math.Dec.{ltb}
use Rattle.std.proofs.Math.ListN.{length, replicate, length-append, length-replicate}
use Rattle.std.proofs.Math.Seq.{append_snoc, length-take-le}
use Rattle.data.specs.Basics.{some, Marks}
use Rattle.document.specs.Routine.{Routine, size}
use Rattle.data.specs.ProbeSets.{held, set_of, Asc}
use Rattle.document.specs.Padding.{probed, bits_of, needed_shares, needed_of}
use Rattle.document.specs.Judgements.{is_open, judgement_of}
use Rattle.data.proofs.Laws.Tests.{ltb_false, some_none, Mem}
use Rattle.document.proofs.Laws.Needed.{asc_low}
use Rattle.document.proofs.Laws.Sound.{Sound}
use Rattle.data.specs.declared.ProbeSet.{ProbeSet}
use Rattle.records.proofs.Laws.Fitting.{fit_of}
use Rattle.cones.proofs.Laws.Making.{fit_sound}
use Rattle.cones.specs.Seen.{Seen, see_wire, see_all, unseen}
use Rattle.cones.proofs.Laws.Seen.{Sees, sees_none, sees_more}
use Rattle.cones.proofs.Laws.Spared.{own_closed, cones_closed}
use Rattle.marks.specs.Passes.{LowProbes}
use Rattle.shares.specs.Words.{ones_of, some_over}
use Rattle.rule.specs.Run.{needed_by}
use Rattle.rule.proofs.Laws.Run.{needed_is}
use Rattle.growing.specs.declared.Question.{Question}
use Rattle.growing.specs.declared.Grown.{Grown}
use Rattle.growing.specs.Growing.{routine_asked, opens_in, seen_of, bound_of, Asked, Holding}
use Rattle.growing.proofs.Laws.Growing.{steady_of, held_length, bound_is}

-- what is seen wire by wire is seen of all
sees_from : (R : Routine) → Sound R → (qs : List ℕ) (z : Seen) → Sees R qs z → (ps : List ℕ) → ((v : ℕ) → Mem v ps → v < size R)
    → Sees R (qs ++ ps) (see_all R z ps)
unfolding see_all
sees_from R so qs z h [] low = subst (λ (l : List ℕ). Sees R l z) (sym (append-nil qs)) h
sees_from R so qs z h (p ∷ ps) low =
    subst (λ (l : List ℕ). Sees R l (see_all R (see_wire R z p) ps)) (append_snoc qs p ps)
    (sees_from R so (qs ++ (p ∷ [])) (see_wire R z p) (sees_more R so.earlier so.within qs z p (low p (inl refl)) h) ps (λ v m. low v (inr m)))

-- a place of a set is one of its wires
place_wire : (ps : List ℕ) (v n : ℕ) → Asc 0 n ps → v < length ps → get_or ps v 0 < n
place_wire ps v n a h = asc_low 0 n ps (get_or ps v 0) a (place_mem ps v h)
  where
    place_mem : (ps : List ℕ) (v : ℕ) → v < length ps → Mem (get_or ps v 0) ps
    place_mem [] v h = absurd (omega arith)
    place_mem (p ∷ ps) zero h = inl refl
    place_mem (p ∷ ps) (suc v) h = inr (place_mem ps v (omega arith))

module _ {q : Question} {g : Grown} (A : Asked q g) where
  abbrev R : Routine
  R = routine_asked q

  abbrev ps : List ℕ
  ps = held g.set

  sound : Sound R
  sound = fit_sound q.listing.now.shape q.listing.now.wires q.fits

  sized : size R ≡ q.listing.now.shape.n
  sized = (fit_of q.listing.now.shape q.listing.now.wires q.fits).sized

  ascends : Asc 0 (size R) ps
  ascends = subst (λ (m : ℕ). Asc 0 m ps) (sym sized) A.grows.ascends

  long : length ps ≡ g.set.len
  long = held_length g.set A.grows.whole

  sees : Sees R ps (seen_of g)
  sees = subst (λ (z : Seen). Sees R ps z) (sym A.grows.seen)
      (sees_from R sound [] unseen (sees_none R) ps (λ v m. asc_low 0 (size R) ps v ascends m))

  -- the wires of the set stand among the records
  pub holding : Holding q.listing.now.shape.n q.listing.now.wires g.set
  unfolding set_of
  holding = record {
    four = A.grows.few;
    sized = ap (λ (x : ProbeSet). length x.places) A.grows.whole
        ∙ length-take-le 4 (ps ++ replicate 4 0) (let a = length-append ps (replicate 4 0) in
        let b : length {A = ℕ} (replicate 4 0) ≡ 4 = length-replicate {A = ℕ} 4 0 in omega arith);
    few = (fit_of q.listing.now.shape q.listing.now.wires q.fits).few;
    wires = λ v h. let l = long in let z = place_wire ps v q.listing.now.shape.n A.grows.ascends (omega arith) in
        subst (λ (x : ℕ). x < q.listing.now.shape.n) (get_or-take g.set.len g.set.places v 0 h) z;
  }

  pub low_probes : LowProbes g.set
  low_probes = let h = holding in record { at_most = h.four; low_at = λ v l. let a = h.wires v l in let b = h.few in omega arith }

  pub own_open : g.cone.own ≢ 0 → opens_in q ps ≡ false
  own_open h = own_closed (judgement_of q.which) (steady_of q.which) R sound q.t ps ascends (seen_of g) sees h
      (λ qs a p l. A.smaller qs a p (let z = long in omega arith))

  bound_of_lem : (b : ℕ) → b ≡ bound_of q.which q.listing.now.wires q.t ps → b ≡ (judgement_of q.which).bound R q.t ps
  bound_of_lem b e = e ∙ bound_is q.which q.listing.now.shape q.listing.now.wires q.t ps A.grows.ascends

  pub cones_open : (b : ℕ) → b ≡ bound_of q.which q.listing.now.wires q.t ps → g.cone.shares < 2 ^ 64
      → some_over q.listing.now.shape.s q.listing.now.shape.d g.cone.shares b ≡ false → opens_in q ps ≡ false
  unfolding some_over ones_of bits_of
  cones_open b e small o = cones_closed (judgement_of q.which) (steady_of q.which) R sound q.t ps ascends (seen_of g) sees small
      (λ i i<S. let z = ltb_false b (ones (g.cone.shares / 2 ^ (i * q.listing.now.shape.d) % 2 ^ q.listing.now.shape.d))
      (some_none q.listing.now.shape.s _ o i i<S) in let y = bound_of_lem b e in omega arith)

  pub run_open : (b word : ℕ) (probe : Marks) → b ≡ bound_of q.which q.listing.now.wires q.t ps → probe ≡ probed ps → word ≡ needed_by R probe
      → some_over q.listing.now.shape.s q.listing.now.shape.d word b ≡ opens_in q ps
  unfolding some_over ones_of is_open needed_of bits_of
  run_open b word probe e m u =
      let w : word ≡ needed_shares R ps = u ∙ ap (needed_by R) m ∙ needed_is R ps in
      ap₂ (λ (c v : ℕ). some q.listing.now.shape.s (λ i. ltb c (ones (v / 2 ^ (i * q.listing.now.shape.d) % 2 ^ q.listing.now.shape.d)))) (bound_of_lem b e) w
      ∙ ap (λ (qs : List ℕ). some q.listing.now.shape.s (λ i. ltb ((judgement_of q.which).bound R q.t ps) (needed_of R qs i)))
      (sym ((steady_of q.which).watches R ps))
