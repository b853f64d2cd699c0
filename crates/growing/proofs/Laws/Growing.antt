-- Sets as they lie in their places, wires passed over, and the bound of a set.
use Rattle.std.specs.Prelude.{◌≡◌, refl, Bool, true, false, not, cond, List, [], ◌∷◌, ◌++◌, ℕ, ◌+◌, ◌≤◌, ◌<◌, length, get_or, take, set}
use Rattle.std.proofs.Common.{sym, ap, ap₂, ◌∙◌, inl, inr, add-one, arith, take-suc}
use Rattle.data.specs.Basics.{one, keep}
use Rattle.document.specs.Routine.{routine_of}
use Rattle.data.specs.ProbeSets.{held, set_of, Asc}
use Rattle.document.specs.Judgements.{inner, judgement_of}
use Rattle.data.proofs.Laws.Tests.{Mem}
use Rattle.document.proofs.Laws.Needed.{asc_low}
use Rattle.data.specs.declared.ProbeSet.{ProbeSet}
use Rattle.data.specs.declared.Wire.{Wire}
use Rattle.data.specs.declared.Shape.{Shape}
use Rattle.counts.specs.Counting.{record_at}
use Rattle.counts.proofs.Laws.Counts.{wire_is}
use Rattle.cones.proofs.Laws.Spared.{Steady, plain_steady, strong_steady}
use Rattle.data.specs.declared.Which.{Which}
use Rattle.data.specs.declared.Which.TheVariants.{Plain, Strong}
use Rattle.growing.specs.declared.Grown.{Grown}
use Rattle.cones.specs.declared.Cone.{Cone}
use Rattle.cones.specs.Seen.{see}
use Rattle.growing.specs.Growing.{grown_by, inner_of, bound_of}

pub steady_of : (which : Which) → Steady (judgement_of which)
steady_of Plain = plain_steady
steady_of Strong = strong_steady

-- ---- sets as they lie in their four places

-- a set holds what it was made of
pub held_of : (ps : List ℕ) → length ps ≤ 4 → held (set_of ps) ≡ ps
unfolding set_of
held_of [] h = refl
held_of (a ∷ []) h = refl
held_of (a ∷ b ∷ []) h = refl
held_of (a ∷ b ∷ c ∷ []) h = refl
held_of (a ∷ b ∷ c ∷ d ∷ []) h = refl
held_of (a ∷ b ∷ c ∷ d ∷ e ∷ ps) h = absurd (omega arith)

last_of : (ps : List ℕ) (w : ℕ) → length ps < 4 → record { places = set (set_of ps).places (length ps) w; len = length ps + 1 } ≡ set_of (ps ++ (w ∷ []))
unfolding set_of
last_of [] w h = refl
last_of (a ∷ []) w h = refl
last_of (a ∷ b ∷ []) w h = refl
last_of (a ∷ b ∷ c ∷ []) w h = refl
last_of (a ∷ b ∷ c ∷ d ∷ ps) w h = absurd (omega arith)

pub held_length : (s : ProbeSet) → s ≡ set_of (held s) → length (held s) ≡ s.len
unfolding set_of
held_length s e = sym (ap (λ (x : ProbeSet). x.len) e)

-- a wire behind the last
pub with_last_lem : (s : ProbeSet) (w : ℕ) → s.len < 4 → s ≡ set_of (held s)
    → record { places = set s.places s.len w; len = s.len + 1 } ≡ set_of (held s ++ (w ∷ []))
with_last_lem s w h e =
    let l = held_length s e in
    ap (λ (x : ProbeSet). record { places = set x.places s.len w; len = s.len + 1 }) e
    ∙ ap (λ (k : ℕ). record { places = set (set_of (held s)).places k w; len = k + 1 }) (sym l)
    ∙ last_of (held s) w (omega arith)

pub grown_is : (g : Grown) (w : ℕ) (cone c : Cone) (s : ProbeSet) → s ≡ set_of (held g.set ++ (w ∷ [])) → c ≡ see g.cone cone.shares cone.rands cone.own
    → record { set = s; cone = c } ≡ grown_by g w cone
unfolding grown_by
grown_is g w cone c s e p = rw (e, p) refl

-- ---- the probed wires that are no outputs

kept_more : (f : ℕ → Bool) (ps : List ℕ) (w : ℕ) → length (keep f (ps ++ (w ∷ []))) ≡ length (keep f ps) + one (f w)
unfolding keep
kept_more f [] w = go (f w)
  where
    go : (b : Bool) → length (cond b (w ∷ []) []) ≡ 0 + one b
    go true = refl
    go false = refl
kept_more f (p ∷ ps) w = go (f p) (kept_more f ps w)
  where
    go : (b : Bool) → length (keep f (ps ++ (w ∷ []))) ≡ length (keep f ps) + one (f w)
        → length (cond b (p ∷ keep f (ps ++ (w ∷ []))) (keep f (ps ++ (w ∷ [])))) ≡ length (cond b (p ∷ keep f ps) (keep f ps)) + one (f w)
    go true e = omega arith
    go false e = e

pub inner_none : (ws : List Wire) → 0 ≡ inner_of ws []
unfolding inner_of keep
inner_none ws = refl

inner_more : (ws : List Wire) (ps : List ℕ) (i : ℕ) → i < length ps
    → inner_of ws (take (i + 1) ps) ≡ inner_of ws (take i ps) + one (not (record_at ws (get_or ps i 0)).out)
unfolding inner_of
inner_more ws ps i h = rw (add-one, take-suc ps i 0) (kept_more (λ w. not (record_at ws w).out) (take i ps) (get_or ps i 0))

-- a wire more that is no output, and one that is
pub inner_counts : (ws : List Wire) (ps : List ℕ) (i k : ℕ) → i < length ps → k ≡ inner_of ws (take i ps) → not (record_at ws (get_or ps i 0)).out ≡ true
    → k + 1 ≡ inner_of ws (take (i + 1) ps)
inner_counts ws ps i k h e t = let z = inner_more ws ps i h in let o = ap one t in omega arith

pub inner_stays : (ws : List Wire) (ps : List ℕ) (i k : ℕ) → i < length ps → k ≡ inner_of ws (take i ps) → not (record_at ws (get_or ps i 0)).out ≡ false
    → k ≡ inner_of ws (take (i + 1) ps)
inner_stays ws ps i k h e t = let z = inner_more ws ps i h in let o = ap one t in omega arith

kept_same : (f g : ℕ → Bool) (ps : List ℕ) → ((v : ℕ) → Mem v ps → f v ≡ g v) → keep f ps ≡ keep g ps
unfolding keep
kept_same f g [] h = refl
kept_same f g (p ∷ ps) h = ap₂ (λ (b : Bool) (r : List ℕ). cond b (p ∷ r) r) (h p (inl refl)) (kept_same f g ps (λ v m. h v (inr m)))

pub bound_is : (which : Which) (σ : Shape) (ws : List Wire) (t : ℕ) (ps : List ℕ) → Asc 0 σ.n ps
    → bound_of which ws t ps ≡ (judgement_of which).bound (routine_of σ ws) t ps
unfolding inner_of inner
bound_is Plain σ ws t ps a = refl
bound_is Strong σ ws t ps a = ap length (kept_same _ _ ps (λ v m. ap (λ (x : Wire). not x.out) (sym (wire_is σ ws v (asc_low 0 σ.n ps v a m)))))
