-- Own randoms: a random that reaches one probed wire only, by xors and nots alone, pads that wire; so the set needs what it needs without the wire.
use Rattle.std.specs.Prelude.{◌≡◌, true, ◌⊎◌, ◌≢◌, ◌↔◌, ℕ, ◌≤◌, ◌<◌}
use Rattle.std.proofs.Math.Path.{refl, subst}
use Rattle.std.proofs.Math.Logic.{inl, inr}
use Rattle.std.proofs.Common.{le_refl}
use native.Mathlib.Omega.{arith}
use Rattle.document.specs.Routine.{Routine, wire, is_rand, operands}
use Rattle.document.specs.Padding.{pads}
use Rattle.data.proofs.Laws.Tests.{clash, out_of, bool_cases, wire_cases, Mem}
use Rattle.document.proofs.Laws.Marks.{Set, In, Out, Sub}
use Rattle.document.proofs.Laws.Rule.{Live, probed, operand, Run, start, step, Final, monotone, keep, still_live}
use Rattle.document.proofs.Laws.Live.{net, pad_op_of, Earlier}
use Rattle.cones.proofs.Laws.Cone.{Cone, here, down, cone_trans, cone_low, live_cone}

-- r is an own random of x: x is r, or is padded by an operand of which r is an own random, and its other operands do not hold r
pub data Own (R : Routine) (r : ℕ) : ℕ → Type 0 where
  itself : is_rand (wire R r).kind ≡ true → Own R r r
  above : {x a : ℕ} → Mem a (pads R x) → Own R r a → ((v : ℕ) → Mem v (operands R x) → v ≢ a → Cone R v r → ⊥) → Own R r x

pub own_cone : {R : Routine} {r x : ℕ} → Own R r x → Cone R x r
own_cone (itself i) = here
own_cone {R} (above {x = x} {a = a} m o n) = down (pad_op_of R x a m) (own_cone o)

-- u is one of the wires from r up to x
Path : {R : Routine} {r x : ℕ} → Own R r x → ℕ → Type 0
Path {r = r} (itself i) u = u ≡ r
Path (above {x = x} m o n) u = (u ≡ x) ⊎ Path o u

module _ (R : Routine) (ok : Earlier R) where
  path_low : {r x : ℕ} (o : Own R r x) (u : ℕ) → Path o u → u ≤ x
  unfolding Path
  path_low (itself i) u e = omega arith
  path_low (above m o n) u (inl e) = omega arith
  path_low (above {x = x} {a = a} m o n) u (inr p) = let z = path_low o u p in let b = ok x a (pad_op_of R x a m) in omega arith

  -- what lies in the cone of x and holds r is on the path
  own_path : {r x : ℕ} (o : Own R r x) (u : ℕ) → Cone R x u → Cone R u r → Path o u
  unfolding Path
  own_path (itself i) u c d = let a = cone_low R ok c in let b = cone_low R ok d in omega arith
  own_path (above m o n) u here d = inl refl
  own_path (above {x = x} {a = a} m o n) u (down {u = v} k c) d =
      wire_cases v a (λ e. inr (own_path o u (subst (λ (z : ℕ). Cone R z u) e c) d)) (λ e. absurd (n v k e (cone_trans c d)))

  module _ (P L : Set) (fin : Final (net R) P L) (begins : (v : ℕ) → is_rand (wire R v).kind ≡ true → In L v)
      (x r : ℕ) (alone : (y : ℕ) → In P y → y ≢ x → Cone R y r → ⊥) where
    -- the live wires that hold r are on the path up to z, or above z and hold r by wires from z up
    Only : {z : ℕ} → Own R r z → Type 0
    Only {z} o = (u : ℕ) → Live (net R) P L u → Cone R u r → Path o u ⊎ ((z < u) × ((v : ℕ) → Mem v (operands R u) → Cone R v r → z ≤ v))

    only_below : (z a : ℕ) (m : Mem a (pads R z)) (o : Own R r a) (n : (v : ℕ) → Mem v (operands R z) → v ≢ a → Cone R v r → ⊥) → Only (above m o n) → Only o
    unfolding Only Path
    only_below z a m o n h u l c = go (h u l c)
      where
        low : a < z
        low = ok z a (pad_op_of R z a m)

        go : ((u ≡ z) ⊎ Path o u) ⊎ ((z < u) × ((v : ℕ) → Mem v (operands R u) → Cone R v r → z ≤ v))
            → Path o u ⊎ ((a < u) × ((v : ℕ) → Mem v (operands R u) → Cone R v r → a ≤ v))
        go (inl (inl e)) = inr (
          omega (arith, low),
          λ v k d. wire_cases v a (λ q. omega arith)
              (λ q. absurd (n v (subst (λ (y : ℕ). Mem v (operands R y)) e k) q d)),
        )
        go (inl (inr p)) = inl p
        go (inr p) = inr (omega (arith, low, p.0), λ v k d. let b = p.1 v k d in omega (arith, low))

    -- along the path, what is live at the end is a leaf
    leaf_up : {z : ℕ} (o : Own R r z) → Only o → z ≤ x → Live (net R) P L z → In L z
    unfolding Only Path
    leaf_up (itself i) h b l = begins r i
    leaf_up {z} (above {a = a} m o n) h b l = bool_cases (L z) (λ i. i) (λ out. absurd (fin z a (record {
      alive = l;
      inner = out;
      pads = m;
      leaf = leaf_up o (only_below z a m o n h) (omega (arith, low)) (operand l out (pad_op_of R z a m));
      hidden = out_of (λ p. alone a p (omega (arith, low)) (own_cone o));
      only = λ u k _ q. go u q (h u k (down q (own_cone o)));
    })))
      where
        low : a < z
        low = ok z a (pad_op_of R z a m)

        go : (u : ℕ) → Mem a (operands R u) → ((u ≡ z) ⊎ Path o u) ⊎ ((z < u) × ((v : ℕ) → Mem v (operands R u) → Cone R v r → z ≤ v)) → u ≡ z
        go u q (inl (inl e)) = e
        go u q (inl (inr p)) = absurd (omega (arith, path_low o u p, ok u a q))
        go u q (inr p) = absurd (omega (arith, low, p.1 a q (own_cone o)))

    -- so the wire with an own random is a leaf at the end
    own_leaf : Own R r x → In P x → In L x
    unfolding Only
    own_leaf o p = leaf_up o (λ u l c. let t = live_cone R P L l in
        inl (own_path o u (wire_cases t.0 x (λ e. subst (λ (y : ℕ). Cone R y u) e t.2) (λ e. absurd (alone t.0 t.1 e (cone_trans t.2 c)))) c))
        (le_refl x) (probed p)

-- P without x
pub record Without (P P' : Set) (x : ℕ) : Type 0 where
  pub sub : Sub P' P
  pub else : (y : ℕ) → In P y → y ≢ x → In P' y
  pub gone : Out P' x

-- the set needs what it needs without x, and x
module _ (R : Routine) (ok : Earlier R) (P P' L₀ L L' : Set) (x r : ℕ) (wo : Without P P' x) (run : Run (net R) P L₀ L) (fin : Final (net R) P L)
    (run' : Run (net R) P' L₀ L')
    (fin' : Final (net R) P' L') (grown : Sub L₀ L) (begins : (v : ℕ) → is_rand (wire R v).kind ≡ true → In L v)
    (own : Own R r x) (p : In P x) (alone : (y : ℕ) → In P y → y ≢ x → Cone R y r → ⊥) where
  x_leaf : In L x
  x_leaf = own_leaf R ok P L fin begins x r alone own p

  split : {v : ℕ} → Live (net R) P L v → (v ≡ x) ⊎ Live (net R) P' L v
  split {v} (probed q) = wire_cases v x inl (λ e. inr (probed (wo.else v q e)))
  split (operand {u = u} l o m) = elim (split l) [ inl e ↦ clash x_leaf (subst (Out L) e o) | inr k ↦ inr (operand k o m) ]

  more : {v : ℕ} → Live (net R) P' L v → Live (net R) P L v
  more {v} (probed q) = probed (wo.sub v q)
  more (operand l o m) = operand (more l) o m

  -- x is not live without itself
  x_dead : Live (net R) P' L x → ⊥
  x_dead l = let t = live_cone R P' L l in
      wire_cases t.0 x (λ e. clash (subst (In P') e t.1) wo.gone) (λ e. alone t.0 (wo.sub t.0 t.1) e (cone_trans t.2 (own_cone own)))

  final_without : Final (net R) P' L
  final_without w q s = fin w q (record {
    alive = more s.alive;
    inner = s.inner;
    pads = s.pads;
    leaf = s.leaf;
    hidden = out_of (λ i. wire_cases q x
        (λ e. x_dead (subst (Live (net R) P' L) e (operand s.alive s.inner (pad_op_of R w q s.pads))))
        (λ e. clash (wo.else q i e) s.hidden));
    only = λ u l o m. elim (split l) [ inl e ↦ clash x_leaf (subst (Out L) e o) | inr k ↦ s.only u k o m ];
  })

  back : {M : Set} → Run (net R) P' L₀ M → (v : ℕ) → Live (net R) P' L v → In M v → In L v
  back start v l i = grown v i
  back (step {L = M} t s) v l i = keep (net R) P' P' L M (λ w h. h) (λ u k j. back t u k j) final_without s v l i

  pub own_spared : (v : ℕ) → v ≢ x → Live (net R) P L v ↔ Live (net R) P' L' v
  own_spared v n = (
    λ l. elim (split l) [ inl e ↦ absurd (n e) | inr k ↦ still_live (net R) P' P' L L' (λ w h. h) (back run') k ],
    λ l. monotone (net R) P' P L₀ wo.sub run' fin' run v l,
  )
