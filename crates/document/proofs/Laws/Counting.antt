-- A step keeps the number of random words that give each observation, its wire being a one-to-one function of its pad (9.34); so do any allowed steps,
-- and the live shares and the publics fix these numbers.
use Rattle.std.specs.Prelude.{◌≡◌, ◌≢◌, ℕ, ◌≤◌, ◌<◌, length, set}
use Rattle.std.proofs.Math.Path.{refl, sym, ap, fun_ext}
use Rattle.std.proofs.Common.{◌∙◌, subst, arith}
use mathlib.Core.List.{List, [], ◌∷◌}
use Rattle.std.proofs.Math.ListN.{get_or, length-set}
use Rattle.std.proofs.Math.Seq.{get_or-set_same, get_or-set_other}
use Rattle.data.specs.Basics.{Marks, at, mark}
use Rattle.document.specs.Routine.{Routine, size, wire, operands}
use Rattle.document.specs.Running.{Value, value_at}
use Rattle.document.specs.Padding.{stepped, leaves_after, Allowed}
use Rattle.data.proofs.Laws.Tests.{clash, out_of, bool_cases, wire_cases, below, Mem}
use Rattle.document.proofs.Laws.Marks.{Set, In, Out, add, add_cases, add_in, add_self, set_add}
use Rattle.document.proofs.Laws.Rule.{Live, probed, operand, Step}
use Rattle.document.proofs.Laws.Live.{net, pad_op_of, Earlier, Within}
use Rattle.document.proofs.Laws.Steps.{step→, padded_below}
use Rattle.document.proofs.Laws.Sums.{upd_same, upd_other, words, words_ext, slide}
use Rattle.document.specs.Starts.{upd, draws_after, leaf_value, Small}
use Rattle.document.proofs.Laws.Values.{Lawful, inner_ext, inner_share, pad_one_to_one, value_ok, value_leaf, value_inner}
use Rattle.data.specs.declared.Kind.TheVariants.{Share}
use Rattle.data.specs.declared.Step.{Step as Pair}

-- the live leaves have draws of their own, below m
pub record Slots (R : Routine) (P L : Set) (σ : ℕ → ℕ) (m : ℕ) : Type 0 where
  pub low : (u : ℕ) → In L u → σ u < m
  pub apart : (u v : ℕ) → Live (net R) P L u → Live (net R) P L v → In L u → In L v → σ u ≡ σ v → u ≡ v

-- a number that reads the values of the probed wires only
abbrev pub Reads : Set → ((ℕ → ℕ) → ℕ) → Type 0
Reads P F = (e e' : ℕ → ℕ) → ((w : ℕ) → In P w → e w ≡ e' w) → F e ≡ F e'

-- ---- one step: w becomes a leaf that shows the draw of r

module _ (K : Value) (law : Lawful K) (R : Routine) (ok : Earlier R) (P L : Set) (σ : ℕ → ℕ) (m : ℕ) (sl : Slots R P L σ m)
    (w r : ℕ) (st : Step (net R) P L w r) (x y : List ℕ) where
  abbrev L' : Set
  L' = add L w

  abbrev σ' : ℕ → ℕ
  σ' = upd σ w (σ r)

  abbrev val : List ℕ → ℕ → ℕ
  val ρ = leaf_value K R L σ x ρ y

  abbrev val' : List ℕ → ℕ → ℕ
  val' ρ = leaf_value K R L' σ' x ρ y

  r_live : Live (net R) P L r
  r_live = operand st.alive st.inner (pad_op_of R w r st.pads)

  out_before : (u : ℕ) → Out L' u → Out L u
  out_before u o = out_of (λ i. clash (add_in L w u i) o)

  -- fewer wires are live after the step
  fewer : {u : ℕ} → Live (net R) P L' u → Live (net R) P L u
  fewer (probed p) = probed p
  fewer (operand {u} l o q) = operand (fewer l) (out_before u o) q

  r_dead : (v : ℕ) → Live (net R) P L' v → v ≡ r → ⊥
  r_dead v (probed p) e = clash (subst (In P) e p) st.hidden
  r_dead v (operand {u} l o q) e =
      clash (add_self L w u (st.only u (fewer l) (out_before u o) (subst (λ (k : ℕ). Mem k (operands R u)) e q))) o

  -- of the live wires below w, only r shows its draw
  quiet : (ρ : List ℕ) (v : ℕ) (u : ℕ) → u < w → Live (net R) P L u → u ≢ r → val (set ρ (σ r) v) u ≡ val ρ u
  quiet ρ v = below (λ u. u < w → Live (net R) P L u → u ≢ r → val (set ρ (σ r) v) u ≡ val ρ u) (λ u ih h l n.
      bool_cases (L u)
      (λ i. value_leaf K law R ok L σ x (set ρ (σ r) v) y u i
      ∙ get_or-set_other ρ (σ r) (σ u) v 0 (λ e. n (sl.apart u r l r_live i st.leaf e))
      ∙ sym (value_leaf K law R ok L σ x ρ y u i))
      (λ o. value_inner K law R ok L σ x (set ρ (σ r) v) y u o
      ∙ inner_ext K law R x y (val (set ρ (σ r) v)) (val ρ) u (λ a q.
      let a<u : a < u = ok u a q in
      ih a a<u (omega arith) (operand l o q) (λ e. let z : u ≡ w = st.only u l o (subst (λ (k : ℕ). Mem k (operands R u)) e q) in omega arith))
      ∙ sym (value_inner K law R ok L σ x ρ y u o)))

  -- what w is as a function of what r is
  π : List ℕ → ℕ → ℕ
  π ρ v = value_at K R x [] y (upd (val ρ) r v) w

  π_quiet : (ρ : List ℕ) (v : ℕ) → π (set ρ (σ r) v) ≡ π ρ
  unfolding π
  π_quiet ρ v = fun_ext (λ a. inner_ext K law R x y (upd (val (set ρ (σ r) v)) r a) (upd (val ρ) r a) w (λ u o.
      wire_cases u r
      (λ e. upd_same (val (set ρ (σ r) v)) r a u e ∙ sym (upd_same (val ρ) r a u e))
      (λ n. upd_other (val (set ρ (σ r) v)) r a u n ∙ quiet ρ v u (ok w u o) (operand st.alive st.inner o) n ∙ sym (upd_other (val ρ) r a u n))))

  -- the random word with w in the place of r
  φ : List ℕ → List ℕ
  φ ρ = set ρ (σ r) (π ρ (get_or ρ (σ r) 0))

  -- w is what its leaf makes it
  w_is : (ρ : List ℕ) → π ρ (get_or ρ (σ r) 0) ≡ val ρ w
  unfolding π
  w_is ρ =
      inner_ext K law R x y (upd (val ρ) r (get_or ρ (σ r) 0)) (val ρ) w (λ u o.
      wire_cases u r
      (λ e. upd_same (val ρ) r (get_or ρ (σ r) 0) u e ∙ sym (value_leaf K law R ok L σ x ρ y r st.leaf) ∙ ap (val ρ) (sym e))
      (λ n. upd_other (val ρ) r (get_or ρ (σ r) 0) u n))
      ∙ sym (value_inner K law R ok L σ x ρ y w st.inner)

  -- each wire live after the step keeps its value
  follow : (ρ : List ℕ) → length ρ ≡ m → (u : ℕ) → Live (net R) P L' u → val' (φ ρ) u ≡ val ρ u
  unfolding φ
  follow ρ len = below (λ u. Live (net R) P L' u → val' (φ ρ) u ≡ val ρ u) (λ u ih l.
      wire_cases u w
      (λ e. value_leaf K law R ok L' σ' x (φ ρ) y u (add_self L w u e)
      ∙ ap (λ (k : ℕ). get_or (φ ρ) k 0) (upd_same σ w (σ r) u e)
      ∙ get_or-set_same ρ (σ r) (π ρ (get_or ρ (σ r) 0)) 0 (let h = sl.low r st.leaf in omega arith)
      ∙ w_is ρ ∙ ap (val ρ) (sym e))
      (λ n. bool_cases (L u)
      (λ i. value_leaf K law R ok L' σ' x (φ ρ) y u (add_in L w u i)
      ∙ ap (λ (k : ℕ). get_or (φ ρ) k 0) (upd_other σ w (σ r) u n)
      ∙ get_or-set_other ρ (σ r) (σ u) (π ρ (get_or ρ (σ r) 0)) 0 (λ e. r_dead u l (sl.apart u r (fewer l) r_live i st.leaf e))
      ∙ sym (value_leaf K law R ok L σ x ρ y u i))
      (λ o. let o' : Out L' u = out_of (λ h. add_cases L w u h n (λ i. clash i o)) in
      value_inner K law R ok L' σ' x (φ ρ) y u o'
      ∙ inner_ext K law R x y (val' (φ ρ)) (val ρ) u (λ a q. ih a (ok u a q) (operand l o' q))
      ∙ sym (value_inner K law R ok L σ x ρ y u o))))

  pub one_step : Small K.many x → Small K.many y → (F : (ℕ → ℕ) → ℕ) → Reads P F
      → words K.many m (λ ρ. F (leaf_value K R L σ x ρ y)) ≡ words K.many m (λ ρ. F (leaf_value K R (add L w) (upd σ w (σ r)) x ρ y))
  unfolding φ π
  one_step sx sy F reads =
      words_ext K.many law.pos m (λ ρ. F (val ρ)) (λ ρ. F (val' (φ ρ))) (λ ρ len _. reads (val ρ) (val' (φ ρ)) (λ u p. sym (follow ρ len u (probed p))))
      ∙ slide K.many law.pos m (σ r) (sl.low r st.leaf) π π_quiet
      (λ ρ sρ. pad_one_to_one K law R x [] y w r st.pads (val ρ) (value_ok K law R ok L σ x ρ y sx sρ sy)) (λ ρ. F (val' ρ))

  pub slots_step : Slots R P (add L w) (upd σ w (σ r)) m
  slots_step = record {
    low = λ u i. wire_cases u w
        (λ e. subst (λ (k : ℕ). k < m) (sym (upd_same σ w (σ r) u e)) (sl.low r st.leaf))
        (λ n. subst (λ (k : ℕ). k < m) (sym (upd_other σ w (σ r) u n)) (sl.low u (in_before u n i)));
    apart = λ u v lu lv iu iv e. wire_cases u w
        (λ a. wire_cases v w
        (λ b. a ∙ sym b)
        (λ b. absurd (r_dead v lv (sl.apart v r (fewer lv) r_live (in_before v b iv) st.leaf
        (sym (upd_other σ w (σ r) v b) ∙ sym e ∙ upd_same σ w (σ r) u a)))))
        (λ a. wire_cases v w
        (λ b. absurd (r_dead u lu (sl.apart u r (fewer lu) r_live (in_before u a iu) st.leaf (sym (upd_other σ w (σ r) u a) ∙ e ∙ upd_same σ w (σ r) v b))))
        (λ b. sl.apart u v (fewer lu) (fewer lv) (in_before u a iu) (in_before v b iv) (sym (upd_other σ w (σ r) u a) ∙ e ∙ upd_other σ w (σ r) v b)));
  }
    where
      in_before : (u : ℕ) → u ≢ w → In (add L w) u → In L u
      in_before u n i = add_cases L w u i (λ e. absurd (n e)) (λ j. j)

-- ---- allowed steps, one after the other

-- the leaves L with the draws σ give each observation as often as L₀ with σ₀ do
abbrev pub AsOften : Value → Routine → Set → ℕ → Set → (ℕ → ℕ) → Set → (ℕ → ℕ) → Type 0
AsOften K R P m L₀ σ₀ L σ =
    (x y : List ℕ) → Small K.many x → Small K.many y → (F : (ℕ → ℕ) → ℕ) → Reads P F
    → words K.many m (λ ρ. F (leaf_value K R L₀ σ₀ x ρ y)) ≡ words K.many m (λ ρ. F (leaf_value K R L σ x ρ y))

module _ (K : Value) (law : Lawful K) (R : Routine) (ok : Earlier R) (ends : Within R) (P : Marks) (long : size R ≤ length P) (m : ℕ) where
  pub kept : (ss : List Pair) (L : Marks) (σ : ℕ → ℕ) → size R ≤ length L → Slots R (at P) (at L) σ m → Allowed R P L ss
      → AsOften K R (at P) m (at L) σ (at (leaves_after ss L)) (draws_after ss σ)
  unfolding mark
  kept [] L σ l sl a x y sx sy F h = refl
  kept (s ∷ ss) L σ l sl a x y sx sy F h =
      let st = step→ R ok ends P L long s.w s.r a.0 in
      let b = padded_below R ok ends P long L s.w s.r st in
      let σ' = upd σ s.w (σ s.r) in
      let is : add (at L) s.w ≡ at (stepped L s.w) = sym (set_add L s.w (omega arith)) in
      let after = slots_step K law R ok (at P) (at L) σ m sl s.w s.r st x y in
      one_step K law R ok (at P) (at L) σ m sl s.w s.r st x y sx sy F h
      ∙ ap (λ (M : Set). words K.many m (λ ρ. F (leaf_value K R M σ' x ρ y))) is
      ∙ kept ss (stepped L s.w) σ' (rw length-set l) (subst (λ (M : Set). Slots R (at P) M σ' m) is after) a.1 x y sx sy F h

-- ---- the randoms' count of an observation is fixed by the live shares and the publics

module _ (K : Value) (law : Lawful K) (R : Routine) (ok : Earlier R) (P L₀ : Set) (σ₀ : ℕ → ℕ) (m : ℕ) (L : Set) (σ : ℕ → ℕ)
    (as-often : AsOften K R P m L₀ σ₀ L σ)
    (x x' y : List ℕ) (agree : (w : ℕ) → Live (net R) P L w → (wire R w).kind ≡ Share → get_or x w 0 ≡ get_or x' w 0) where
  same_value : (ρ : List ℕ) (u : ℕ) → Live (net R) P L u → leaf_value K R L σ x ρ y u ≡ leaf_value K R L σ x' ρ y u
  same_value ρ = below (λ u. Live (net R) P L u → leaf_value K R L σ x ρ y u ≡ leaf_value K R L σ x' ρ y u) (λ u ih l.
      bool_cases (L u)
      (λ i. value_leaf K law R ok L σ x ρ y u i ∙ sym (value_leaf K law R ok L σ x' ρ y u i))
      (λ o. value_inner K law R ok L σ x ρ y u o
      ∙ inner_ext K law R x y (leaf_value K R L σ x ρ y) (leaf_value K R L σ x' ρ y) u (λ a q. ih a (ok u a q) (operand l o q))
      ∙ inner_share K law R x x' y (leaf_value K R L σ x' ρ y) u (agree u l)
      ∙ sym (value_inner K law R ok L σ x' ρ y u o)))

  pub fixed : Small K.many x → Small K.many x' → Small K.many y → (F : (ℕ → ℕ) → ℕ) → Reads P F
      → words K.many m (λ ρ. F (leaf_value K R L₀ σ₀ x ρ y)) ≡ words K.many m (λ ρ. F (leaf_value K R L₀ σ₀ x' ρ y))
  fixed sx sx' sy F h =
      as-often x y sx sy F h
      ∙ words_ext K.many law.pos m (λ ρ. F (leaf_value K R L σ x ρ y)) (λ ρ. F (leaf_value K R L σ x' ρ y))
      (λ ρ _ _. h (leaf_value K R L σ x ρ y) (leaf_value K R L σ x' ρ y) (λ u p. same_value ρ u (probed p)))
      ∙ sym (as-often x' y sx' sy F h)
