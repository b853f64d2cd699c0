-- The live marks that are computed are the live wires of the rule.
use Rattle.std.specs.Prelude.{◌≡◌, refl, Bool, ◌&&◌, cond, ◌⊎◌, ◌≢◌, ◌↔◌, [], ◌∷◌, eqb}
use Rattle.std.proofs.Common.{ap, subst, inl, inr, not-suc-le-zero, le_refl, arith}
use Rattle.std.proofs.Math.Bool.{not}
use Prim.Native.Nat.{ℕ, zero, suc, ◌≤◌, ◌<◌, min, max}
use Rattle.std.proofs.Math.ListN.{length}
use Rattle.data.specs.Basics.{Marks, at, mark}
use Rattle.document.specs.Routine.{Routine, size, wire, operands_of, operands}
use Rattle.document.specs.Padding.{live_down, live, pads_of, pads}
use Rattle.data.proofs.Laws.Tests.{clash, bool_cases, true_eqb, and_l, and_r, and_i, not_t, cond_cases, wire_cases, Mem}
use Rattle.document.proofs.Laws.Marks.{Set, In, Out, mark_length_lem, mark_keeps, mark_cases, mark_marks}
use Rattle.document.proofs.Laws.Rule.{Net, Live, probed, operand}
use Rattle.data.specs.declared.Kind.{Kind}
use Rattle.data.specs.declared.Kind.TheVariants.{Share, Rand, Pub, Xor, And, Not}

-- an `xor` can be padded by either of two different wires
pub xor_pads : (a b r : ℕ) → Mem r (pads_of Xor a b) → (a ≢ b) × ((r ≡ a) ⊎ (r ≡ b))
unfolding pads_of
xor_pads a b r m =
    bool_cases (eqb a b) (λ c. absurd (subst (λ (c : Bool). Mem r (cond c [] (min a b ∷ max a b ∷ []))) c m))
    (λ c. (λ q. clash (true_eqb a b q) c, either (subst (λ (c : Bool). Mem r (cond c [] (min a b ∷ max a b ∷ []))) c m)))
  where
    either : Mem r (min a b ∷ max a b ∷ []) → (r ≡ a) ⊎ (r ≡ b)
    either (inl q) = wire_cases r a inl (λ d. inr (omega arith))
    either (inr (inl q)) = wire_cases r a inl (λ d. inr (omega arith))
    either (inr (inr q)) = absurd q

-- what a wire can be padded by is an operand of it
pads_operands : (k : Kind) (a b r : ℕ) → Mem r (pads_of k a b) → Mem r (operands_of k a b)
unfolding pads_of operands_of
pads_operands Share a b r m = m
pads_operands Rand a b r m = m
pads_operands Pub a b r m = m
pads_operands Xor a b r m = elim (xor_pads a b r m).1 [ inl e ↦ inl e | inr e ↦ inr (inl e) ]
pads_operands And a b r m = absurd m
pads_operands Not a b r m = m

pub pad_op_of : (R : Routine) (w r : ℕ) → Mem r (pads R w) → Mem r (operands R w)
unfolding pads operands
pad_op_of R w r m = pads_operands (wire R w).kind (wire R w).a (wire R w).b r m

-- the rule of a routine
abbrev pub net : Routine → Net
net R = record { Op = λ u v. Mem v (operands R u); Pad = λ w r. Mem r (pads R w); pad_op = pad_op_of R }

-- operands are earlier wires
abbrev pub Earlier : Routine → Type 0
Earlier R = (u v : ℕ) → Mem v (operands R u) → v < u

-- wires from n on have no operands
abbrev pub Within : Routine → Type 0
Within R = (u v : ℕ) → Mem v (operands R u) → u < size R

module _ (R : Routine) (ok : Earlier R) (L : Marks) where
  -- wire u passes life on to its operands
  pass : ℕ → Marks → Marks
  pass u m = cond (at m u && not (at L u)) (mark (operands R u) m) m

  pass_length : (u : ℕ) (m : Marks) → length (pass u m) ≡ length m
  unfolding pass
  pass_length u m =
      cond_cases (λ (k : Marks). length k ≡ length m) (at m u && not (at L u)) (mark (operands R u) m) m
      (λ _. mark_length_lem (operands R u) m) (λ _. refl)

  pass_keeps : (u : ℕ) (m : Marks) (v : ℕ) → In (at m) v → In (at (pass u m)) v
  unfolding pass
  pass_keeps u m v i =
      cond_cases (λ (k : Marks). In (at k) v) (at m u && not (at L u)) (mark (operands R u) m) m
      (λ _. mark_keeps (operands R u) m v i) (λ _. i)

  -- what a pass marks is an operand of a marked wire that is no leaf
  pass_cases : {X : Type 0} (u : ℕ) (m : Marks) (v : ℕ) → In (at (pass u m)) v
      → (In (at m) u → Out (at L) u → Mem v (operands R u) → X) → (In (at m) v → X) → X
  unfolding pass
  pass_cases {X} u m v h f g =
      cond_cases (λ (k : Marks). In (at k) v → X) (at m u && not (at L u)) (mark (operands R u) m) m
      (λ e i. mark_cases (operands R u) m v i (f (and_l (at m u) (not (at L u)) e) (not_t (at L u) (and_r (at m u) (not (at L u)) e))) g)
      (λ _ i. g i) h

  pass_marks : (u : ℕ) (m : Marks) (v : ℕ) → In (at m) u → Out (at L) u → Mem v (operands R u) → v < length m → In (at (pass u m)) v
  unfolding pass
  pass_marks u m v i o q l =
      cond_cases (λ (k : Marks). In (at k) v) (at m u && not (at L u)) (mark (operands R u) m) m
      (λ _. mark_marks (operands R u) m v q l) (λ e. clash (and_i (at m u) (not (at L u)) i (ap not o)) e)

  down_keeps : (k : ℕ) (m : Marks) (v : ℕ) → In (at m) v → In (at (live_down R L k m)) v
  unfolding live_down pass
  down_keeps zero m v i = i
  down_keeps (suc k) m v i = down_keeps k (pass k m) v (pass_keeps k m v i)

  -- the passes below k mark nothing from k up
  down_still : (k : ℕ) (m : Marks) (v : ℕ) → k ≤ v → In (at (live_down R L k m)) v → In (at m) v
  unfolding live_down pass
  down_still zero m v h i = i
  down_still (suc k) m v h i =
      pass_cases k m v (down_still k (pass k m) v (omega arith) i) (λ _ _ q. let z = ok k v q in absurd (omega arith)) (λ j. j)

  down_closed : (k : ℕ) (m : Marks) (u v : ℕ) → k ≤ length m → u < k → In (at (live_down R L k m)) u
      → Out (at L) u → Mem v (operands R u) → In (at (live_down R L k m)) v
  unfolding live_down pass
  down_closed zero m u v n h i o q = absurd (not-suc-le-zero h)
  down_closed (suc k) m u v n h i o q = wire_cases u k
      (λ e. let z = ok u v q in
      down_keeps k (pass k m) v (pass_marks k m v
      (pass_cases k m k (down_still k (pass k m) k (le_refl k) (subst (In (at (live_down R L k (pass k m)))) e i)) (λ j _ _. j) (λ j. j))
      (subst (Out (at L)) e o) (subst (λ (w : ℕ). Mem v (operands R w)) e q) (omega arith)))
      (λ e. let z = pass_length k m in down_closed k (pass k m) u v (omega arith) (omega arith) i o q)

  down_sound : (P : Set) (k : ℕ) (m : Marks) → ((v : ℕ) → In (at m) v → Live (net R) P (at L) v)
      → (v : ℕ) → In (at (live_down R L k m)) v → Live (net R) P (at L) v
  unfolding live_down pass
  down_sound P zero m s v i = s v i
  down_sound P (suc k) m s v i =
      down_sound P k (pass k m) (λ u j. pass_cases k m u j (λ a b c. operand (s k a) b c) (s u)) v i

  pub live_is : Within R → (P : Marks) → size R ≤ length P → (v : ℕ) → In (at (live R P L)) v ↔ Live (net R) (at P) (at L) v
  unfolding live
  live_is ends P h v = (down_sound (at P) (size R) P (λ u i. probed i) v, complete v)
    where
      complete : (w : ℕ) → Live (net R) (at P) (at L) w → In (at (live_down R L (size R) P)) w
      complete w (probed p) = down_keeps (size R) P w p
      complete w (operand {u} l o q) = down_closed (size R) P u w h (ends u w q) (complete u l) o q
