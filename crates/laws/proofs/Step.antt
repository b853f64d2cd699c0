-- The step of a wire, operand by operand, and the lowest step of n wires.
use Rattle.std.specs.Prelude.{◌≡◌, Bool, List, [], ◌∷◌, length}
use Rattle.std.proofs.Math.Path.{refl, ap}
use Rattle.std.proofs.Common.{sym, ne_eqb}
use Rattle.std.proofs.Math.Bool.{true, false, not, ◌&&◌, cond}
use Rattle.std.proofs.Math.Option.{none, some}
use Prim.Native.Nat.{ℕ, ◌≤◌, min, max}
use Rattle.std.proofs.Math.Seq.{length-take-le}
use Rattle.data.specs.Basics.{Marks, at}
use Rattle.document.specs.Padding.{live, pads_of, pads_by, first_pad, lowest_pad, next_step}
use Rattle.data.specs.declared.Kind.TheVariants.{Xor}
use Rattle.data.specs.declared.Wire.{Wire}
use Rattle.counts.specs.Counting.{record_at}
use Rattle.step.specs.Next.{serves_by, pad_at}
use Rattle.laws.proofs.Marks.{wired}

-- ---- the step of a wire, operand by operand

module _ (f : ℕ → Bool) (w r : ℕ) where
  -- the only operand does not serve
  pub pad_none : f r ≡ false → none ≡ first_pad f w (r ∷ []) none
  unfolding first_pad
  pad_none o = simp o

module _ (f : ℕ → Bool) (w a b : ℕ) where
  -- the lower of two serves
  pub pad_low : (r : ℕ) → (a ≡ b → ⊥) → r ≡ min a b → f r ≡ true → some (record { w = w; r = r }) ≡ first_pad f w (pads_of Xor a b) none
  unfolding first_pad pads_of
  pad_low r n e t = simp (ne_eqb a b n, ← e, t)

  -- it does not, and the higher is asked
  pub pad_high : (q r : ℕ) → (a ≡ b → ⊥) → q ≡ min a b → f q ≡ false → r ≡ max a b
      → first_pad f w (r ∷ []) none ≡ first_pad f w (pads_of Xor a b) none
  unfolding first_pad pads_of
  pad_high q r n d o e = simp (ne_eqb a b n, ← d, o, ← e)

-- ---- the lowest step

-- the step of wire w, found by the counts
pub pad_at_is : (ws : List Wire) (probe leaf alive : Marks) (counts : List ℕ) (w : ℕ)
    → cond (at alive w && not (at leaf w)) (first_pad (serves_by probe leaf counts) w
    (pads_of (record_at ws w).kind (record_at ws w).a (record_at ws w).b) none) none ≡ pad_at ws probe leaf alive counts w
unfolding pad_at
pad_at_is ws probe leaf alive counts w = refl

-- the rule's next step is the lowest of n wires
pub next_is : (n : ℕ) (ws : List Wire) (probe leaf : Marks) → n ≤ length ws
    → lowest_pad (wired n ws) (pads_by (wired n ws) probe leaf (live (wired n ws) probe leaf)) n 0 ≡ next_step (wired n ws) probe leaf
unfolding next_step
next_is n ws probe leaf h =
    ap (λ (k : ℕ). lowest_pad (wired n ws) (pads_by (wired n ws) probe leaf (live (wired n ws) probe leaf)) k 0) (sym (length-take-le n ws h))
