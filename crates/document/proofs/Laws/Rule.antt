-- The padding rule over any operands, its steps in any order: adding probes never removes a live wire, and every order ends with the same live wires.
use Rattle.std.specs.Prelude.{◌≡◌, ◌↔◌, ℕ}
use Rattle.std.proofs.Common.{subst}
use Rattle.data.proofs.Laws.Tests.{clash, out_of, bool_cases}
use Rattle.document.proofs.Laws.Marks.{Set, In, Out, Sub, add, add_cases, add_in}

-- what a routine is to the rule: v is an operand of u; w can be padded by its operand r
pub record Net : Type 1 where
  pub Op : ℕ → ℕ → Type 0
  pub Pad : ℕ → ℕ → Type 0
  pub pad_op : (w r : ℕ) → Pad w r → Op w r

-- 3.5: a wire is live when it is probed, or is an operand of a live wire that is no leaf
pub data Live (N : Net) (P L : Set) : ℕ → Type 0 where
  probed : {w : ℕ} → In P w → Live N P L w
  operand : {u w : ℕ} → Live N P L u → Out L u → N.Op u w → Live N P L w

-- 3.9 to 3.11: w can be padded by r
pub record Step (N : Net) (P L : Set) (w r : ℕ) : Type 0 where
  pub alive : Live N P L w
  pub inner : Out L w
  pub pads : N.Pad w r
  pub leaf : In L r
  pub hidden : Out P r
  pub only : (u : ℕ) → Live N P L u → Out L u → N.Op u r → u ≡ w

-- 3.20: allowed steps in any order, from the leaves L₀
pub data Run (N : Net) (P L₀ : Set) : Set → Type 0 where
  start : Run N P L₀ L₀
  step : {L : Set} {w r : ℕ} → Run N P L₀ L → Step N P L w r → Run N P L₀ (add L w)

-- 3.21: no step is left
abbrev pub Final : Net → Set → Set → Type 0
Final N P L = (w r : ℕ) → Step N P L w r → ⊥

-- What is live and a leaf at (P', L') is a leaf at (P, L): then what is live at (P, L) is live at (P', L'),
-- and a step at (P', L') is one at (P, L) where its wire is still live and no leaf.
module _ (N : Net) (P P' L L' : Set) (sub : Sub P P') (inv : (v : ℕ) → Live N P L v → In L' v → In L v) where
  still_out : {v : ℕ} → Live N P L v → Out L v → Out L' v
  still_out {v} l o = out_of (λ i. clash (inv v l i) o)

  pub still_live : {v : ℕ} → Live N P L v → Live N P' L' v
  still_live (probed p) = probed (sub _ p)
  still_live (operand l o q) = operand (still_live l) (still_out l o) q

  same_step : {w r : ℕ} → Step N P' L' w r → Live N P L w → Out L w → Step N P L w r
  same_step {w} {r} s l o = record {
    alive = l;
    inner = o;
    pads = s.pads;
    leaf = inv r (operand l o (N.pad_op w r s.pads)) s.leaf;
    hidden = out_of (λ i. clash (sub r i) s.hidden);
    only = λ u lu ou q. s.only u (still_live lu) (still_out lu ou) q;
  }

  pub keep : {w r : ℕ} → Final N P L → Step N P' L' w r → (v : ℕ) → Live N P L v → In (add L' w) v → In L v
  keep {w} {r} fin s v l h =
      add_cases L' w v h
      (λ e. bool_cases (L v) (λ i. i) (λ o. absurd (fin w r (same_step s (subst (Live N P L) e l) (subst (Out L) e o)))))
      (inv v l)

module _ (N : Net) (P P' L₀ : Set) (sub : Sub P P') where
  pub grows : {L : Set} → Run N P L₀ L → Sub L₀ L
  grows start w h = h
  grows (step {L = L} {w = v} r s) w h = add_in L v w (grows r w h)

  invariant : {L L' : Set} → Run N P L₀ L → Final N P L → Run N P' L₀ L' → (v : ℕ) → Live N P L v → In L' v → In L v
  invariant r fin start v l i = grows r v i
  invariant {L} r fin (step {L = M} r' s) v l i = keep N P P' L M sub (λ u k j. invariant r fin r' u k j) fin s v l i

  -- 3.25: adding probes never removes a wire that is live at the end, whatever the orders of the steps, and however far the second run went
  pub monotone : {L L' : Set} → Run N P L₀ L → Final N P L → Run N P' L₀ L' → (v : ℕ) → Live N P L v → Live N P' L' v
  monotone {L} {L'} r fin r' v l = still_live N P P' L L' sub (invariant r fin r') l

-- 3.24: any two runs to the end have the same live wires
pub confluent : (N : Net) (P L₀ : Set) {L L' : Set} → Run N P L₀ L → Final N P L → Run N P L₀ L' → Final N P L'
    → (v : ℕ) → Live N P L v ↔ Live N P L' v
confluent N P L₀ r f r' f' v = (monotone N P P L₀ (λ w h. h) r f r' v, monotone N P P L₀ (λ w h. h) r' f' r v)
