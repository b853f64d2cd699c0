-- The passes over the wires, turn by turn: the first leaves, the probed wires, the live wires.
use Rattle.std.specs.Prelude.{◌≡◌, refl, Bool, true, false, not, ◌&&◌, cond, List, ◌∷◌, ℕ, zero, suc, ◌+◌, ◌-◌, ◌≤◌, ◌<◌, length, get_or, set, drop}
use Rattle.std.proofs.Common.{sym, ap, ◌∙◌, add-one, drop-cons, arith}
use Rattle.std.proofs.Math.ListN.{drop_of_length-le}
use Rattle.data.specs.Basics.{Marks, at, mark}
use Rattle.document.specs.Routine.{is_rand, operands_of, operands}
use Rattle.document.specs.Padding.{unmarked, rands_from, first_leaves, live_down}
use Rattle.data.specs.declared.Kind.{Kind}
use Rattle.data.specs.declared.Kind.TheVariants.{Share, Rand, Pub, Xor, And, Not}
use Rattle.data.specs.contracts.Kind.{the_type}
use denote.Enum.Bare.{sameb}
use Rattle.data.specs.declared.Wire.{Wire}
use Rattle.counts.specs.Counting.{record_at}
use Rattle.marks.specs.Passes.{only_wires}

-- the code's test for a random is the definition's
pub rand_same : (k : Kind) → sameb the_type k Rand ≡ is_rand k
rand_same Share = refl
rand_same Rand = refl
rand_same Pub = refl
rand_same Xor = refl
rand_same And = refl
rand_same Not = refl

-- ---- the first leaves, from wire u on

module _ (ws : List Wire) where
  pub leaves_turn : (u : ℕ) (m : Marks) (b : Bool) → u < length ws → b ≡ is_rand (record_at ws u).kind
      → mark (rands_from (only_wires ws) (length ws - (u + 1)) (u + 1)) (cond b (set m u true) m) ≡ mark (rands_from (only_wires ws) (length ws - u) u) m
  unfolding rands_from mark
  leaves_turn u m b h e =
      let n = length ws in
      let f : n - u ≡ suc (n - (u + 1)) = omega arith in
      rw (f, ← e, add-one u) (go b (rands_from (only_wires ws) (n - suc u) (suc u)))
    where
      go : (b : Bool) (rs : List ℕ) → mark rs (cond b (set m u true) m) ≡ mark (cond b (u ∷ rs) rs) m
      go true rs = refl
      go false rs = refl

  pub leaves_all : mark (rands_from (only_wires ws) (length ws - 0) 0) unmarked ≡ first_leaves (only_wires ws)
  unfolding first_leaves
  leaves_all = let n = length ws in let e : n - 0 ≡ n = omega arith in ap (λ (k : ℕ). mark (rands_from (only_wires ws) k 0) unmarked) e

  pub leaves_end : (u : ℕ) (m : Marks) → length ws ≤ u → mark (rands_from (only_wires ws) (length ws - u) u) m ≡ m
  unfolding rands_from mark
  leaves_end u m h = let e : length ws - u ≡ 0 = omega arith in ap (λ (k : ℕ). mark (rands_from (only_wires ws) k u) m) e

-- ---- the probed wires, from place i on

pub probed_turn : (ps : List ℕ) (i : ℕ) (m : Marks) → i < length ps → mark (drop i ps) m ≡ mark (drop (i + 1) ps) (set m (get_or ps i 0) true)
unfolding mark
probed_turn ps i m h = ap (λ (qs : List ℕ). mark qs m) (drop-cons ps i 0 h) ∙ ap (λ (k : ℕ). mark (drop k ps) (set m (get_or ps i 0) true)) (sym (add-one i))

pub probed_end : (ps : List ℕ) (i : ℕ) (m : Marks) → length ps ≤ i → mark (drop i ps) m ≡ m
unfolding mark
probed_end ps i m h = ap (λ (qs : List ℕ). mark qs m) (drop_of_length-le ps {i = i} h)

-- ---- the live wires, from wire u down

module _ (ws : List Wire) (leaf : Marks) where
  pub live_on : (u : ℕ) (m : Marks) → 0 < u → at m (u - 1) ≡ true → at leaf (u - 1) ≡ false
      → live_down (only_wires ws) leaf (u - 1) (mark (operands_of (record_at ws (u - 1)).kind (record_at ws (u - 1)).a (record_at ws (u - 1)).b) m)
      ≡ live_down (only_wires ws) leaf u m
  unfolding live_down operands
  live_on zero m h l o = absurd (omega arith)
  live_on (suc u) m h l o = let e : suc u - 1 ≡ u = omega arith in rw (e, rw e at l, rw e at o)

  pub live_off : (u : ℕ) (m : Marks) → 0 < u → (at m (u - 1) && not (at leaf (u - 1))) ≡ false
      → live_down (only_wires ws) leaf (u - 1) m ≡ live_down (only_wires ws) leaf u m
  unfolding live_down
  live_off zero m h o = absurd (omega arith)
  live_off (suc u) m h o = let e : suc u - 1 ≡ u = omega arith in rw (e, rw e at o)

  pub live_end : (u : ℕ) (m : Marks) → u ≤ 0 → live_down (only_wires ws) leaf u m ≡ m
  unfolding live_down
  live_end zero m h = refl
  live_end (suc u) m h = absurd (omega arith)
