-- Whether a wire stands among the held ones from a place on.
use Rattle.std.specs.Prelude.{◌≡◌, Bool, true, false, ◌||◌, List, ℕ, ◌+◌, ◌≤◌, ◌<◌, eqb, length, get_or, take}
use Rattle.std.proofs.Common.{ne_eqb}
use Rattle.std.proofs.Math.Path.{ap}
use Rattle.std.proofs.Math.ListN.{drop}
use Rattle.data.specs.Basics.{elem}
use Rattle.data.proofs.Laws.Tests.{or_l, true_eqb}
use Rattle.data.proofs.Laws.Placing.{held_next, held_ends}

module _ (P : List ℕ) (len : ℕ) (fits : len ≤ length P) where
  -- it is the one at the place
  pub elem_here : (w i : ℕ) → i < len → w ≡ get_or P i 0 → elem w (drop i (take len P)) ≡ true
  unfolding elem
  elem_here w i l e = rw (held_next P len fits i l) (or_l (eqb w (get_or P i 0)) _ (true_eqb w (get_or P i 0) e))

  -- it is not
  pub elem_later : (w i : ℕ) → i < len → (w ≡ get_or P i 0 → ⊥) → elem w (drop i (take len P)) ≡ elem w (drop (i + 1) (take len P))
  unfolding elem
  elem_later w i l n = rw (held_next P len fits i l) (ap (λ (b : Bool). b || elem w (drop (i + 1) (take len P))) (ne_eqb w (get_or P i 0) n))

  -- no place is left
  pub elem_none : (w i : ℕ) → len ≤ i → elem w (drop i (take len P)) ≡ false
  unfolding elem
  elem_none w i l = ap (elem w) (held_ends P len fits i l)
