-- The sizes of sets one after the other: where none of a size is open, the next size is searched.
use Rattle.std.specs.Prelude.{◌≡◌, Bool, Ok, Err}
use Rattle.std.proofs.Math.Path.{refl, sym, ap, subst}
use Rattle.std.proofs.Common.{◌∙◌, inl, inr}
use Rattle.std.proofs.Math.Bool.{true, false, cond}
use mathlib.Core.List.{List, [], ◌∷◌}
use Prim.Native.Nat.{ℕ, suc, ◌+◌, ◌-◌, ◌^◌, ◌≤◌, ◌<◌}
use Rattle.std.proofs.Math.Decide.{le_ind}
use native.Mathlib.Omega.{arith}
use Rattle.std.proofs.Math.ListN.{length}
use Rattle.document.specs.Routine.{size}
use Rattle.data.specs.ProbeSets.{held, set_of, Asc}
use Rattle.document.specs.Judgements.{sets_of, sets_in_order, NoneOpen}
use Rattle.data.specs.Basics.{Among}
use Rattle.document.proofs.Laws.Sets.{sets←, sets_below, in_order_below}
use Rattle.records.proofs.Laws.Fitting.{fit_of}
use Rattle.cones.specs.Seen.{see_all}
use Rattle.growing.specs.declared.Question.{Question}
use Rattle.growing.specs.declared.Found.{Found}
use Rattle.growing.specs.declared.Grown.{Grown}
use Rattle.growing.specs.Growing.{Searched, none, found, routine_asked, opens_in, nothing_grown, ClosedBelow}
use Rattle.searching.specs.Search.{search, on_from, grow, found_up_to, Searching}
use Rattle.searching.proofs.Laws.Search.{search_append, grow_sets}
use Rattle.searching.proofs.Laws.Turns.{search_all}

-- ---- from a size to the next

module _ (opens : List ℕ → Bool) where
  search_closed : (k : ℕ) (ss : List (List ℕ)) (c : ℕ) → search opens k ss ≡ Ok c → NoneOpen opens ss
  unfolding search
  search_closed k [] c e ps m = absurd m
  search_closed k (s ∷ ss) c e ps m = go (opens s) refl e (λ f. search_closed (suc k) ss c f ps) m
    where
      go : (b : Bool) → opens s ≡ b → cond b (found (suc k) s) (search opens (suc k) ss) ≡ Ok c
          → (search opens (suc k) ss ≡ Ok c → Among ps ss → opens ps ≡ false) → Among ps (s ∷ ss) → opens ps ≡ false
      go true q f rest m = let z : ⊥ = cc in absurd z
      go false q f rest (inl i) = ap opens i ∙ q
      go false q f rest (inr m) = rest f m

  pub found_none : (n : ℕ) → none 0 ≡ found_up_to opens 0 n
  unfolding found_up_to sets_in_order search
  found_none n = refl

  up_suc : (k n : ℕ) → found_up_to opens (suc k) n ≡ on_from (found_up_to opens k n) (λ j. search opens j (sets_of (suc k) n 0))
  unfolding found_up_to sets_in_order
  up_suc k n = search_append opens 0 (sets_in_order k n) (sets_of (suc k) n 0)

  -- a size more, where nothing was found
  pub found_more : (k n c : ℕ) (y : Searched) → Ok c ≡ found_up_to opens k n → y ≡ grow opens (k + 1) (n - 0) 0 [] c → y ≡ found_up_to opens (k + 1) n
  unfolding on_from
  found_more k n c y e q =
      let z : n - 0 ≡ n = omega arith in
      let p : suc k ≡ k + 1 = omega arith in
      q ∙ ap (λ (m : ℕ). grow opens (k + 1) m 0 [] c) z ∙ grow_sets opens (k + 1) n c
      ∙ ap (λ (j : ℕ). search opens c (sets_of j n 0)) (sym p)
      ∙ ap (λ (w : Searched). on_from w (λ j. search opens j (sets_of (suc k) n 0))) e ∙ sym (up_suc k n) ∙ ap (λ (j : ℕ). found_up_to opens j n) p

  -- what is found stays found
  pub found_stays : (k n m : ℕ) (o : Found) → k ≤ m → Err o ≡ found_up_to opens k n → Err o ≡ found_up_to opens m n
  unfolding on_from
  found_stays k n m o h e = le_ind (λ (j : ℕ). Err o ≡ found_up_to opens j n) e
      (λ j l i. ap (λ (w : Searched). on_from w (λ i. search opens i (sets_of (suc j) n 0))) i ∙ sym (up_suc j n)) m h

  pub found_few : (k n c : ℕ) → Ok c ≡ found_up_to opens k n → k < 4 → n ≤ 128 → c + length (sets_of (k + 1) (n - 0) 0) < 2 ^ 63
  unfolding found_up_to
  found_few k n c e h l =
      let z : n - 0 ≡ n = omega arith in
      let a = search_all opens 0 (sets_in_order k n) c (sym e) in
      let b = in_order_below k n (omega arith) l in
      let d = ap (λ (m : ℕ). length (sets_of (k + 1) m 0)) z in
      let q = sets_below (k + 1) n (omega arith) l in
      omega arith

-- ---- a search of one size

-- where no set of 1 to k wires is open, no set of fewer than k + 1 is
closed_below : (q : Question) (k c : ℕ) → size (routine_asked q) ≡ q.listing.now.shape.n → found_up_to (opens_in q) k q.listing.now.shape.n ≡ Ok c
    → ClosedBelow q (k + 1)
unfolding found_up_to
closed_below q k c e f ps a p l = search_closed (opens_in q) 0 (sets_in_order k q.listing.now.shape.n) c f ps
    (sets← k q.listing.now.shape.n ps (subst (λ (m : ℕ). Asc 0 m ps) e a) p (omega arith))

-- no set of 1 to k wires is open, c sets were judged, and the next size grows from g
module _ (q : Question) (k c : ℕ) (e : Ok c ≡ found_up_to (opens_in q) k q.listing.now.shape.n) (g : Grown) (b : g ≡ nothing_grown) where
  pub size_asked : k < 4 → Searching q (k + 1) 0 g c
  unfolding set_of see_all
  size_asked h =
      let fi = fit_of q.listing.now.shape q.listing.now.wires q.fits in
      subst (λ (y : Grown). Searching q (k + 1) 0 y c) (sym b) (record {
        below = omega arith;
        room = omega arith;
        grows = record { whole = refl; few = omega arith; ascends = tt; seen = refl };
        smaller = λ qs a p l. closed_below q k c fi.sized (sym e) qs a p (omega arith);
        counted = found_few (opens_in q) k q.listing.now.shape.n c e h fi.few;
      })

  pub size_found : (y : Searched) → y ≡ grow (opens_in q) (k + 1) (q.listing.now.shape.n - 0) 0 (held g.set) c → y ≡ found_up_to (opens_in q) (k + 1) q.listing.now.shape.n
  size_found y u = found_more (opens_in q) k q.listing.now.shape.n c y e (u
      ∙ ap (λ (z : Grown). grow (opens_in q) (k + 1) (q.listing.now.shape.n - 0) 0 (held z.set) c) b)
