-- Wires that are passed over: each makes a set with an own random, which is judged and not open without being made.
use Rattle.std.specs.Prelude.{◌≡◌, Bool, ◌≢◌, List, [], ◌∷◌, ◌++◌, ℕ, zero, suc, ◌+◌, ◌-◌, ◌≤◌, ◌<◌, Ok, Err}
use Rattle.std.proofs.Math.Path.{refl, sym, ap}
use Rattle.std.proofs.Common.{◌∙◌, subst}
use Rattle.std.proofs.Math.Bool.{false, cond}
use native.Mathlib.Omega.{arith}
use Rattle.std.proofs.Math.ListN.{get_or}
use Rattle.data.specs.ProbeSets.{held}
use Rattle.growing.specs.declared.Question.{Question}
use Rattle.growing.specs.declared.Found.{Found}
use Rattle.growing.specs.declared.Grown.{Grown}
use Rattle.cones.specs.Seen.{see, unseen}
use Rattle.growing.specs.Growing.{Searched, none, found, opens_in, own_of_both, grown_by, Skipped, Asked}
use Rattle.searching.specs.Search.{grow, Searching}
use Rattle.searching.proofs.Laws.Turns.{grow_leaf, grow_end, grow_hit, grow_miss, grow_count, sets_leaf, leaf_asked, held_grown, taken_next, passed_over}
use Rattle.opening.proofs.Laws.Leaf.{own_open}

module _ (q : Question) (places : ℕ) (g : Grown) where
  abbrev n : ℕ
  n = q.listing.now.shape.n

  abbrev opens : List ℕ → Bool
  opens = opens_in q

  abbrev Search : ℕ → ℕ → Type 0
  Search v k = Searching q places v g k

  abbrev sought : ℕ → ℕ → Searched
  sought v k = grow opens places (n - v) v (held g.set) k

  -- one wire
  pass : (v k : ℕ) → Search v k → places ≡ 1 → v < n → own_of_both g.cone (get_or q.cones.now v unseen) ≢ 0
      → Search (v + 1) (k + 1) × (sought v k ≡ sought (v + 1) (k + 1))
  unfolding grown_by see
  pass v k S e h o =
      let hp : 0 < places = omega arith in
      let last : places - 1 ≡ 0 = omega arith in
      let cone = get_or q.cones.now v unseen in
      let asked : Asked q (grown_by g v cone) = leaf_asked (taken_next S hp h (grown_by g v cone) refl) last in
      let shut : opens (held g.set ++ (v ∷ [])) ≡ false = sym (ap opens (held_grown S hp cone)) ∙ own_open asked o in
      let left : none (k + 1) ≡ grow opens (places - 1) (n - (v + 1)) (v + 1) (held g.set ++ (v ∷ [])) k =
      sym (grow_leaf opens (places - 1) (n - (v + 1)) (v + 1) (held g.set ++ (v ∷ [])) k last
      ∙ ap (λ (b : Bool). cond b (found (k + 1) (held g.set ++ (v ∷ []))) (none (k + 1))) shut) in
      let one = sets_leaf (places - 1) (n - (v + 1)) (v + 1) last in
      (passed_over S hp h (k + 1) (omega arith), sym (grow_miss opens places n v (held g.set) k hp h (k + 1) (sought (v + 1) (k + 1)) left refl))

  -- m wires
  passes : (from r count m : ℕ) → Search from count → Skipped places from n q.cones.now g.cone r → from + m ≤ r
      → Search (from + m) (count + m) × (sought from count ≡ sought (from + m) (count + m))
  passes from r count zero S k h =
      let e : from ≡ from + 0 = omega arith in
      let j : count ≡ count + 0 = omega arith in
      subst (λ (v : ℕ). Search v (count + 0) × (sought from count ≡ sought v (count + 0))) e
      (subst (λ (c : ℕ). Search from c × (sought from count ≡ sought from c)) j (S, refl))
  passes from r count (suc m) S k h =
      let e : from + m + 1 ≡ from + suc m = omega arith in
      let j : count + m + 1 ≡ count + suc m = omega arith in
      let before = passes from r count m S k (omega arith) in
      let u = k.until in
      let sp = k.spared (from + m) (omega arith) (omega arith) in
      let next = pass (from + m) (count + m) before.0 sp.0 (omega arith) sp.1 in
      subst (λ (v : ℕ). Search v (count + suc m) × (sought from count ≡ sought v (count + suc m))) e
      (subst (λ (c : ℕ). Search (from + m + 1) c × (sought from count ≡ sought (from + m + 1) c)) j (next.0, before.1 ∙ next.1))

  -- all wires up to r
  pub skipped : (from r count : ℕ) → Search from count → Skipped places from n q.cones.now g.cone r
      → Search r (count + (r - from)) × (sought from count ≡ sought r (count + (r - from)))
  skipped from r count S k =
      let l = k.since in
      let e : from + (r - from) ≡ r = omega arith in
      subst (λ (v : ℕ). Search v (count + (r - from)) × (sought from count ≡ sought v (count + (r - from)))) e
      (passes from r count (r - from) S k (omega arith))

-- ---- a whole turn: wires passed over up to r, then wire r

module _ {q : Question} {places from : ℕ} {g : Grown} {count r : ℕ} (S : Searching q places from g count)
    (k : Skipped places from q.listing.now.shape.n q.cones.now g.cone r) where
  abbrev j : ℕ
  j = count + (r - from)

  abbrev here : Searched
  here = grow (opens_in q) places (q.listing.now.shape.n - from) from (held g.set) count

  pub reached : Searching q places r g j
  reached = (skipped q places g from r count S k).0

  same : here ≡ grow (opens_in q) places (q.listing.now.shape.n - r) r (held g.set) j
  same = (skipped q places g from r count S k).1

  -- no wire is left
  pub turn_end : 0 < places → q.listing.now.shape.n ≤ r → none j ≡ here
  turn_end h l = sym (same ∙ grow_end (opens_in q) places q.listing.now.shape.n r (held g.set) j h l)

  module _ (h : 0 < places) (l : r < q.listing.now.shape.n) (more : Grown) (m : more ≡ grown_by g r (get_or q.cones.now r unseen)) where
    abbrev deeper : List ℕ → Searched
    deeper ps = grow (opens_in q) (places - 1) (q.listing.now.shape.n - (r + 1)) (r + 1) ps j

    -- with wire r
    pub turn_more : Searching q (places - 1) (r + 1) more j
    turn_more = taken_next reached h l more m

    module _ (x : Searched) (e : x ≡ deeper (held more.set)) where
      found_with : x ≡ deeper (held g.set ++ (r ∷ []))
      found_with = e ∙ ap (λ (y : Grown). deeper (held y.set)) m ∙ ap deeper (held_grown reached h _)

      pub turn_hit : (o : Found) → x ≡ Err o → Err o ≡ here
      turn_hit o t = grow_hit (opens_in q) places q.listing.now.shape.n r (held g.set) j h l o (sym t ∙ found_with) ∙ sym same

      -- and without it
      pub turn_rest : (c : ℕ) → x ≡ Ok c → Searching q places (r + 1) g c
      turn_rest c t =
          let b = grow_count (opens_in q) (places - 1) (q.listing.now.shape.n - (r + 1)) (r + 1) (held g.set ++ (r ∷ [])) j c (sym found_with ∙ t) in
          passed_over reached h l c (omega arith)

      pub turn_miss : (c : ℕ) → x ≡ Ok c → (y : Searched) → y ≡ grow (opens_in q) places (q.listing.now.shape.n - (r + 1)) (r + 1) (held g.set) c → y ≡ here
      turn_miss c t y f = grow_miss (opens_in q) places q.listing.now.shape.n r (held g.set) j h l c y (sym t ∙ found_with) f ∙ sym same
