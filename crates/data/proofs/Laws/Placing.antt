-- Where an addition puts a wire, place by place, and that this is the addition of 4.9 and 4.10.
use Rattle.std.specs.Prelude.{◌≡◌, refl, Bool, true, false, not, ◌&&◌, ◌||◌, cond, List, [], ◌∷◌, ◌++◌, ℕ, zero, suc, ◌+◌, ◌≤◌, ◌<◌, eqb, ltb, leb, length, get_or, take}
use Rattle.std.proofs.Common.{sym, ◌∙◌, zero-le, add-one, arith, length-drop, drop_of_length-le, drop-cons, get_or-take, length-take-le, le-ltb}
use Rattle.std.proofs.Math.Path.{ap}
use Rattle.std.proofs.Math.ListN.{drop}
use Rattle.std.proofs.lemmas.Bool.{lt-leb}
use Rattle.data.specs.Basics.{elem}
use Rattle.data.specs.ProbeSets.{held, ascending, may_add, insert, adding}
use Rattle.data.specs.Placing.{rank}
use Rattle.std.specs.List.{copy_within, list_any}
use Rattle.std.specs.Prelude.{◌==◌, set}
use Rattle.std.proofs.Common.{ap₂}
use Rattle.std.proofs.Common.{subst}
use Rattle.data.proofs.Laws.Tests.{bool_cases, out_of, clash, eqb_true, and_l, and_r, and_false, cond_cases, cond_true, cond_false, true_eqb, true_ltb, ltb_true, true_leb, leb_true}
use Rattle.data.specs.declared.Refusal.TheVariants as No
use Rattle.std.specs.Prelude.{Ok, Err}
use Rattle.data.specs.declared.ProbeSet.{ProbeSet}
use Rattle.data.specs.declared.Added.{Added}

-- ---- the held wires from place i on

pub short_ascends : (ps : List ℕ) → length ps ≤ 1 → ascending ps ≡ true
unfolding ascending
short_ascends [] h = refl
short_ascends (p ∷ []) h = refl
short_ascends (p ∷ q ∷ ps) h = absurd (omega arith)

module _ (P : List ℕ) (len : ℕ) (fits : len ≤ length P) where
  pub held_next : (i : ℕ) → i < len → drop i (take len P) ≡ get_or P i 0 ∷ drop (i + 1) (take len P)
  held_next i l =
      let n = length-take-le len P fits in
      rw add-one (drop-cons (take len P) i 0 (omega arith) ∙ ap (λ (x : ℕ). x ∷ drop (suc i) (take len P)) (get_or-take len P i 0 l))

  pub held_ends : (i : ℕ) → len ≤ i → drop i (take len P) ≡ []
  held_ends i l = let n = length-take-le len P fits in drop_of_length-le (take len P) {i = i} (omega arith)

-- ---- walks over the held wires, as the code makes them

module _ (xs : List ℕ) where
  -- place i and those behind it
  pub from_place : (i : ℕ) → i < length xs → drop i xs ≡ get_or xs i 0 ∷ drop (i + 1) xs
  from_place i l = rw add-one (drop-cons xs i 0 l)

  pub rank_here : (w i : ℕ) → i < length xs → w < get_or xs i 0 → rank w (drop i xs) ≡ 0
  unfolding rank
  rank_here w i l h = ap (rank w) (from_place i l) ∙ cond_true _ _ (true_ltb w (get_or xs i 0) h)

  pub rank_later : (w i : ℕ) → i < length xs → get_or xs i 0 ≤ w → rank w (drop i xs) ≡ suc (rank w (drop (i + 1) xs))
  unfolding rank
  rank_later w i l h = ap (rank w) (from_place i l) ∙ cond_false _ _ (le-ltb w (get_or xs i 0) h)

  pub rank_none : (w i : ℕ) → length xs ≤ i → rank w (drop i xs) ≡ 0
  unfolding rank
  rank_none w i l = ap (rank w) (drop_of_length-le xs {i = i} l)

  two : (j i : ℕ) → j + 1 ≡ i → i < length xs → drop j xs ≡ get_or xs j 0 ∷ get_or xs i 0 ∷ drop (i + 1) xs
  two j i e l = subst (λ (k : ℕ). drop j xs ≡ get_or xs j 0 ∷ get_or xs k 0 ∷ drop (k + 1) xs) e
      (from_place j (omega arith) ∙ ap (λ (ys : List ℕ). get_or xs j 0 ∷ ys) (from_place (j + 1) (omega arith)))

  -- place j stands before place i
  pub ascends_on : (j i : ℕ) → j + 1 ≡ i → i < length xs → get_or xs j 0 < get_or xs i 0 → ascending (drop j xs) ≡ ascending (drop i xs)
  unfolding ascending
  ascends_on j i e l h =
      ap ascending (two j i e l)
      ∙ ap (λ (b : Bool). b && ascending (get_or xs i 0 ∷ drop (i + 1) xs)) (true_ltb (get_or xs j 0) (get_or xs i 0) h)
      ∙ ap ascending (sym (from_place i l))

  pub ascends_not : (j i : ℕ) → j + 1 ≡ i → i < length xs → get_or xs i 0 ≤ get_or xs j 0 → ascending (drop j xs) ≡ false
  unfolding ascending
  ascends_not j i e l h =
      ap ascending (two j i e l) ∙ ap (λ (b : Bool). b && ascending (get_or xs i 0 ∷ drop (i + 1) xs)) (le-ltb (get_or xs j 0) (get_or xs i 0) h)

  pub ascends_end : (j : ℕ) → length xs ≤ j + 1 → ascending (drop j xs) ≡ true
  ascends_end j l = let d = length-drop j xs in short_ascends (drop j xs) (omega arith)

-- a list holds a number where one of its elements is it
pub contains_is : (w : ℕ) (xs : List ℕ) → list_any (λ y. y == w) xs ≡ elem w xs
unfolding elem
contains_is w [] = refl
contains_is w (x ∷ xs) = ap₂ ◌||◌ (turned x w) (contains_is w xs)
  where
    turned : (a b : ℕ) → eqb a b ≡ eqb b a
    turned a b = bool_cases (eqb a b)
        (λ e. e ∙ sym (true_eqb b a (sym (eqb_true a b e))))
        (λ e. e ∙ sym (out_of (λ d. clash (true_eqb a b (sym (eqb_true b a d))) e)))

-- ---- the addition, place by place

rank_most : (w : ℕ) (ps : List ℕ) → rank w ps ≤ length ps
unfolding rank
rank_most w [] = zero-le
rank_most w (p ∷ ps) = cond_cases (λ (k : ℕ). k ≤ length (p ∷ ps)) (ltb w p) 0 (suc (rank w ps)) (λ _. zero-le) (λ _. let z = rank_most w ps in omega arith)

pub rank_fits : (w : ℕ) (P : List ℕ) (len : ℕ) → len ≤ length P → rank w (take len P) ≤ len
rank_fits w P len h = let a = rank_most w (take len P) in let b = length-take-le len P h in omega arith

pub held_long : (P : List ℕ) (len : ℕ) → len ≤ length P → len ≡ length (take len P)
held_long P len h = sym (length-take-le len P h)

-- the places once those from k to the end are moved up by one and w is put at k
abbrev pub moved : List ℕ → ℕ → ℕ → ℕ → List ℕ
moved places len k w = set (copy_within places k len (k + 1)) k w

-- the places of the addition, for each length that has room
four : (a b c d w len : ℕ) → len < 4
    → moved (a ∷ b ∷ c ∷ d ∷ []) len (rank w (take len (a ∷ b ∷ c ∷ d ∷ []))) w
    ≡ insert w (take len (a ∷ b ∷ c ∷ d ∷ [])) ++ drop (len + 1) (a ∷ b ∷ c ∷ d ∷ [])
unfolding rank insert
four a b c d w zero h = refl
four a b c d w (suc zero) h = go (ltb w a)
  where
    go : (x : Bool) → moved (a ∷ b ∷ c ∷ d ∷ []) 1 (cond x 0 1) w ≡ cond x (w ∷ a ∷ []) (a ∷ w ∷ []) ++ c ∷ d ∷ []
    go true = refl
    go false = refl
four a b c d w (suc (suc zero)) h = go (ltb w a) (ltb w b)
  where
    go : (x y : Bool) → moved (a ∷ b ∷ c ∷ d ∷ []) 2 (cond x 0 (suc (cond y 0 1))) w
        ≡ cond x (w ∷ a ∷ b ∷ []) (a ∷ cond y (w ∷ b ∷ []) (b ∷ w ∷ [])) ++ d ∷ []
    go true y = refl
    go false true = refl
    go false false = refl
four a b c d w (suc (suc (suc zero))) h = go (ltb w a) (ltb w b) (ltb w c)
  where
    go : (x y z : Bool) → moved (a ∷ b ∷ c ∷ d ∷ []) 3 (cond x 0 (suc (cond y 0 (suc (cond z 0 1))))) w
        ≡ cond x (w ∷ a ∷ b ∷ c ∷ []) (a ∷ cond y (w ∷ b ∷ c ∷ []) (b ∷ cond z (w ∷ c ∷ []) (c ∷ w ∷ []))) ++ []
    go true y z = refl
    go false true z = refl
    go false false true = refl
    go false false false = refl
four a b c d w (suc (suc (suc (suc len)))) h = absurd (omega arith)

pub added_places : (w : ℕ) (P : List ℕ) (len : ℕ) → length P ≡ 4 → len < 4
    → moved P len (rank w (take len P)) w ≡ insert w (take len P) ++ drop (len + 1) P
added_places w (a ∷ b ∷ c ∷ d ∷ []) len e h = four a b c d w len h
added_places w [] len e h = absurd (omega arith)
added_places w (a ∷ []) len e h = absurd (omega arith)
added_places w (a ∷ b ∷ []) len e h = absurd (omega arith)
added_places w (a ∷ b ∷ c ∷ []) len e h = absurd (omega arith)
added_places w (a ∷ b ∷ c ∷ d ∷ x ∷ xs) len e h = absurd (omega arith)

-- ---- the test of an addition

pub full_refused : (s : ProbeSet) (w : ℕ) → 4 ≤ s.len → may_add s w ≡ false
unfolding may_add
full_refused s w h = ap (λ (b : Bool). b && leb w 127 && ascending (held s)) (and_false (not (elem w (held s))) (ltb s.len 4) (le-ltb s.len 4 h))

pub high_refused : (s : ProbeSet) (w : ℕ) → 127 < w → may_add s w ≡ false
unfolding may_add
high_refused s w h = ap (λ (b : Bool). b && ascending (held s)) (and_false (not (elem w (held s)) && ltb s.len 4) (leb w 127) (lt-leb w 127 h))

pub held_refused : (s : ProbeSet) (w : ℕ) → elem w (held s) ≡ true → may_add s w ≡ false
unfolding may_add
held_refused s w h = ap (λ (b : Bool). not b && ltb s.len 4 && leb w 127 && ascending (held s)) h

pub ascending_decides : (s : ProbeSet) (w : ℕ) → s.len < 4 → w ≤ 127 → elem w (held s) ≡ false → may_add s w ≡ ascending (held s)
unfolding may_add
ascending_decides s w l h n = simp (n, true_ltb s.len 4 l, true_leb w 127 h)

-- the same, by the list's own test
pub contained_refused : (s : ProbeSet) (w : ℕ) → list_any (λ y. y == w) (held s) ≡ true → may_add s w ≡ false
contained_refused s w h = held_refused s w (sym (contains_is w (held s)) ∙ h)

pub not_contained_decides : (s : ProbeSet) (w : ℕ) → s.len < 4 → w ≤ 127 → list_any (λ y. y == w) (held s) ≡ false → may_add s w ≡ ascending (held s)
not_contained_decides s w l h n = ascending_decides s w l h (sym (contains_is w (held s)) ∙ n)

pub may_add_room : (s : ProbeSet) (w : ℕ) → may_add s w ≡ true → s.len < 4
unfolding may_add
may_add_room s w e = ltb_true s.len 4 (search (and_l, and_r))

pub may_add_low : (s : ProbeSet) (w : ℕ) → may_add s w ≡ true → w ≤ 127
unfolding may_add
may_add_low s w e = leb_true w 127 (search (and_l, and_r))

pub added : (s : ProbeSet) (w : ℕ) → length s.places ≡ 4 → may_add s w ≡ true
    → ◌≡◌ {A = Added} (record { outcome = Ok tt; set = record { places = moved s.places s.len (rank w (held s)) w; len = s.len + 1 } }) (adding s w)
unfolding adding
added s w e may =
    ap {B = Added} (λ (ps : List ℕ). record { outcome = Ok tt; set = record { places = ps; len = s.len + 1 } })
    (added_places w s.places s.len e (may_add_room s w may))
    ∙ sym (cond_true _ _ may)

pub not_added : (s : ProbeSet) (w : ℕ) → may_add s w ≡ false → ◌≡◌ {A = Added} (record { outcome = Err No.Probes; set = s }) (adding s w)
unfolding adding
not_added s w may = sym (cond_false _ _ may)
