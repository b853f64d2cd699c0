-- A turn of the search: a set that is grown stays one to be grown, with a wire more or a wire passed over, and the search is that of its two parts.
use Rattle.std.specs.Prelude.{◌≡◌, Bool, get_or, Ok, Err}
use Rattle.std.proofs.Math.Path.{refl, sym, ap}
use Rattle.std.proofs.Common.{◌∙◌, subst, lt_irrefl, mul-suc, mul-le-mul_left, mul-le-mul_right, sub-one}
use Rattle.std.proofs.Math.Bool.{true, false, cond}
use mathlib.Core.List.{List, [], ◌∷◌, ◌++◌, map}
use Prim.Native.Nat.{ℕ, zero, suc, ◌+◌, ◌-◌, ◌*◌, ◌^◌, ◌≤◌, ◌<◌}
use Rattle.std.proofs.Math.Numerals.{add-one}
use native.Mathlib.Omega.{arith}
use Rattle.std.proofs.Math.ListN.{length, length-append}
use Rattle.std.proofs.lemmas.List.{length-map}
use Rattle.document.specs.Routine.{Routine, size}
use Rattle.data.specs.ProbeSets.{held, set_of, Asc}
use Rattle.document.specs.Judgements.{sets_of}
use Rattle.records.proofs.Laws.Fitting.{fit_of}
use Rattle.cones.specs.declared.Cone.{Cone}
use Rattle.cones.specs.Seen.{Seen, see, see_wire, see_all, unseen}
use Rattle.cones.proofs.Laws.Seen.{see_more}
use Rattle.growing.specs.declared.Question.{Question}
use Rattle.growing.specs.declared.Found.{Found}
use Rattle.growing.specs.declared.Grown.{Grown}
use Rattle.growing.specs.Growing.{Searched, none, found, routine_asked, seen_of, grown_by, judged_set, Asked}
use Rattle.searching.specs.Search.{search, on_from, grow, Searching}
use Rattle.searching.proofs.Laws.Search.{grow_is}
use Rattle.growing.proofs.Laws.Growing.{held_of, held_length}

-- ---- the measure: places left times wires left

less_wires : (p w v : ℕ) → 0 < p → v < w → p * v < p * w
less_wires p w v h e = let m : p * suc v ≤ p * w = mul-le-mul_left p e in let q = mul-suc p v in omega arith

pub falls_wires : (p n f a t : ℕ) → p * (n - f) ≡ t → 0 < p → f ≤ a → a < n → p * (n - (a + 1)) < t
falls_wires p n f a t e h k l = let z = less_wires p (n - f) (n - (a + 1)) h (omega arith) in omega arith

pub falls_both : (p n f a t : ℕ) → p * (n - f) ≡ t → 0 < p → f ≤ a → a < n → (p - 1) * (n - (a + 1)) < t
falls_both p n f a t e h k l =
    let y : (p - 1) * (n - (a + 1)) ≤ p * (n - (a + 1)) = mul-le-mul_right (n - (a + 1)) (omega arith) in
    let z = falls_wires p n f a t e h k l in
    omega arith

-- ---- the search, turn by turn

module _ (opens : List ℕ → Bool) where
  pub grow_leaf : (p m lo : ℕ) (s : List ℕ) (k : ℕ) → p ≡ 0 → grow opens p m lo s k ≡ judged_set opens s k
  unfolding grow
  grow_leaf p m lo s k e = rw (e, add-one) refl

  pub grow_end : (p n f : ℕ) (s : List ℕ) (k : ℕ) → 0 < p → n ≤ f → grow opens p (n - f) f s k ≡ none k
  unfolding grow
  grow_end zero n f s k h l = absurd (lt_irrefl 0 h)
  grow_end (suc p) n f s k h l = let e : n - f ≡ 0 = omega arith in rw e refl

  grow_on : (p n f : ℕ) (s : List ℕ) (k : ℕ) → 0 < p → f < n
      → grow opens p (n - f) f s k ≡ on_from (grow opens (p - 1) (n - (f + 1)) (f + 1) (s ++ (f ∷ [])) k) (λ j. grow opens p (n - (f + 1)) (f + 1) s j)
  unfolding grow
  grow_on zero n f s k h l = absurd (lt_irrefl 0 h)
  grow_on (suc p) n f s k h l = let e : n - f ≡ suc (n - (f + 1)) = omega arith in rw (e, add-one, sub-one) refl

  -- found with the next wire
  pub grow_hit : (p n f : ℕ) (s : List ℕ) (k : ℕ) → 0 < p → f < n → (o : Found) → Err o ≡ grow opens (p - 1) (n - (f + 1)) (f + 1) (s ++ (f ∷ [])) k
      → Err o ≡ grow opens p (n - f) f s k
  unfolding on_from
  grow_hit p n f s k h l o e = ap (λ (y : Searched). on_from y (λ j. grow opens p (n - (f + 1)) (f + 1) s j)) e ∙ sym (grow_on p n f s k h l)

  -- not found with the next wire
  pub grow_miss : (p n f : ℕ) (s : List ℕ) (k : ℕ) → 0 < p → f < n → (c : ℕ) (y : Searched) → Ok c ≡ grow opens (p - 1) (n - (f + 1)) (f + 1) (s ++ (f ∷ [])) k
      → y ≡ grow opens p (n - (f + 1)) (f + 1) s c → y ≡ grow opens p (n - f) f s k
  unfolding on_from
  grow_miss p n f s k h l c y e q = q ∙ ap (λ (z : Searched). on_from z (λ j. grow opens p (n - (f + 1)) (f + 1) s j)) e ∙ sym (grow_on p n f s k h l)

  -- where none is open, all are judged
  pub search_all : (k : ℕ) (ss : List (List ℕ)) (c : ℕ) → search opens k ss ≡ Ok c → c ≡ k + length ss
  unfolding search
  search_all k [] c e = let z : k ≡ c = cc in omega arith
  search_all k (s ∷ ss) c e = go (opens s) e (search_all (suc k) ss c)
    where
      go : (b : Bool) → cond b (found (suc k) s) (search opens (suc k) ss) ≡ Ok c → (search opens (suc k) ss ≡ Ok c → c ≡ suc k + length ss)
          → c ≡ k + length (s ∷ ss)
      go true f rest = let z : ⊥ = cc in absurd z
      go false f rest = let z = rest f in omega arith

  pub grow_count : (p m lo : ℕ) (s : List ℕ) (k c : ℕ) → grow opens p m lo s k ≡ Ok c → c ≡ k + length (sets_of p m lo)
  grow_count p m lo s k c e =
      let a = search_all k (map (λ r. s ++ r) (sets_of p m lo)) c (sym (grow_is opens p m lo s k) ∙ e) in
      let b = length-map (sets_of p m lo) (λ r. s ++ r) in
      omega arith

pub sets_leaf : (p m lo : ℕ) → p ≡ 0 → length (sets_of p m lo) ≡ 1
unfolding sets_of
sets_leaf p m lo e = rw e refl

sets_on : (p n f : ℕ) → 0 < p → f < n → length (sets_of p (n - f) f) ≡ length (sets_of (p - 1) (n - (f + 1)) (f + 1)) + length (sets_of p (n - (f + 1)) (f + 1))
unfolding sets_of
sets_on zero n f h l = absurd (lt_irrefl 0 h)
sets_on (suc p) n f h l =
    let e : n - f ≡ suc (n - (f + 1)) = omega arith in
    rw (e, add-one, sub-one) (length-append (map (λ ps. f ∷ ps) (sets_of p (n - suc f) (suc f))) (sets_of (suc p) (n - suc f) (suc f))
    ∙ ap (λ (x : ℕ). x + length (sets_of (suc p) (n - suc f) (suc f))) (length-map (sets_of p (n - suc f) (suc f)) (λ ps. f ∷ ps)))

-- ---- ascending wires

pub asc_up : (lo k m : ℕ) (ps : List ℕ) → k ≤ m → Asc lo k ps → Asc lo m ps
asc_up lo k m [] h a = tt
asc_up lo k m (p ∷ ps) h a = (a.0, (let z = a.1 in omega arith), asc_up (suc p) k m ps h a.2)

asc_last : (lo k : ℕ) (ps : List ℕ) → lo ≤ k → Asc lo k ps → Asc lo (k + 1) (ps ++ (k ∷ []))
asc_last lo k [] h a = (h, omega arith, tt)
asc_last lo k (p ∷ ps) h a = let z = a.1 in (a.0, omega arith, asc_last (suc p) k ps (omega arith) a.2)

-- ---- a set to be grown

module _ {q : Question} {places from : ℕ} {g : Grown} {count : ℕ} (S : Searching q places from g count) where
  abbrev R : Routine
  R = routine_asked q

  abbrev n : ℕ
  n = q.listing.now.shape.n

  sized : size R ≡ n
  sized = (fit_of q.listing.now.shape q.listing.now.wires q.fits).sized

  pub few_wires : n ≤ 128
  few_wires = (fit_of q.listing.now.shape q.listing.now.wires q.fits).few

  pub leaf_asked : places ≡ 0 → Asked q g
  leaf_asked e = record {
    grows = record {
      whole = S.grows.whole;
      few = S.grows.few;
      ascends = asc_up 0 from n (held g.set) S.below S.grows.ascends;
      seen =
          S.grows.seen;
    };
    smaller = λ qs a l h. S.smaller qs a l (let r = S.room in omega arith);
  }

  pub leaf_counted : places ≡ 0 → count + 1 < 2 ^ 63
  leaf_counted e = let a = sets_leaf places (n - from) from e in let b = S.counted in omega arith

  pub held_grown : 0 < places → (cone : Cone) → held (grown_by g from cone).set ≡ held g.set ++ (from ∷ [])
  unfolding grown_by
  held_grown h cone =
      let l = held_length g.set S.grows.whole in
      let r = S.room in
      let a = length-append (held g.set) (from ∷ []) in
      held_of (held g.set ++ (from ∷ [])) (omega arith)

  seen_grown : from < n → seen_of (grown_by g from (get_or q.cones.now from unseen)) ≡ see_all R unseen (held g.set ++ (from ∷ []))
  unfolding grown_by see_wire
  seen_grown h =
      ap (λ (c : Cone). see (seen_of g) c.shares c.rands c.own) (q.tables.each from h) ∙ ap (λ (z : Seen). see_wire R z from) S.grows.seen
      ∙ sym (see_more R unseen (held g.set) from)

  grown_len : (cone : Cone) → (grown_by g from cone).set.len ≡ g.set.len + 1
  unfolding grown_by set_of
  grown_len cone = let l = held_length g.set S.grows.whole in let a = length-append (held g.set) (from ∷ []) in omega arith

  grown_whole : 0 < places → (cone : Cone) → (grown_by g from cone).set ≡ set_of (held (grown_by g from cone).set)
  unfolding grown_by
  grown_whole h cone = sym (ap set_of (held_grown h cone))

  -- with the next wire
  pub taken_next : 0 < places → from < n → (more : Grown) → more ≡ grown_by g from (get_or q.cones.now from unseen) → Searching q (places - 1) (from + 1) more count
  taken_next h l more e =
      let cone = get_or q.cones.now from unseen in
      let len = grown_len cone in
      let room = S.room in
      let counted = S.counted in
      let on = sets_on places n from h l in
      let hg = held_grown h cone in
      subst (λ (x : Grown). Searching q (places - 1) (from + 1) x count) (sym e) (record {
        below = omega arith;
        room = omega arith;
        grows = record {
          whole = grown_whole h cone;
          few = omega arith;
          ascends = subst (λ (ps : List ℕ). Asc 0 (from + 1) ps) (sym hg) (asc_last 0 from (held g.set) (omega arith) S.grows.ascends);
          seen = seen_grown l ∙ ap (λ (ps : List ℕ). see_all R unseen ps) (sym hg);
        };
        smaller = λ qs a b c. S.smaller qs a b (omega arith);
        counted = omega arith;
      })

  -- with the next wire passed over
  pub passed_over : 0 < places → from < n → (k : ℕ) → k ≤ count + length (sets_of (places - 1) (n - (from + 1)) (from + 1))
      → Searching q places (from + 1) g k
  passed_over h l k c =
      let counted = S.counted in
      let on = sets_on places n from h l in
      record {
        below = omega arith;
        room = S.room;
        grows = record {
          whole = S.grows.whole;
          few = S.grows.few;
          ascends = asc_up 0 from (from + 1) (held g.set) (omega arith) S.grows.ascends;
          seen = S.grows.seen;
        };
        smaller = S.smaller;
        counted = omega arith;
      }
