-- The pattern counts as sums over all starts, and that they do not depend on the secrets where each secret has an unneeded share.
use Rattle.std.specs.Prelude.{◌≡◌, Bool, true, false}
use Rattle.std.proofs.Math.Path.{refl, sym, ap}
use Rattle.std.proofs.Common.{ap₂, ◌∙◌, inl, inr, not-suc-le-zero}
use Rattle.std.proofs.Math.Bool.{cond}
use mathlib.Core.List.{List, [], ◌∷◌, ◌++◌, map, flat_map}
use Prim.Native.Nat.{ℕ, zero, suc, ◌+◌, ◌*◌, ◌<◌}
use native.Mathlib.Omega.{arith}
use Rattle.std.proofs.Math.ListN.{length, get_or, length-append, get_or-append}
use Rattle.std.proofs.Math.Seq.{get_or_at}
use Rattle.data.specs.Basics.{one, keep, up_to, same, at}
use Rattle.document.specs.Routine.{Routine, size, wire, is_rand, rands_before, pubs_before}
use Rattle.document.specs.Running.{Value, gives, value_at, first_values, running}
use Rattle.document.specs.Padding.{probed as probedMarks, first_leaves, steps, leaves_after, last_leaves, live_at_end, needed_of, Allowed}
use Rattle.document.specs.Starts.{all_words, splits, Start, starts, observed, pattern_count, draw_count, draws_after, leaf_value, count_after, Small}
use Rattle.data.proofs.Laws.Tests.{clash, bool_cases, wire_cases, tally_spare, Mem}
use Rattle.document.proofs.Laws.Marks.{Set}
use Rattle.document.proofs.Laws.Sums.{total, total_ext, words, words_ext}
use Rattle.document.proofs.Laws.Values.{Lawful, inner_ext, value_leaf, value_inner}
use Rattle.document.proofs.Laws.Splitting.{splits_at, splits_to, start_sum, secret_free}
use Rattle.document.proofs.Laws.Sound.{Sound, first_leaf→, first_leaf←, first_length, first_slots}
use Rattle.document.proofs.Laws.Rule.{Live, probed, operand}
use Rattle.document.proofs.Laws.Live.{net}
use Rattle.document.proofs.Laws.Steps.{run_allowed}
use Rattle.document.proofs.Laws.Orders.{steps_run}
use Rattle.document.proofs.Laws.Counting.{Reads, AsOften, kept, fixed}
use Rattle.document.proofs.Laws.Needed.{probed_length, probed→, probed←, needed_live, needed_tally}
use Rattle.data.specs.declared.Kind.{Kind}
use Rattle.data.specs.declared.Kind.TheVariants.{Share, Rand, Pub, Xor, And, Not}
use Rattle.data.specs.declared.Step.{Step}

-- ---- sums over lists

sum_of : {A : Type 0} → (A → ℕ) → List A → ℕ
sum_of f [] = 0
sum_of f (x ∷ xs) = f x + sum_of f xs

sum_ext : {A : Type 0} (f g : A → ℕ) (xs : List A) → ((x : A) → f x ≡ g x) → sum_of f xs ≡ sum_of g xs
unfolding sum_of
sum_ext f g [] h = refl
sum_ext f g (x ∷ xs) h = ap₂ ◌+◌ (h x) (sum_ext f g xs h)

sum_append : {A : Type 0} (f : A → ℕ) (xs ys : List A) → sum_of f (xs ++ ys) ≡ sum_of f xs + sum_of f ys
unfolding sum_of
sum_append f [] ys = omega arith
sum_append f (x ∷ xs) ys = let z = sum_append f xs ys in omega arith

sum_map : {A B : Type 0} (f : B → ℕ) (g : A → B) (xs : List A) → sum_of f (map g xs) ≡ sum_of (λ x. f (g x)) xs
unfolding sum_of
sum_map f g [] = refl
sum_map f g (x ∷ xs) = ap (λ (k : ℕ). f (g x) + k) (sum_map f g xs)

sum_flat : {A B : Type 0} (f : B → ℕ) (g : A → List B) (xs : List A) → sum_of f (flat_map g xs) ≡ sum_of (λ x. sum_of f (g x)) xs
unfolding sum_of flat_map
sum_flat f g [] = refl
sum_flat f g (x ∷ xs) = sum_append f (g x) (flat_map g xs) ∙ ap (λ (k : ℕ). sum_of f (g x) + k) (sum_flat f g xs)

sum_kept : {A : Type 0} (f : A → ℕ) (h : A → Bool) (xs : List A) → sum_of f (keep h xs) ≡ sum_of (λ x. cond (h x) (f x) 0) xs
unfolding sum_of keep
sum_kept f h [] = refl
sum_kept f h (x ∷ xs) = go (h x) (sum_kept f h xs)
  where
    go : (b : Bool) → sum_of f (keep h xs) ≡ sum_of (λ x. cond (h x) (f x) 0) xs
        → sum_of f (cond b (x ∷ keep h xs) (keep h xs)) ≡ cond b (f x) 0 + sum_of (λ x. cond (h x) (f x) 0) xs
    go true e = omega arith
    go false e = omega arith

kept_sum : {A : Type 0} (h : A → Bool) (xs : List A) → length (keep h xs) ≡ sum_of (λ x. one (h x)) xs
unfolding sum_of keep
kept_sum h [] = refl
kept_sum h (x ∷ xs) = go (h x) (kept_sum h xs)
  where
    go : (b : Bool) → length (keep h xs) ≡ sum_of (λ x. one (h x)) xs → length (cond b (x ∷ keep h xs) (keep h xs)) ≡ one b + sum_of (λ x. one (h x)) xs
    go true e = omega arith
    go false e = omega arith

total_first : (n : ℕ) (f : ℕ → ℕ) → total (suc n) f ≡ f 0 + total n (λ v. f (suc v))
unfolding total
total_first zero f = refl
total_first (suc n) f = let z = total_first n f in omega arith

sum_up_to : (n lo : ℕ) (f : ℕ → ℕ) → sum_of f (up_to n lo) ≡ total n (λ v. f (lo + v))
unfolding sum_of up_to total
sum_up_to zero lo f = refl
sum_up_to (suc n) lo f =
    ap (λ (k : ℕ). f lo + k) (sum_up_to n (suc lo) f ∙ total_ext n (λ v. f (suc lo + v)) (λ v. f (lo + suc v)) (λ v _. ap f (omega arith)))
    ∙ ap (λ (k : ℕ). f k + total n (λ v. f (lo + suc v))) (omega arith)
    ∙ sym (total_first n (λ v. f (lo + v)))

-- ---- every word of values, once

sum_words : (K : Value) (m : ℕ) (f : List ℕ → ℕ) → sum_of f (all_words K m) ≡ words K.many m f
unfolding all_words words sum_of
sum_words K zero f = omega arith
sum_words K (suc m) f =
    sum_flat f (λ v. map (λ xs. v ∷ xs) (all_words K m)) (up_to K.many 0)
    ∙ sum_ext _ (λ v. words K.many m (λ xs. f (v ∷ xs))) (up_to K.many 0) (λ v. sum_map f (λ xs. v ∷ xs) (all_words K m) ∙ sum_words K m (λ xs. f (v ∷ xs)))
    ∙ sum_up_to K.many 0 (λ v. words K.many m (λ xs. f (v ∷ xs)))
    ∙ total_ext K.many _ _ (λ v _. ap (λ (u : ℕ). words K.many m (λ xs. f (u ∷ xs))) (omega arith))

-- how many words pass a test
pub kept_words : (K : Value) (m : ℕ) (h : List ℕ → Bool) → length (keep h (all_words K m)) ≡ words K.many m (λ xs. one (h xs))
kept_words K m h = kept_sum h (all_words K m) ∙ sum_words K m (λ xs. one (h xs))

-- ---- running is the value of each wire where the randoms are the leaves

module _ (K : Value) (law : Lawful K) (R : Routine) (so : Sound R) where
  gives_leaf : (k : Kind) (s r p a b : ℕ) → is_rand k ≡ true → gives K k s r p a b ≡ r
  unfolding gives
  gives_leaf Share s r p a b i = clash i refl
  gives_leaf Rand s r p a b i = refl
  gives_leaf Pub s r p a b i = clash i refl
  gives_leaf Xor s r p a b i = clash i refl
  gives_leaf And s r p a b i = clash i refl
  gives_leaf Not s r p a b i = clash i refl

  gives_inner : (k : Kind) (s r r' p a b : ℕ) → is_rand k ≡ false → gives K k s r p a b ≡ gives K k s r' p a b
  unfolding gives
  gives_inner Share s r r' p a b o = refl
  gives_inner Rand s r r' p a b o = clash refl o
  gives_inner Pub s r r' p a b o = refl
  gives_inner Xor s r r' p a b o = refl
  gives_inner And s r r' p a b o = refl
  gives_inner Not s r r' p a b o = refl

  abbrev leaves : Set
  leaves = at (first_leaves R)

  module _ (x ρ y : List ℕ) where
    val : ℕ → ℕ
    val = leaf_value K R leaves (rands_before R) x ρ y

    values_length : (n : ℕ) → length (first_values K R x ρ y n) ≡ n
    unfolding first_values
    values_length zero = refl
    values_length (suc n) =
        let vs = first_values K R x ρ y n in
        let l = values_length n in
        let a = length-append vs (value_at K R x ρ y (λ w. get_or vs w 0) n ∷ []) in
        omega arith

    newest : (n : ℕ) (e : ℕ → ℕ) → ((v : ℕ) → v < n → e v ≡ val v) → value_at K R x ρ y e n ≡ val n
    unfolding value_at val
    newest n e ih = bool_cases (leaves n)
        (λ i. gives_leaf (wire R n).kind (get_or x n 0) (get_or ρ (rands_before R n) 0) (get_or y (pubs_before R n) 0) (e (wire R n).a) (e (wire R n).b)
        (first_leaf→ R n i)
        ∙ sym (value_leaf K law R so.earlier leaves (rands_before R) x ρ y n i))
        (λ o. gives_inner (wire R n).kind (get_or x n 0) (get_or ρ (rands_before R n) 0) 0 (get_or y (pubs_before R n) 0) (e (wire R n).a) (e (wire R n).b)
        (bool_cases (is_rand (wire R n).kind) (λ i. clash (first_leaf← R so.few n i) o) (λ z. z))
        ∙ inner_ext K law R x y e val n (λ v q. ih v (so.earlier n v q))
        ∙ sym (value_inner K law R so.earlier leaves (rands_before R) x ρ y n o))

    first_is : (n w : ℕ) → w < n → get_or (first_values K R x ρ y n) w 0 ≡ val w
    unfolding first_values
    first_is zero w h = absurd (not-suc-le-zero h)
    first_is (suc n) w h =
        let vs = first_values K R x ρ y n in
        let new = value_at K R x ρ y (λ v. get_or vs v 0) n in
        let len : length vs ≡ n = values_length n in
        wire_cases w n
        (λ e. ap (λ (k : ℕ). get_or (vs ++ (new ∷ [])) k 0) e ∙ get_or_at vs new [] 0 n len ∙ newest n (λ v. get_or vs v 0) (λ v l. first_is n v l) ∙ ap val (sym e))
        (λ e. get_or-append vs (new ∷ []) 0 w (omega arith) ∙ first_is n w (omega arith))

    pub running_is : (w : ℕ) → w < size R → get_or (running K R x ρ y) w 0 ≡ leaf_value K R (at (first_leaves R)) (rands_before R) x ρ y w
    unfolding running val
    running_is w h = first_is (size R) w h

  -- ---- the pattern counts

  -- the observed wires show the pattern
  shows : List ℕ → List ℕ → (ℕ → ℕ) → ℕ
  shows ps pattern e = one (same (map e ps) pattern)

  map_ext : (ps : List ℕ) (e e' : ℕ → ℕ) → ((w : ℕ) → Mem w ps → e w ≡ e' w) → map e ps ≡ map e' ps
  map_ext [] e e' h = refl
  map_ext (p ∷ ps) e e' h = ap₂ {C = List ℕ} (λ z zs. z ∷ zs) (h p (inl refl)) (map_ext ps e e' (λ w m. h w (inr m)))

  module _ (y : List ℕ) (os : List ℕ) (low : (v : ℕ) → Mem v os → v < size R) (pattern : List ℕ) where
    observed_is : (x ρ : List ℕ) → observed K R y os (record { shares = x; randoms = ρ }) ≡ map (leaf_value K R (at (first_leaves R)) (rands_before R) x ρ y) os
    unfolding observed
    observed_is x ρ = map_ext os _ _ (λ w m. running_is x ρ y w (low w m))

    -- how often the randoms give the pattern, as a sum over their words
    draws_are : (x : List ℕ) → draw_count K R y os pattern x
        ≡ words K.many (rands_before R (size R)) (λ ρ. shows os pattern (leaf_value K R (at (first_leaves R)) (rands_before R) x ρ y))
    unfolding draw_count shows
    draws_are x =
        kept_words K (rands_before R (size R)) (λ ρ. same (observed K R y os (record { shares = x; randoms = ρ })) pattern)
        ∙ words_ext K.many law.pos (rands_before R (size R)) _ _ (λ ρ _ _. ap (λ (vs : List ℕ). one (same vs pattern)) (observed_is x ρ))

    -- from how many starts it is shown, which is that number for each splitting of the secrets
    count_is : (secrets : List ℕ) → pattern_count K R y os pattern secrets
        ≡ start_sum K law R (rands_before R (size R)) (at (first_leaves R)) (rands_before R) y (shows os pattern) (λ i. get_or secrets i 0)
    unfolding pattern_count starts start_sum splits splits_to splits_at draw_count
    count_is secrets =
        let m = rands_before R (size R) in
        let start : List ℕ → List ℕ → Start = λ x ρ. record { shares = x; randoms = ρ } in
        let sees : Start → ℕ = λ s. one (same (observed K R y os s) pattern) in
        kept_sum (λ s. same (observed K R y os s) pattern) (starts K R secrets)
        ∙ sum_flat sees (λ x. map (start x) (all_words K m)) (keep (splits K R secrets) (all_words K (R.S * R.D)))
        ∙ sum_kept (λ x. sum_of sees (map (start x) (all_words K m))) (splits K R secrets) (all_words K (R.S * R.D))
        ∙ sum_words K (R.S * R.D) _
        ∙ words_ext K.many law.pos (R.S * R.D) _ _ (λ x _ _. ap (λ (c : ℕ). cond (splits K R secrets x) c 0)
        (sum_map sees (start x) (all_words K m) ∙ sym (kept_sum (λ ρ. same (observed K R y os (start x ρ)) pattern) (all_words K m)) ∙ draws_are x))

    -- it reads the observed wires only
    shows_reads : Reads (at (probedMarks os)) (shows os pattern)
    unfolding shows
    shows_reads e e' k = ap (λ (vs : List ℕ). one (same vs pattern))
        (map_ext os e e' (λ w m. let f = so.few in let b = low w m in k w (probed← os w (omega arith) m)))

    -- ---- allowed steps keep it

    -- after any allowed steps the leaves, showing the draws that they have, give each observation as often as the randoms did at the outset
    walked : (ss : List Step) → Allowed R (probedMarks os) (first_leaves R) ss
        → AsOften K R (at (probedMarks os)) (rands_before R (size R)) (at (first_leaves R)) (rands_before R)
        (at (leaves_after ss (first_leaves R))) (draws_after ss (rands_before R))
    walked ss =
        let f = so.few in
        let l = probed_length os in
        let m = first_length R in
        kept K law R so.earlier so.within (probedMarks os) (omega arith) (rands_before R (size R)) ss (first_leaves R) (rands_before R) (omega arith)
        (first_slots R (at (probedMarks os)))

    pub count_kept : (ss : List Step) → Allowed R (probedMarks os) (first_leaves R) ss → Small K.many y
        → (x : List ℕ) → Small K.many x → count_after K R ss y os pattern x ≡ draw_count K R y os pattern x
    unfolding count_after shows
    count_kept ss a sy x sx =
        kept_words K (rands_before R (size R)) _ ∙ sym (walked ss a x y sx sy (shows os pattern) shows_reads) ∙ sym (draws_are x)

    -- the rule's own steps are allowed
    rule_walked : AsOften K R (at (probedMarks os)) (rands_before R (size R)) (at (first_leaves R)) (rands_before R)
        (at (last_leaves R os)) (draws_after (steps R os) (rands_before R))
    unfolding last_leaves
    rule_walked = walked (steps R os) (run_allowed R (probedMarks os) (first_leaves R) (steps R os) (steps_run R so os))

    pub spare_counts : ((i : ℕ) → i < R.S → needed_of R os i < R.D) → Small K.many y
        → (secrets secrets' : List ℕ) → Small K.many secrets → Small K.many secrets'
        → pattern_count K R y os pattern secrets ≡ pattern_count K R y os pattern secrets'
    spare_counts few sy secrets secrets' h h' =
        count_is secrets
        ∙ secret_free K law R so.earlier (at (probedMarks os)) (at (first_leaves R)) (rands_before R) (rands_before R (size R))
        (at (last_leaves R os)) (draws_after (steps R os) (rands_before R)) rule_walked y sy (shows os pattern) shows_reads
        (λ i i<S. let f = few i i<S in
        let is = needed_tally R so os i i<S in
        let s = tally_spare R.D (λ j. at (live_at_end R os) (i * R.D + j)) (omega arith) in
        (s.0, s.1, λ l. clash ((needed_live R so os (i * R.D + s.0)).1 l) s.2))
        (λ i. get_or secrets i 0) (λ i. get_or secrets' i 0) h h'
        ∙ sym (count_is secrets')

    -- ---- what fixes how often the randoms give the pattern

    -- a live wire is a wire
    live_low : (L : Set) (w : ℕ) → Live (net R) (at (probedMarks os)) L w → w < size R
    live_low L w (probed p) = low w (probed→ os w p)
    live_low L w (operand {u} l o q) = let a = so.earlier u w q in let b = so.within u w q in omega arith

    -- after any allowed steps, the shares still live and the publics fix it
    pub steps_fix : (ss : List Step) → Allowed R (probedMarks os) (first_leaves R) ss → Small K.many y
        → (x x' : List ℕ) → Small K.many x → Small K.many x'
        → ((w : ℕ) → w < R.S * R.D → Live (net R) (at (probedMarks os)) (at (leaves_after ss (first_leaves R))) w → get_or x w 0 ≡ get_or x' w 0)
        → draw_count K R y os pattern x ≡ draw_count K R y os pattern x'
    steps_fix ss a sy x x' sx sx' agree =
        let L = at (leaves_after ss (first_leaves R)) in
        draws_are x
        ∙ fixed K law R so.earlier (at (probedMarks os)) (at (first_leaves R)) (rands_before R) (rands_before R (size R)) L (draws_after ss (rands_before R))
        (walked ss a) x x' y (λ w l s. agree w (so.places w (live_low L w l) s) l) sx sx' sy (shows os pattern) shows_reads
        ∙ sym (draws_are x')
