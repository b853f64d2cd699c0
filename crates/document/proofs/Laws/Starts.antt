-- The starts: every splitting of the secrets with every way to draw the randoms, each once, and how many they are.
use Rattle.std.specs.Prelude.{◌≡◌, Bool, true, false, ◌&&◌, ◌↔◌, length}
use Rattle.std.proofs.Math.Path.{refl, sym, ap, ap₂, subst}
use Rattle.std.proofs.Common.{◌∙◌, inr, zero-add, suc-add, zero-mul, suc-mul, mul-one, mul-zero, add-mul, pow-suc, pow-add}
use Rattle.std.proofs.Math.Logic.{inl}
use mathlib.Core.List.{List, [], ◌∷◌, ◌++◌, map}
use Prim.Native.Nat.{ℕ, zero, suc, ◌+◌, ◌*◌, ◌-◌, ◌^◌, ◌≤◌, ◌<◌}
use Rattle.std.proofs.Math.Nat.{mul_comm, pow-zero}
use native.Mathlib.Omega.{arith}
use Rattle.std.proofs.Math.Dec.{eqb, ltb}
use Rattle.std.proofs.Math.ListN.{get_or, length-map, get_or-append}
use Rattle.std.proofs.Math.Seq.{get_or-append-add}
use Rattle.std.proofs.lemmas.List.{get_or_at}
use Rattle.data.specs.Basics.{one, all, each, keep, up_to, Among, Once}
use Rattle.document.specs.Routine.{Routine, size, rands_before}
use Rattle.document.specs.Running.{Value}
use Rattle.document.specs.Starts.{all_words, xor_of, splits, Start, starts, Small, IsStart}
use Rattle.data.proofs.Laws.Tests.{and_l, and_r, and_i, out_of, eqb_true, true_eqb, ltb_true, true_ltb, wire_cases, all_at, all_of, all_ext}
use Rattle.document.proofs.Laws.Lists.{among_map, among_unmap, among_flat, among_unflat, among_keep, among_kept}
use Rattle.document.proofs.Laws.Lists.{once_map, once_flat, once_keep, length_flat, among_up_to, up_to_among, once_up_to, length_up_to}
use Rattle.document.proofs.Laws.Sums.{total, total_ext, total_perm, words, words_ext}
use Rattle.document.proofs.Laws.Values.{Lawful, plus_perm_r}
use Rattle.document.proofs.Laws.Splitting.{place_inside, xors_ext, xors_ok, splits_at, splits_to}
use Rattle.document.proofs.Laws.Observing.{kept_words}

-- ---- the words of m values: every one, and each once

module _ (K : Value) where
  -- each number of the list is a value
  abbrev Values : List ℕ → Type 0
  Values xs = each (λ v. ltb v K.many) xs ≡ true

  words← : (xs : List ℕ) → Values xs → Among xs (all_words K (length xs))
  unfolding all_words each
  words← [] e = inl refl
  words← (v ∷ xs) e =
      among_flat (λ v. map (λ xs. v ∷ xs) (all_words K (length xs))) (v ∷ xs) v (up_to K.many 0)
      (among_up_to K.many 0 v (omega arith) (let l = ltb_true v K.many (and_l (ltb v K.many) (each (λ u. ltb u K.many) xs) e) in omega arith))
      (among_map (λ xs. v ∷ xs) xs (all_words K (length xs)) (words← xs (and_r (ltb v K.many) (each (λ u. ltb u K.many) xs) e)))

  words→ : (m : ℕ) (xs : List ℕ) → Among xs (all_words K m) → (length xs ≡ m) × Values xs
  unfolding all_words each
  words→ zero xs (inl e) = rw e (refl, refl)
  words→ zero xs (inr h) = absurd h
  words→ (suc m) xs h =
      let t = among_unflat (λ v. map (λ xs. v ∷ xs) (all_words K m)) xs (up_to K.many 0) h in
      let u = among_unmap (λ xs. t.0 ∷ xs) xs (all_words K m) t.2 in
      let i = words→ m u.0 u.2 in
      let l = (up_to_among K.many 0 t.0 t.1).1 in
      rw u.1 (ap suc i.0, and_i _ _ (true_ltb t.0 K.many (omega arith)) i.1)

  pub words_are : (m : ℕ) (xs : List ℕ) → Among xs (all_words K m) ↔ ((length xs ≡ m) × Values xs)
  words_are m xs = (words→ m xs, λ is. subst (λ (k : ℕ). Among xs (all_words K k)) is.0 (words← xs is.1))

  pub words_once : (m : ℕ) → Once (all_words K m)
  unfolding all_words
  words_once zero = (λ h. h, tt)
  words_once (suc m) =
      once_flat (λ v. map (λ xs. v ∷ xs) (all_words K m)) (up_to K.many 0) (once_up_to K.many 0)
      (λ v. once_map (λ xs. v ∷ xs) (all_words K m) (λ xs ys e. cc) (words_once m))
      (λ u v xs i j. let a = (among_unmap (λ xs. u ∷ xs) xs (all_words K m) i).1 in let b = (among_unmap (λ xs. v ∷ xs) xs (all_words K m) j).1 in cc)

  words_many : (m : ℕ) → length (all_words K m) ≡ K.many ^ m
  unfolding all_words
  words_many zero = sym (pow-zero K.many)
  words_many (suc m) =
      length_flat (λ v. map (λ xs. v ∷ xs) (all_words K m)) (up_to K.many 0) (K.many ^ m)
      (λ v. length-map (all_words K m) (λ xs. v ∷ xs) ∙ words_many m)
      ∙ ap (λ (k : ℕ). k * K.many ^ m) (length_up_to K.many 0) ∙ mul_comm K.many (K.many ^ m) ∙ sym (pow-suc K.many m)

  -- ---- the starts: every one, and each once

  module _ (R : Routine) (secrets : List ℕ) where
    -- the start with these shares and randoms; all starts with these shares
    abbrev start : List ℕ → List ℕ → Start
    start x ρ = record { shares = x; randoms = ρ }

    abbrev drawn : List ℕ → List Start
    drawn x = map (start x) (all_words K (rands_before R (size R)))

    starts→ : (s : Start) → Among s (starts K R secrets) → IsStart K R secrets s
    unfolding starts splits
    starts→ s h =
        let t = among_unflat drawn s (keep (splits K R secrets) (all_words K (R.S * R.D))) h in
        let u = among_unmap (start t.0) s (all_words K (rands_before R (size R))) t.2 in
        let k = among_kept (splits K R secrets) t.0 (all_words K (R.S * R.D)) t.1 in
        let x = words→ (R.S * R.D) t.0 k.0 in
        let ρ = words→ (rands_before R (size R)) u.0 u.2 in
        subst (IsStart K R secrets) (sym u.1) (record {
          shares_many = x.0;
          shares_values = x.1;
          randoms_many = ρ.0;
          randoms_values = ρ.1;
          split = λ i l. eqb_true _ _ (all_at R.S _ k.1 i l);
        })

    starts← : (s : Start) → IsStart K R secrets s → Among s (starts K R secrets)
    unfolding starts splits
    starts← s is =
        among_flat drawn s s.shares (keep (splits K R secrets) (all_words K (R.S * R.D)))
        (among_keep (splits K R secrets) s.shares (all_words K (R.S * R.D))
        (subst (λ (m : ℕ). Among s.shares (all_words K m)) is.shares_many (words← s.shares is.shares_values))
        (all_of R.S _ (λ i l. true_eqb _ _ (is.split i l))))
        (among_map (start s.shares) s.randoms (all_words K (rands_before R (size R)))
        (subst (λ (m : ℕ). Among s.randoms (all_words K m)) is.randoms_many (words← s.randoms is.randoms_values)))

    pub starts_are : (s : Start) → Among s (starts K R secrets) ↔ IsStart K R secrets s
    starts_are s = (starts→ s, starts← s)

    pub starts_differ : Once (starts K R secrets)
    unfolding starts
    starts_differ =
        once_flat drawn (keep (splits K R secrets) (all_words K (R.S * R.D))) (once_keep (splits K R secrets) _ (words_once (R.S * R.D)))
        (λ x. once_map (start x) (all_words K (rands_before R (size R))) (λ ρ ρ' e. ap (λ (s : Start). s.randoms) e) (words_once (rands_before R (size R))))
        (λ x y s i j. let a = (among_unmap (start x) s (all_words K (rands_before R (size R))) i).1 in
        let b = (among_unmap (start y) s (all_words K (rands_before R (size R))) j).1 in
        ap (λ (s : Start). s.shares) (sym a ∙ b))

-- ---- sums over all values and over all words

-- a sum of equal numbers
total_same : (n c : ℕ) → total n (λ _. c) ≡ n * c
unfolding total
total_same zero c = sym (zero-mul c)
total_same (suc n) c = let z = total_same n c in let m = suc-mul n c in omega arith

total_scale : (n : ℕ) (f : ℕ → ℕ) (c : ℕ) → total n (λ v. f v * c) ≡ total n f * c
unfolding total
total_scale zero f c = sym (zero-mul c)
total_scale (suc n) f c = let z = total_scale n f c in let m = add-mul (f n) (total n f) c in omega arith

-- just one number is s, if s is below n
total_miss : (n s : ℕ) → n ≤ s → total n (λ v. one (eqb v s)) ≡ 0
unfolding total
total_miss zero s h = refl
total_miss (suc n) s h =
    let e : eqb n s ≡ false = out_of (λ q. let z = eqb_true n s q in omega arith) in
    let z = total_miss n s (omega arith) in
    rw e (omega arith)

total_hit : (n s : ℕ) → s < n → total n (λ v. one (eqb v s)) ≡ 1
unfolding total
total_hit zero s h = absurd (omega arith)
total_hit (suc n) s h = wire_cases n s
    (λ e. let z = total_miss n s (omega arith) in rw (true_eqb n s e) (omega arith))
    (λ e. let o : eqb n s ≡ false = out_of (λ q. e (eqb_true n s q)) in let z = total_hit n s (omega arith) in rw o (omega arith))

module _ (b : ℕ) where
  words_ones : (m : ℕ) → words b m (λ _. 1) ≡ b ^ m
  unfolding words
  words_ones zero = sym (pow-zero b)
  words_ones (suc m) = ap (λ (k : ℕ). total b (λ _. k)) (words_ones m) ∙ total_same b (b ^ m) ∙ mul_comm b (b ^ m) ∙ sym (pow-suc b m)

  words_scale : (m : ℕ) (f : List ℕ → ℕ) (c : ℕ) → words b m (λ xs. f xs * c) ≡ words b m f * c
  unfolding words
  words_scale zero f c = refl
  words_scale (suc m) f c = total_ext b _ _ (λ v _. words_scale m (λ xs. f (v ∷ xs)) c) ∙ total_scale b _ c

  -- a word is its first m values and the others
  words_append : (m n : ℕ) (f : List ℕ → ℕ) → words b (m + n) f ≡ words b m (λ xs. words b n (λ ys. f (xs ++ ys)))
  unfolding words
  words_append zero n f = ap (λ (k : ℕ). words b k f) (zero-add n)
  words_append (suc m) n f = ap (λ (k : ℕ). words b k f) (suc-add m n) ∙ total_ext b _ _ (λ v _. words_append m n (λ xs. f (v ∷ xs)))

-- ---- how many starts there are

one_and : (a b : Bool) → one (a && b) ≡ one b * one a
one_and true b = sym (mul-one (one b))
one_and false b = sym (mul-zero (one b))

module _ (K : Value) (law : Lawful K) where
  open law use {pos}

  -- the last share is what the others leave of the secret
  last_share : (k s : ℕ) → s < K.many → words K.many (suc k) (λ ys. one (eqb (xor_of K (suc k) (λ j. get_or ys j 0)) s)) ≡ K.many ^ k
  unfolding xor_of words
  last_share k s h =
      let more : suc k ≡ k + 1 = omega arith in
      ap (λ (m : ℕ). words K.many m (λ ys. one (eqb (xor_of K (suc k) (λ j. get_or ys j 0)) s))) more
      ∙ words_append K.many k 1 (λ ys. one (eqb (xor_of K (suc k) (λ j. get_or ys j 0)) s))
      ∙ words_ext K.many pos k _ (λ _. 1) (λ xs len sx.
      total_ext K.many _ (λ v. one (eqb (K.plus (xor_of K k (λ j. get_or xs j 0)) v) s))
      (λ v _. ap₂ (λ (x y : ℕ). one (eqb (K.plus x y) s))
      (xors_ext K law k _ _ (λ j l. get_or-append xs (v ∷ []) 0 j (omega arith)))
      (get_or_at xs v [] 0 k len))
      ∙ total_perm K.many _ (plus_perm_r K law _ (xors_ok K law k (λ j. get_or xs j 0) sx)) (λ w. one (eqb w s))
      ∙ total_hit K.many s h)
      ∙ words_ones K.many k

  -- the words of S times D shares that split the secrets
  splittings : (k : ℕ) (sec : ℕ → ℕ) → ((i : ℕ) → sec i < K.many) → (S : ℕ)
      → words K.many (S * suc k) (λ x. one (splits_to K law S (suc k) x sec)) ≡ K.many ^ (S * k)
  unfolding splits_to splits_at all words
  splittings k sec so zero =
      ap (λ (m : ℕ). words K.many m (λ _. 1)) (zero-mul (suc k)) ∙ sym (pow-zero K.many) ∙ ap (λ (m : ℕ). K.many ^ m) (sym (zero-mul k))
  splittings k sec so (suc S) =
      let D = suc k in
      let b = K.many in
      let F : List ℕ → ℕ = λ x. one (splits_to K law (suc S) D x sec) in
      let first : List ℕ → ℕ = λ xs. one (splits_to K law S D xs sec) in
      let last : List ℕ → ℕ = λ ys. one (eqb (xor_of K D (λ j. get_or ys j 0)) (sec S)) in
      ap (λ (m : ℕ). words b m F) (suc-mul S D)
      ∙ words_append b (S * D) D F
      ∙ words_ext b pos (S * D) _ (λ xs. first xs * b ^ k) (λ xs len _.
      words_ext b pos D _ (λ ys. last ys * first xs) (λ ys _ _.
      one_and (splits_to K law S D (xs ++ ys) sec) (splits_at K law D (xs ++ ys) sec S)
      ∙ ap₂ (λ (p q : Bool). one p * one q)
      (ap (λ (a : ℕ). eqb a (sec S)) (xors_ext K law D _ _ (λ j _. ap (λ (m : ℕ). get_or (xs ++ ys) (m + j) 0) (sym len) ∙ get_or-append-add xs ys j 0)))
      (all_ext S _ _ (λ i i<S. ap (λ (a : ℕ). eqb a (sec i)) (xors_ext K law D _ _
      (λ j j<D. get_or-append xs ys 0 (i * D + j) (let z = place_inside S D i j i<S j<D in omega arith))))))
      ∙ words_scale b D last (first xs)
      ∙ ap (λ (c : ℕ). c * first xs) (last_share k (sec S) (so S))
      ∙ mul_comm (b ^ k) (first xs))
      ∙ words_scale b (S * D) first (b ^ k)
      ∙ ap (λ (c : ℕ). c * b ^ k) (splittings k sec so S)
      ∙ sym (pow-add b (S * k) k) ∙ ap (λ (m : ℕ). b ^ m) (sym (suc-mul S k))

  pub starts_many : (R : Routine) → 1 ≤ R.D → (secrets : List ℕ) → Small K.many secrets
      → length (starts K R secrets) ≡ K.many ^ (R.S * (R.D - 1) + rands_before R (size R))
  unfolding starts splits splits_to splits_at
  starts_many R some secrets h =
      let m = rands_before R (size R) in
      let k = R.D - 1 in
      let more : R.D ≡ suc k = omega arith in
      length_flat (drawn K R secrets) (keep (splits K R secrets) (all_words K (R.S * R.D))) (K.many ^ m)
      (λ x. length-map (all_words K m) (start K R secrets x) ∙ words_many K m)
      ∙ ap (λ (c : ℕ). c * K.many ^ m)
      (kept_words K (R.S * R.D) (splits K R secrets)
      ∙ ap (λ (D : ℕ). words K.many (R.S * D) (λ x. one (splits_to K law R.S D x (λ i. get_or secrets i 0)))) more
      ∙ splittings k (λ i. get_or secrets i 0) h R.S)
      ∙ sym (pow-add K.many (R.S * k) m)
