-- What the counts of consumers say of the only one.
use Rattle.std.specs.Prelude.{◌≡◌, refl, Bool, true, false, ◌&&◌, ◌||◌, cond, ◌≢◌, List, [], ◌∷◌, eqb, length, get_or, set, replicate}
use Rattle.std.proofs.Common.{sym, ◌∙◌, not-suc-le-zero, eq-eqb, ne_eqb, length-set, get_or-set_same, get_or-set_other}
use Rattle.std.proofs.Math.Path.{ap, ap₂}
use Rattle.std.proofs.Math.Bool.{not}
use Prim.Native.Nat.{ℕ, zero, suc, ◌+◌, ◌-◌, ◌≤◌, ◌<◌}
use native.Mathlib.Omega.{arith}
use Rattle.std.proofs.lemmas.List.{length-replicate, get_or-replicate}
use Rattle.data.specs.Basics.{one, tally, all, elem, Marks, at}
use Rattle.document.specs.Padding.{consumes}
use Rattle.document.specs.Routine.{operands_of, operands}
use Rattle.data.proofs.Laws.Tests.{clash, out_of, bool_cases, cond_cases, or_cases, or_l, or_r, not_t, eqb_true, true_eqb, wire_cases, all_at, all_of}
use Rattle.data.proofs.Laws.Tests.{tally_ext, tally_more, tally_max}
use Rattle.data.specs.declared.Kind.{Kind}
use Rattle.data.specs.declared.Kind.TheVariants.{Share, Rand, Pub, Xor, And, Not}
use Rattle.data.specs.declared.Wire.{Wire}
use Rattle.counts.specs.Counting.{record_at}
use Rattle.marks.specs.Passes.{only_wires, Low}
use Rattle.consumers.specs.Consumers.{bumped, bumped_two, counted_with, Spare, Consumers}

pub bumped_other : (c : List ℕ) (a v : ℕ) → v ≢ a → get_or (bumped c a) v 0 ≡ get_or c v 0
unfolding bumped
bumped_other c a v n = get_or-set_other c a v (get_or c a 0 + 1) 0 n

bumped_at : (c : List ℕ) (a v : ℕ) → a < length c → get_or (bumped c a) v 0 ≡ get_or c v 0 + one (eqb v a)
unfolding bumped
bumped_at c a v h = wire_cases v a
    (λ e. ap (λ (k : ℕ). get_or (set c a (get_or c a 0 + 1)) k 0) e ∙ get_or-set_same c a (get_or c a 0 + 1) 0 h ∙ ap (λ (k : ℕ). get_or c k 0 + 1) (sym e)
    ∙ ap (λ (b : Bool). get_or c v 0 + one b) (sym (eq-eqb v a e)))
    (λ n. get_or-set_other c a v (get_or c a 0 + 1) 0 n ∙ (let z : get_or c v 0 ≡ get_or c v 0 + 0 = omega arith in z)
    ∙ ap (λ (b : Bool). get_or c v 0 + one b) (sym (ne_eqb v a n)))

bumped_length : (c : List ℕ) (a : ℕ) → length (bumped c a) ≡ length c
unfolding bumped
bumped_length c a = simp length-set

one_or : (b : Bool) → one b ≡ one (b || false)
one_or true = refl
one_or false = refl

one_two : (b d : Bool) → (b ≡ true → d ≡ true → ⊥) → one b + one d ≡ one (b || (d || false))
one_two true true h = absurd (h refl refl)
one_two true false h = refl
one_two false true h = refl
one_two false false h = refl

two_at : (c : List ℕ) (a b v : ℕ) → a < length c → b < length c → get_or (bumped_two a b c) v 0 ≡ get_or c v 0 + one (elem v (a ∷ b ∷ []))
unfolding bumped_two elem
two_at c a b v ha hb = wire_cases a b
    (λ e. ap (λ (x : Bool). get_or (cond x (bumped c a) (bumped (bumped c a) b)) v 0) (eq-eqb a b e) ∙ bumped_at c a v ha
    ∙ ap (λ (k : ℕ). get_or c v 0 + k) (both (eqb v a) (eqb v b) (ap (eqb v) e)))
    (λ n. let l = bumped_length c a in
    ap (λ (x : Bool). get_or (cond x (bumped c a) (bumped (bumped c a) b)) v 0) (ne_eqb a b n)
    ∙ bumped_at (bumped c a) b v (omega arith) ∙ ap (λ (k : ℕ). k + one (eqb v b)) (bumped_at c a v ha)
    ∙ sums (get_or c v 0) (one (eqb v a)) (one (eqb v b)) (one (eqb v a || (eqb v b || false)))
    (one_two (eqb v a) (eqb v b) (λ p q. n (sym (eqb_true v a p) ∙ eqb_true v b q))))
  where
    both : (x y : Bool) → x ≡ y → one x ≡ one (x || (y || false))
    both true y e = refl
    both false true e = clash e refl
    both false false e = refl

    sums : (x y z w : ℕ) → y + z ≡ w → x + y + z ≡ x + w
    sums x y z w e = omega arith

pub counted_at : (k : Kind) (a b : ℕ) (c : List ℕ) (v : ℕ) → a < length c → b < length c
    → get_or (counted_with k a b c) v 0 ≡ get_or c v 0 + one (elem v (operands_of k a b))
unfolding counted_with operands_of elem
counted_at Share a b c v ha hb = omega arith
counted_at Rand a b c v ha hb = omega arith
counted_at Pub a b c v ha hb = omega arith
counted_at Xor a b c v ha hb = two_at c a b v ha hb
counted_at And a b c v ha hb = two_at c a b v ha hb
counted_at Not a b c v ha hb = bumped_at c a v ha ∙ ap (λ (k : ℕ). get_or c v 0 + k) (one_or (eqb v a))

two_length : (a b : ℕ) (c : List ℕ) → length (bumped_two a b c) ≡ length c
unfolding bumped_two
two_length a b c = cond_cases (λ (l : List ℕ). length l ≡ length c) (eqb a b) (bumped c a) (bumped (bumped c a) b) (λ _. bumped_length c a)
    (λ _. bumped_length (bumped c a) b ∙ bumped_length c a)

counted_length : (k : Kind) (a b : ℕ) (c : List ℕ) → length (counted_with k a b c) ≡ length c
unfolding counted_with
counted_length Share a b c = refl
counted_length Rand a b c = refl
counted_length Pub a b c = refl
counted_length Xor a b c = two_length a b c
counted_length And a b c = two_length a b c
counted_length Not a b c = bumped_length c a

module _ (ws : List Wire) (leaf alive : Marks) where
  pub counts_none : Consumers ws leaf alive (length ws) (replicate 128 0)
  counts_none = record { size = length-replicate {A = ℕ} 128 0; counts = λ r h. let z = get_or-replicate {A = ℕ} 128 r 0 0 h in omega arith }

  pub counts_all : (u : ℕ) (c : List ℕ) → u ≤ 0 → Consumers ws leaf alive u c → (r : ℕ) → r < 128 → get_or c r 0 ≡ tally (length ws) (consumes (only_wires ws) leaf alive r)
  unfolding tally
  counts_all zero c h k r hr = let z = k.counts r hr in omega arith
  counts_all (suc u) c h k r hr = absurd (omega arith)

  pub counts_spare : (u : ℕ) (c : List ℕ) → length ws ≤ 128 → Consumers ws leaf alive u c → Spare c
  counts_spare u c h k = record { spare = λ v l. let a = k.counts v l in let b = tally_max (length ws) (consumes (only_wires ws) leaf alive v) in omega arith }

  less : (u r : ℕ) → 0 < u → tally u (consumes (only_wires ws) leaf alive r)
      ≡ one (consumes (only_wires ws) leaf alive r (u - 1)) + tally (u - 1) (consumes (only_wires ws) leaf alive r)
  unfolding tally
  less zero r h = absurd (omega arith)
  less (suc u) r h = let e : suc u - 1 ≡ u = omega arith in rw e

  pub counts_on : (u : ℕ) (c : List ℕ) → 0 < u → Low (record_at ws (u - 1)) → at alive (u - 1) ≡ true → at leaf (u - 1) ≡ false
      → Consumers ws leaf alive u c
      → Consumers ws leaf alive (u - 1) (counted_with (record_at ws (u - 1)).kind (record_at ws (u - 1)).a (record_at ws (u - 1)).b c)
  unfolding consumes operands
  counts_on u c p low i o k = record {
    size = counted_length (record_at ws (u - 1)).kind (record_at ws (u - 1)).a (record_at ws (u - 1)).b c ∙ k.size;
    counts = λ r hr.
        let l = k.size in
        let x = record_at ws (u - 1) in
        let ha = low.low_a in
        let hb = low.low_b in
        let f : consumes (only_wires ws) leaf alive r (u - 1) ≡ elem r (operands_of x.kind x.a x.b) =
        ap₂ (λ (p q : Bool). p && not q && elem r (operands (only_wires ws) (u - 1))) i o in
        let z = counted_at x.kind x.a x.b c r (omega arith) (omega arith) in
        let y = k.counts r hr in
        let w = less u r p in
        let g : one (consumes (only_wires ws) leaf alive r (u - 1)) ≡ one (elem r (operands_of x.kind x.a x.b)) = ap one f in
        omega arith;
  }

  pub counts_off : (u : ℕ) (c : List ℕ) → 0 < u → (at alive (u - 1) && not (at leaf (u - 1))) ≡ false → Consumers ws leaf alive u c
      → Consumers ws leaf alive (u - 1) c
  unfolding consumes
  counts_off u c p o k = record {
    size = k.size;
    counts = λ r hr.
        let g : one (consumes (only_wires ws) leaf alive r (u - 1)) ≡ 0 = ap (λ (b : Bool). one (b && elem r (operands (only_wires ws) (u - 1)))) o in
        let y = k.counts r hr in
        let w = less u r p in
        omega arith;
  }

-- ---- the only consumer

none_counted : (n w : ℕ) → n ≤ w → tally n (λ u. eqb u w) ≡ 0
unfolding tally
none_counted zero w h = refl
none_counted (suc n) w h = let z = none_counted n w (omega arith) in ap₂ ◌+◌ (ap one (ne_eqb n w (omega arith))) z

one_counted : (n w : ℕ) → w < n → tally n (λ u. eqb u w) ≡ 1
unfolding tally
one_counted zero w h = absurd (not-suc-le-zero h)
one_counted (suc n) w h = wire_cases n w
    (λ e. ap₂ ◌+◌ (ap one (eq-eqb n w e)) (none_counted n w (omega arith)))
    (λ d. ap₂ ◌+◌ (ap one (ne_eqb n w d)) (one_counted n w (omega arith)))

-- where w passes the test, it alone does exactly when one does
pub only_counted : (n : ℕ) (f : ℕ → Bool) (w : ℕ) → w < n → f w ≡ true → all n (λ u. eqb u w || not (f u)) ≡ eqb (tally n f) 1
only_counted n f w h t = bool_cases (all n (λ u. eqb u w || not (f u)))
    (λ i. i ∙ sym (eq-eqb (tally n f) 1 (tally_ext n f (λ u. eqb u w) (same i) ∙ one_counted n w h)))
    (λ o. o ∙ sym (out_of (λ e. clash (alone (eqb_true (tally n f) 1 e)) o)))
  where
    same : all n (λ u. eqb u w || not (f u)) ≡ true → (u : ℕ) → u < n → f u ≡ eqb u w
    same i u l = wire_cases u w
        (λ e. ap f e ∙ t ∙ sym (eq-eqb u w e))
        (λ d. or_cases (eqb u w) (not (f u)) (all_at n (λ u. eqb u w || not (f u)) i u l) (λ e. absurd (d (eqb_true u w e))) (λ z. not_t (f u) z)
        ∙ sym (ne_eqb u w d))

    alone : tally n f ≡ 1 → all n (λ u. eqb u w || not (f u)) ≡ true
    alone e = all_of n (λ u. eqb u w || not (f u)) (λ u l. wire_cases u w
        (λ q. or_l (eqb u w) (not (f u)) (true_eqb u w q))
        (λ d. or_r (eqb u w) (not (f u)) (ap not (out_of (λ z.
        let a = tally_more n (λ k. eqb k w) f u l (ne_eqb u w d) z (λ k _ y. ap f (eqb_true k w y) ∙ t) in
        let b = one_counted n w h in
        let x : ⊥ = omega arith in absurd x)))))
