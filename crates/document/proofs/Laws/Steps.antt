-- The steps that are computed are steps of the rule, they go on to its end, and they are few (3.22).
use Rattle.std.specs.Prelude.{◌≡◌, Bool, false, ◌||◌, cond, ◌⊎◌, ◌↔◌, set}
use Rattle.std.proofs.Math.Path.{refl, ap₂}
use Rattle.std.proofs.Common.{sym, ap, ◌∙◌, subst, inl, inr}
use Rattle.std.proofs.Math.Bool.{true, not, ◌&&◌}
use mathlib.Core.List.{List, [], ◌∷◌, ◌++◌}
use Rattle.std.proofs.Math.Option.{Option, none, some}
use Prim.Native.Nat.{ℕ, zero, suc, ◌+◌, ◌≤◌, ◌<◌, min, max, zero-le}
use native.Mathlib.Omega.{arith}
use Rattle.std.proofs.Math.Dec.{eqb}
use Rattle.std.proofs.Math.ListN.{length, length-set}
use Rattle.data.specs.Basics.{tally, elem, Marks, at, mark, Among, Once}
use Rattle.document.specs.Routine.{Routine, size, wire, operands}
use Rattle.document.specs.Padding.{live, pads_of, pads, consumes, only_consumer, serves, pads_by, can_pad}
use Rattle.document.specs.Padding.{first_pad, lowest_pad, next_step, stepped, go_on, steps_from, padded_wires, leaves_after, Allowed, Stuck, RuleRun}
use Rattle.data.proofs.Laws.Tests.{clash, out_of, and_l, and_r, and_i, not_t, or_cases, or_l, or_r, eqb_true, true_eqb}
use Rattle.data.proofs.Laws.Tests.{wire_cases, all_at, all_of, tally_more, tally_max, Mem, elem→, elem←}
use Rattle.document.proofs.Laws.Marks.{In, Out, set_keeps, set_marks, set_add}
use Rattle.document.proofs.Laws.Rule.{Live, Step, Run, start, step, Final}
use Rattle.document.proofs.Laws.Live.{net, pad_op_of, Earlier, Within, live_is}
use Rattle.data.specs.declared.Kind.{Kind}
use Rattle.data.specs.declared.Kind.TheVariants.{Share, Rand, Pub, Xor, And, Not}
use Rattle.data.specs.declared.Step.{Step as Pair}

-- ---- a step by its test

module _ (R : Routine) (ok : Earlier R) (ends : Within R) (P L : Marks) (long : size R ≤ length P) where
  abbrev alive : Marks
  alive = live R P L

  marks : (v : ℕ) → In (at alive) v ↔ Live (net R) (at P) (at L) v
  marks v = live_is R ok L ends P long v

  alone : (w r : ℕ) → only_consumer R L alive w r ≡ true → (u : ℕ) → Live (net R) (at P) (at L) u → Out (at L) u → Mem r (operands R u) → u ≡ w
  unfolding only_consumer consumes
  alone w r e u l o q =
      or_cases (eqb u w) (not (consumes R L alive r u)) (all_at (size R) (λ u. eqb u w || not (consumes R L alive r u)) e u (ends u r q)) (eqb_true u w)
      (λ z. clash (and_i (at alive u && not (at L u)) (elem r (operands R u))
      (and_i (at alive u) (not (at L u)) ((marks u).1 l) (ap not o)) (elem← r (operands R u) q))
      (not_t (consumes R L alive r u) z))

  pub step→ : (w r : ℕ) → can_pad R P L w r ≡ true → Step (net R) (at P) (at L) w r
  unfolding can_pad pads_by serves
  step→ w r e =
      let only : only_consumer R L alive w r ≡ true = search (and_l, and_r) in
      let mine : elem r (pads R w) ≡ true = search (and_l, and_r) in
      record {
        alive = (marks w).0 (search (and_l, and_r));
        inner = not_t (at L w) (search (and_l, and_r));
        pads = elem→ r (pads R w) mine;
        leaf = search (and_l, and_r);
        hidden = not_t (at P r) (search (and_l, and_r));
        only = alone w r only;
      }

  pub step← : (w r : ℕ) → Step (net R) (at P) (at L) w r → can_pad R P L w r ≡ true
  unfolding can_pad pads_by serves only_consumer consumes
  step← w r s =
      ap₂ ◌&&◌ (ap₂ ◌&&◌ (ap₂ ◌&&◌ ((marks w).1 s.alive) (ap not s.inner)) (elem← r (pads R w) s.pads))
      (ap₂ ◌&&◌ (ap₂ ◌&&◌ s.leaf (ap not s.hidden))
      (all_of (size R) (λ u. eqb u w || not (consumes R L alive r u)) (λ u _. wire_cases u w
      (λ e. or_l (eqb u w) (not (consumes R L alive r u)) (true_eqb u w e))
      (λ d. or_r (eqb u w) (not (consumes R L alive r u)) (ap not (out_of (λ z.
      d (s.only u
      ((marks u).0 (and_l (at alive u) (not (at L u)) (and_l (at alive u && not (at L u)) (elem r (operands R u)) z)))
      (not_t (at L u) (and_r (at alive u) (not (at L u)) (and_l (at alive u && not (at L u)) (elem r (operands R u)) z)))
      (elem→ r (operands R u) (and_r (at alive u && not (at L u)) (elem r (operands R u)) z))))))))))

-- ---- the lowest step

never : {X : Type 0} (s : Pair) → some s ≡ none → X
never s e = let z : ◌≡◌ {A = ℕ} 0 1 = cc in absurd (omega arith)

-- each number of the list is at most those behind it
Rising : List ℕ → Type 0
Rising [] = Unit {0}
Rising (x ∷ xs) = ((y : ℕ) → Mem y xs → x ≤ y) × Rising xs

-- the first operand that will do, and no lower one will; or none will, and the step is of a later wire
first_some : (f : ℕ → Bool) (w : ℕ) (rs : List ℕ) → Rising rs → (later : Option Pair) (s : Pair) → first_pad f w rs later ≡ some s
    → ((s.w ≡ w) × (f s.r ≡ true) × ((r : ℕ) → Mem r rs → f r ≡ true → s.r ≤ r)) ⊎ (((r : ℕ) → Mem r rs → f r ≡ false) × (later ≡ some s))
unfolding first_pad Rising
first_some f w [] up later s e = inr (λ r h. absurd h, e)
first_some f w (x ∷ rs) up later s e = go (f x) refl e (first_some f w rs up.1 later s)
  where
    go : (c : Bool) → f x ≡ c → cond c (some (record { w = w; r = x })) (first_pad f w rs later) ≡ some s
        → (first_pad f w rs later ≡ some s → ((s.w ≡ w) × (f s.r ≡ true) × ((r : ℕ) → Mem r rs → f r ≡ true → s.r ≤ r))
        ⊎ (((r : ℕ) → Mem r rs → f r ≡ false) × (later ≡ some s)))
        → ((s.w ≡ w) × (f s.r ≡ true) × ((r : ℕ) → (r ≡ x) ⊎ Mem r rs → f r ≡ true → s.r ≤ r))
        ⊎ (((r : ℕ) → (r ≡ x) ⊎ Mem r rs → f r ≡ false) × (later ≡ some s))
    go true q e rest =
        let is : x ≡ s.r = cc in
        inl (cc, ap f (sym is) ∙ q, λ r h _. elim h [ inl i ↦ omega arith | inr i ↦ let l = up.0 r i in omega arith ])
    go false q e rest = elim (rest e) [
      | inl p ↦ inl (p.0, p.1, λ r h t. elim h [ inl i ↦ clash t (ap f i ∙ q) | inr i ↦ p.2 r i t ])
      | inr p ↦ inr (λ r h. elim h [ inl i ↦ ap f i ∙ q | inr i ↦ p.0 r i ], p.1)
    ]

first_none : (f : ℕ → Bool) (w : ℕ) (rs : List ℕ) (later : Option Pair) → first_pad f w rs later ≡ none → ((r : ℕ) → Mem r rs → f r ≡ false) × (later ≡ none)
unfolding first_pad
first_none f w [] later e = (λ r h. absurd h, e)
first_none f w (x ∷ rs) later e = go (f x) refl e (first_none f w rs later)
  where
    go : (c : Bool) → f x ≡ c → cond c (some (record { w = w; r = x })) (first_pad f w rs later) ≡ none
        → (first_pad f w rs later ≡ none → ((r : ℕ) → Mem r rs → f r ≡ false) × (later ≡ none)) → ((r : ℕ) → (r ≡ x) ⊎ Mem r rs → f r ≡ false) × (later ≡ none)
    go true q e rest = never (record { w = w; r = x }) e
    go false q e rest = (λ r h. elim h [ inl i ↦ ap f i ∙ q | inr i ↦ (rest e).0 r i ], (rest e).1)

-- what a wire can be padded by comes with the lower one first
pads_rise : (k : Kind) (a b : ℕ) → Rising (pads_of k a b)
unfolding pads_of Rising
pads_rise Share a b = tt
pads_rise Rand a b = tt
pads_rise Pub a b = tt
pads_rise Xor a b = go (eqb a b)
  where
    go : (c : Bool) → Rising (cond c [] (min a b ∷ max a b ∷ []))
    go true = tt
    go false = (λ y h. elim h [ inl i ↦ omega arith | inr i ↦ absurd i ], (λ y h. absurd h, tt))
pads_rise And a b = tt
pads_rise Not a b = (λ y h. absurd h, tt)

-- the step that is found can be made, and is of the lowest wire, by its lower operand
pub lowest_some : (R : Routine) (f : ℕ → ℕ → Bool) (m w : ℕ) (s : Pair) → lowest_pad R f m w ≡ some s → f s.w s.r ≡ true
unfolding lowest_pad pads
lowest_some R f zero w s e = never s (sym e)
lowest_some R f (suc m) w s e =
    elim (first_some (f w) w (pads R w) (pads_rise (wire R w).kind (wire R w).a (wire R w).b) (lowest_pad R f m (suc w)) s e) [
      | inl p ↦ ap (λ (v : ℕ). f v s.r) p.0 ∙ p.1
      | inr p ↦ lowest_some R f m (suc w) s p.1
    ]

pub lowest_least : (R : Routine) (f : ℕ → ℕ → Bool) (m w : ℕ) (s : Pair) → lowest_pad R f m w ≡ some s
    → (u r : ℕ) → w ≤ u → u < w + m → Mem r (pads R u) → f u r ≡ true → (s.w < u) ⊎ ((s.w ≡ u) × (s.r ≤ r))
unfolding lowest_pad pads
lowest_least R f zero w s e u r l h p t = never s (sym e)
lowest_least R f (suc m) w s e u r l h p t =
    elim (first_some (f w) w (pads R w) (pads_rise (wire R w).kind (wire R w).a (wire R w).b) (lowest_pad R f m (suc w)) s e) [
      | inl q ↦ wire_cases u w
          (λ i. inr (q.0 ∙ sym i, q.2 r (subst (λ (v : ℕ). Mem r (pads R v)) i p) (subst (λ (v : ℕ). f v r ≡ true) i t)))
          (λ n. inl (let z = q.0 in omega arith))
      | inr q ↦ wire_cases u w
          (λ i. clash t (subst (λ (v : ℕ). f v r ≡ false) (sym i) (q.0 r (subst (λ (v : ℕ). Mem r (pads R v)) i p))))
          (λ n. lowest_least R f m (suc w) s q.1 u r (omega arith) (omega arith) p t)
    ]

pub lowest_none : (R : Routine) (f : ℕ → ℕ → Bool) (m w : ℕ) → lowest_pad R f m w ≡ none → (u r : ℕ) → w ≤ u → u < w + m → Mem r (pads R u) → f u r ≡ false
unfolding lowest_pad
lowest_none R f zero w e u r l h p = absurd (omega arith)
lowest_none R f (suc m) w e u r l h p =
    let s = first_none (f w) w (pads R w) (lowest_pad R f m (suc w)) e in
    wire_cases u w
    (λ q. subst (λ (v : ℕ). f v r ≡ false) (sym q) (s.0 r (subst (λ (v : ℕ). Mem r (pads R v)) q p)))
    (λ q. lowest_none R f m (suc w) s.1 u r (omega arith) (omega arith) p)

-- ---- the run

-- how many wires are no leaves yet
pub left : Routine → Marks → ℕ
left R L = tally (size R) (λ u. not (at L u))

pub left_most : (R : Routine) (L : Marks) → left R L ≤ size R
unfolding left
left_most R L = tally_max (size R) (λ u. not (at L u))

left_less : (R : Routine) (L : Marks) (w : ℕ) → w < size R → size R ≤ length L → Out (at L) w → left R (set L w true) < left R L
unfolding left
left_less R L w h l o =
    tally_more (size R) (λ u. not (at (set L w true) u)) (λ u. not (at L u)) w h (ap not (set_marks L w w refl (omega arith))) (ap not o)
    (λ k _ e. ap not (out_of (λ i. clash (set_keeps L w k i) (not_t (at (set L w true) k) e))))

none_left : (R : Routine) (L : Marks) (w : ℕ) → w < size R → left R L ≡ 0 → Out (at L) w → ⊥
unfolding left
none_left R L w h e o = omega (arith, tally_more (size R) (λ _. false) (λ u. not (at L u)) w h refl (ap not o) (λ k _ z. clash z refl))

-- 3.20: the run of the rule is one of allowed steps
pub run_allowed : (R : Routine) (probe leaf : Marks) (ss : List Pair) → RuleRun R probe leaf ss → Allowed R probe leaf ss
run_allowed R probe leaf [] run = tt
run_allowed R probe leaf (s ∷ ss) run = (run.0, run_allowed R probe (stepped leaf s.w) ss run.2)

-- the first of allowed steps are allowed
pub allowed_front : (R : Routine) (probe leaf : Marks) (ss ts : List Pair) → Allowed R probe leaf (ss ++ ts) → Allowed R probe leaf ss
allowed_front R probe leaf [] ts a = tt
allowed_front R probe leaf (s ∷ ss) ts a = (a.0, allowed_front R probe (stepped leaf s.w) ss ts a.1)

-- 3.19: and it goes on until none is left
pub run_ends : (R : Routine) (probe leaf : Marks) (ss : List Pair) → RuleRun R probe leaf ss → Stuck R probe (leaves_after ss leaf)
unfolding mark
run_ends R probe leaf [] run = run
run_ends R probe leaf (s ∷ ss) run = run_ends R probe (stepped leaf s.w) ss run.2

module _ (R : Routine) (ok : Earlier R) (ends : Within R) (P : Marks) (long : size R ≤ length P) where
  pub padded_below : (L : Marks) (w r : ℕ) → Step (net R) (at P) (at L) w r → w < size R
  padded_below L w r s = ends w r (pad_op_of R w r s.pads)

  next_step_lem : (L : Marks) (s : Pair) → next_step R P L ≡ some s → Step (net R) (at P) (at L) s.w s.r
  unfolding next_step can_pad
  next_step_lem L s e = step→ R ok ends P L long s.w s.r (lowest_some R (pads_by R P L (live R P L)) (size R) 0 s e)

  next_none : (L : Marks) → next_step R P L ≡ none → Final (net R) (at P) (at L)
  unfolding next_step can_pad
  next_none L e w r s =
      clash (step← R ok ends P L long w r s)
      (lowest_none R (pads_by R P L (live R P L)) (size R) 0 e w r zero-le (let z = padded_below L w r s in omega arith) s.pads)

  stuck : (L : Marks) → Final (net R) (at P) (at L) → Stuck R P L
  stuck L end w r = out_of (λ e. end w r (step→ R ok ends P L long w r e))

  -- the steps that are computed are the run of the rule
  pub rule_run : (k : ℕ) (L : Marks) → size R ≤ length L → left R L ≤ k → RuleRun R P L (steps_from R P k L)
  unfolding steps_from go_on next_step can_pad
  rule_run zero L l h = stuck L (λ w r s. none_left R L w (padded_below L w r s) (omega arith) s.inner)
  rule_run (suc k) L l h = go (next_step R P L) refl (rule_run k)
    where
      go : (o : Option Pair) → next_step R P L ≡ o → ((M : Marks) → size R ≤ length M → left R M ≤ k → RuleRun R P M (steps_from R P k M))
          → RuleRun R P L (go_on (steps_from R P k) L o)
      go none e rest = stuck L (next_none L e)
      go (some s) e rest =
          let st = next_step_lem L s e in
          let b = padded_below L s.w s.r st in (
            lowest_some R (pads_by R P L (live R P L)) (size R) 0 s e,
            λ w r t. let q = step→ R ok ends P L long w r t in
                lowest_least R (pads_by R P L (live R P L)) (size R) 0 s e w r zero-le (let z = padded_below L w r q in omega arith) q.pads t,
            rest (set L s.w true) (rw length-set l) (let d = left_less R L s.w b l st.inner in omega arith),
          )

  -- allowed steps are a run over sets of wires
  pub allowed_run : (L₀ : Marks) (ss : List Pair) (L : Marks) → size R ≤ length L → Run (net R) (at P) (at L₀) (at L) → Allowed R P L ss
      → Run (net R) (at P) (at L₀) (at (leaves_after ss L))
  unfolding mark
  allowed_run L₀ [] L l run a = run
  allowed_run L₀ (s ∷ ss) L l run a =
      let st = step→ R ok ends P L long s.w s.r a.0 in
      let b = padded_below L s.w s.r st in
      allowed_run L₀ ss (stepped L s.w) (rw length-set l)
      (subst (Run (net R) (at P) (at L₀)) (sym (set_add L s.w (omega arith))) (step run st)) a.1

  pub stuck_final : (L : Marks) → Stuck R P L → Final (net R) (at P) (at L)
  stuck_final L end w r s = clash (step← R ok ends P L long w r s) (end w r)

-- a run over sets of wires, to the end of the rule
pub record Ended (R : Routine) (P L₀ L : Marks) : Type 0 where
  pub run : Run (net R) (at P) (at L₀) (at L)
  pub final : Final (net R) (at P) (at L)

pub ended : (R : Routine) (ok : Earlier R) (ends : Within R) (P : Marks) → size R ≤ length P → (k : ℕ) (L : Marks) → size R ≤ length L → left R L ≤ k
    → Ended R P L (leaves_after (steps_from R P k L) L)
ended R ok ends P long k L l h =
    let own = rule_run R ok ends P long k L l h in
    let ss = steps_from R P k L in
    record {
      run = allowed_run R ok ends P long L ss L l start (run_allowed R P L ss own);
      final = stuck_final R ok ends P long (leaves_after ss L) (run_ends R P L ss own);
    }

-- ---- how many steps there are

-- the wire can be padded, as far as its kind and operands go
unfoldable pub has_pad : List ℕ → Bool
has_pad [] = false
has_pad (r ∷ rs) = true

has_pad_lem : (rs : List ℕ) (r : ℕ) → Mem r rs → has_pad rs ≡ true
unfolding has_pad
has_pad_lem [] r m = absurd m
has_pad_lem (x ∷ rs) r m = refl

-- how many wires that have a pad are no leaves yet
unfoldable pub room : Routine → Marks → ℕ
room R L = tally (size R) (λ u. not (at L u) && has_pad (pads R u))

module _ (R : Routine) (ok : Earlier R) (ends : Within R) (P : Marks) (long : size R ≤ length P) where
  room_less : (L : Marks) (w r : ℕ) → size R ≤ length L → Step (net R) (at P) (at L) w r → room R (set L w true) < room R L
  unfolding room
  room_less L w r l s =
      let b = padded_below R ok ends P long L w r s in
      tally_more (size R) (λ u. not (at (set L w true) u) && has_pad (pads R u)) (λ u. not (at L u) && has_pad (pads R u)) w b
      (ap (◌&& has_pad (pads R w)) (ap not (set_marks L w w refl (omega arith))))
      (and_i (not (at L w)) (has_pad (pads R w)) (ap not s.inner) (has_pad_lem (pads R w) r s.pads))
      (λ k _ e. and_i (not (at L k)) (has_pad (pads R k))
      (ap not (out_of (λ i. clash (set_keeps L w k i) (not_t (at (set L w true) k) (and_l (not (at (set L w true) k)) (has_pad (pads R k)) e)))))
      (and_r (not (at (set L w true) k)) (has_pad (pads R k)) e))

  pub few_steps : (k : ℕ) (L : Marks) → size R ≤ length L → length (steps_from R P k L) ≤ room R L
  unfolding steps_from go_on
  few_steps zero L l = zero-le
  few_steps (suc k) L l = go (next_step R P L) refl (λ w. few_steps k (set L w true))
    where
      go : (o : Option Pair) → next_step R P L ≡ o → ((w : ℕ) → size R ≤ length (set L w true) → length (steps_from R P k (set L w true)) ≤ room R (set L w true))
          → length (go_on (steps_from R P k) L o) ≤ room R L
      go none e rest = zero-le
      go (some s) e rest =
          let a = rest s.w (rw length-set l) in
          let b = room_less L s.w s.r l (next_step_lem R ok ends P long L s e) in
          omega arith

-- ---- no wire is padded twice

module _ (R : Routine) (ok : Earlier R) (ends : Within R) (P : Marks) (long : size R ≤ length P) where
  -- the wires that allowed steps pad are no leaves before them
  allowed_out : (ss : List Pair) (L : Marks) → Allowed R P L ss → (w : ℕ) → Among w (padded_wires ss) → Out (at L) w
  allowed_out [] L a w m = absurd m
  allowed_out (s ∷ ss) L a w (inl e) = rw e (step→ R ok ends P L long s.w s.r a.0).inner
  allowed_out (s ∷ ss) L a w (inr m) = out_of (λ i. clash (set_keeps L s.w w i) (allowed_out ss (stepped L s.w) a.1 w m))

  -- and each has something to be padded by
  pub allowed_pads : (ss : List Pair) (L : Marks) → Allowed R P L ss → (w : ℕ) → Among w (padded_wires ss) → (r : ℕ) × Mem r (pads R w)
  allowed_pads [] L a w m = absurd m
  allowed_pads (s ∷ ss) L a w (inl e) = (s.r, rw e (step→ R ok ends P L long s.w s.r a.0).pads)
  allowed_pads (s ∷ ss) L a w (inr m) = allowed_pads ss (stepped L s.w) a.1 w m

  pub allowed_once : (ss : List Pair) (L : Marks) → size R ≤ length L → Allowed R P L ss → Once (padded_wires ss)
  allowed_once [] L l a = tt
  allowed_once (s ∷ ss) L l a =
      let b = padded_below R ok ends P long L s.w s.r (step→ R ok ends P L long s.w s.r a.0) in (
        λ m. clash (set_marks L s.w s.w refl (omega arith)) (allowed_out ss (stepped L s.w) a.1 s.w m),
        allowed_once ss (stepped L s.w) (rw length-set l) a.1,
      )
