-- A judgement goes through its sets in order (5.19, 5.20): it passes exactly when none is open, and otherwise stops at the first open one.
use Rattle.std.specs.Prelude.{◌≡◌, refl, Bool, true, false, cond, ◌⊎◌, ◌↔◌, List, [], ◌∷◌, ◌++◌, ℕ, suc, ◌+◌, ◌≤◌, ◌<◌, ltb, leb, length}
use Rattle.std.proofs.Common.{sym, ◌∙◌, subst, arith}
use Rattle.std.proofs.Math.Path.{ap}
use Rattle.std.proofs.Math.Logic.{inl, inr}
use Rattle.data.specs.Basics.{Among}
use Rattle.document.specs.Routine.{Routine, size, well_formed, routine_of}
use Rattle.data.specs.ProbeSets.{set_of}
use Rattle.document.specs.Padding.{needed_of}
use Rattle.document.specs.Judgements.{Judgement, plain, is_open, sets_judged, passed, opened, first_open, judgement}
use Rattle.document.specs.Judgements.{order_fits, judged_not, judged, FirstOpen, NoneOpen}
use Rattle.document.specs.Lent.{lent, lent_judged}
use Rattle.data.proofs.Laws.Tests.{clash, cond_true, cond_false, ltb_true, ltb_false, out_of}
use Rattle.data.proofs.Laws.Tests.{some_none, none_some, leb_true, true_leb, true_ltb, and_l, and_r, and_i}
use Rattle.document.proofs.Laws.Sets.{sets→, sets←}
use Rattle.document.proofs.Laws.Needed.{WithinOrder}
use Rattle.data.specs.declared.Refusal.{Refusal}
use Rattle.data.specs.declared.Refusal.TheVariants as No
use Rattle.data.specs.declared.Verdict.TheVariants as Says
use Rattle.data.specs.declared.Wire.{Wire}
use Rattle.data.specs.declared.Shape.{Shape}
use Rattle.data.specs.declared.Judged.{Judged}

-- the answer has the first open set and its place, after k sets
pub record Opened (opens : List ℕ → Bool) (k : ℕ) (ss : List (List ℕ)) (answer : Judged) : Type 0 where
  pub set : List ℕ
  pub place : ℕ
  pub first : FirstOpen opens ss set place
  pub says : answer ≡ opened (k + place) set

-- a judgement of these sets either passes with their number, or has the first open one and its place
abbrev Scanned : (List ℕ → Bool) → ℕ → List (List ℕ) → Judged → Type 0
Scanned opens k ss answer = (NoneOpen opens ss × (answer ≡ passed (k + length ss))) ⊎ Opened opens k ss answer

scan : (opens : List ℕ → Bool) (k : ℕ) (ss : List (List ℕ)) → Scanned opens k ss (first_open opens k ss)
unfolding first_open
scan opens k [] = inl (λ ps h. absurd h, ap passed (omega arith))
scan opens k (s ∷ ss) = go (opens s) refl (scan opens (suc k) ss)
  where
    go : (b : Bool) → opens s ≡ b → Scanned opens (suc k) ss (first_open opens (suc k) ss)
        → Scanned opens k (s ∷ ss) (cond b (opened (suc k) s) (first_open opens (suc k) ss))
    go true e rest = inr (record {
      set = s;
      place = 1;
      first = record { before = []; after = ss; splits = refl; closed = λ ps h. absurd h; here = e; place = refl };
      says = ap (λ (j : ℕ). opened j s) (omega arith);
    })
    go false e (inl h) = inl (λ ps i. elim i [ inl q ↦ ap opens q ∙ e | inr j ↦ h.0 ps j ], h.1 ∙ ap passed (omega arith))
    go false e (inr o) = inr (record {
      set = o.set;
      place = o.place + 1;
      first = record {
        before = s ∷ o.first.before;
        after = o.first.after;
        splits = ap {B = List (List ℕ)} (λ l. s ∷ l) o.first.splits;
        closed = λ ps i. elim i [ inl q ↦ ap opens q ∙ e | inr j ↦ o.first.closed ps j ];
        here = o.first.here;
        place = let p = o.first.place in omega arith;
      };
      says = o.says ∙ ap (λ (j : ℕ). opened j o.set) (omega arith);
    })

-- and back: what is first open is what the judgement stops at
first_is : (opens : List ℕ → Bool) (k : ℕ) (before : List (List ℕ)) (ps : List ℕ) (after : List (List ℕ)) → NoneOpen opens before → opens ps ≡ true
    → first_open opens k (before ++ ps ∷ after) ≡ opened (k + (length before + 1)) ps
unfolding first_open
first_is opens k [] ps after closed here = cond_true _ _ here ∙ ap (λ (j : ℕ). opened j ps) (omega arith)
first_is opens k (b ∷ before) ps after closed here =
    cond_false _ _ (closed b (inl refl)) ∙ first_is opens (suc k) before ps after (λ s h. closed s (inr h)) here ∙ ap (λ (j : ℕ). opened j ps) (omega arith)

never : {X : Type 0} (a b : ℕ) → Says.Pass a ≡ Says.Open b → X
never a b e = let z : ◌≡◌ {A = ℕ} 0 1 = cc in absurd (omega arith)

the_count : (a b : ℕ) → Says.Pass a ≡ Says.Pass b → a ≡ b
the_count a b e = cc

the_place : (a b : ℕ) → Says.Open a ≡ Says.Open b → a ≡ b
the_place a b e = cc

among_before : (xs ys : List (List ℕ)) (s : List ℕ) → Among s (xs ++ s ∷ ys)
among_before [] ys s = inl refl
among_before (x ∷ xs) ys s = inr (among_before xs ys s)

module _ (J : Judgement) (R : Routine) (t : ℕ) where
  -- what a judgement says: nothing is open, or the first open set
  abbrev pub Said : Type 0
  Said =
      (NoneOpen (is_open J R t) (sets_judged J R t) × (judgement J R t ≡ passed (length (sets_judged J R t))))
      ⊎ Opened (is_open J R t) 0 (sets_judged J R t) (judgement J R t)

  pub says : Said
  unfolding judgement
  says = elim (scan (is_open J R t) 0 (sets_judged J R t)) [ inl p ↦ inl (p.0, p.1 ∙ ap passed (omega arith)) | inr o ↦ inr o ]

  pub pass_exactly : (c : ℕ) → ((judgement J R t).verdict ≡ Says.Pass c) ↔ (NoneOpen (is_open J R t) (sets_judged J R t) × (c ≡ length (sets_judged J R t)))
  pass_exactly c = (λ e. forth says e, λ p. back says p)
    where
      forth : Said → (judgement J R t).verdict ≡ Says.Pass c → NoneOpen (is_open J R t) (sets_judged J R t) × (c ≡ length (sets_judged J R t))
      forth (inl p) e = (p.0, the_count c (length (sets_judged J R t)) (sym e ∙ ap (λ (a : Judged). a.verdict) p.1))
      forth (inr o) e = never c (0 + o.place) (sym e ∙ ap (λ (a : Judged). a.verdict) o.says)

      back : Said → NoneOpen (is_open J R t) (sets_judged J R t) × (c ≡ length (sets_judged J R t)) → (judgement J R t).verdict ≡ Says.Pass c
      back (inl p) q = ap (λ (a : Judged). a.verdict) p.1 ∙ ap Says.Pass (sym q.1)
      back (inr o) q =
          let f = o.first in
          clash f.here (q.0 o.set (subst (Among o.set) (sym f.splits) (among_before f.before f.after o.set)))

  pub open_has : (c : ℕ) → (judgement J R t).verdict ≡ Says.Open c
      → (ps : List ℕ) × FirstOpen (is_open J R t) (sets_judged J R t) ps c × ((judgement J R t).set ≡ set_of ps)
  open_has c e = go says
    where
      go : Said → (ps : List ℕ) × FirstOpen (is_open J R t) (sets_judged J R t) ps c × ((judgement J R t).set ≡ set_of ps)
      go (inl p) = never (length (sets_judged J R t)) c (sym (ap (λ (a : Judged). a.verdict) p.1) ∙ e)
      go (inr o) = (
        o.set,
        subst (FirstOpen (is_open J R t) (sets_judged J R t) o.set)
            (the_place o.place c (ap Says.Open (omega arith) ∙ sym (ap (λ (a : Judged). a.verdict) o.says) ∙ e)) o.first,
        ap (λ (a : Judged). a.set) o.says,
      )

  pub open_is : (ps : List ℕ) (c : ℕ) → FirstOpen (is_open J R t) (sets_judged J R t) ps c → judgement J R t ≡ opened c ps
  unfolding judgement
  open_is ps c f =
      ap (first_open (is_open J R t) 0) f.splits ∙ first_is (is_open J R t) 0 f.before ps f.after f.closed f.here
      ∙ ap (λ (j : ℕ). opened j ps) (let p = f.place in omega arith)

-- ---- the whole answer, with the refusals

refused_not : {X : Type 0} (f : Refusal) (c : ℕ) → Says.Refused f ≡ Says.Pass c → X
refused_not f c e = let z : ◌≡◌ {A = ℕ} 0 1 = cc in absurd (omega arith)

-- an answer that passes is of a well-formed routine at an order that fits, and is the judgement's
pub record Passed (J : Judgement) (R : Routine) (t c : ℕ) : Type 0 where
  pub good : well_formed R ≡ true
  pub order : order_fits R t ≡ true
  pub says : (judgement J R t).verdict ≡ Says.Pass c

pub passed_has : (J : Judgement) (R : Routine) (t c : ℕ) → (judged J R t).verdict ≡ Says.Pass c → Passed J R t c
unfolding judged
passed_has J R t c e = go (well_formed R) refl (order_fits R t) refl e
  where
    go : (a : Bool) → well_formed R ≡ a → (b : Bool) → order_fits R t ≡ b
        → (cond a (cond b (judgement J R t) (judged_not No.Order)) (judged_not No.Records)).verdict ≡ Says.Pass c → Passed J R t c
    go true g true o e = record { good = g; order = o; says = e }
    go true g false o e = refused_not No.Order c e
    go false g b o e = refused_not No.Records c e

-- over a lent list there are the records too
pub lent_passed : (J : Judgement) (σ : Shape) (ws : List Wire) (t c : ℕ) → (lent_judged J σ ws t).verdict ≡ Says.Pass c
    → (leb σ.n (length ws) ≡ true) × ((judged J (routine_of σ ws) t).verdict ≡ Says.Pass c)
unfolding lent_judged lent
lent_passed J σ ws t c e = go (leb σ.n (length ws)) e
  where
    go : (a : Bool) → (cond a (judged J (routine_of σ ws) t) (judged_not No.Records)).verdict ≡ Says.Pass c
        → (a ≡ true) × ((judged J (routine_of σ ws) t).verdict ≡ Says.Pass c)
    go true e = (refl, e)
    go false e = refused_not No.Records c e

pub judged_is : (J : Judgement) (R : Routine) (t : ℕ) → well_formed R ≡ true → order_fits R t ≡ true → judged J R t ≡ judgement J R t
unfolding judged
judged_is J R t g o = cond_true _ _ g ∙ cond_true _ _ o

pub order_below : (R : Routine) (t : ℕ) → order_fits R t ≡ true → (1 ≤ t) × (t ≤ 4) × (t < R.D)
unfolding order_fits
order_below R t o = (leb_true 1 t (search (and_l, and_r)), leb_true t 4 (search (and_l, and_r)), ltb_true t R.D (search (and_l, and_r)))

-- with an order each lower one fits, down to 1
pub lower_fits : (R : Routine) (k t : ℕ) → order_fits R t ≡ true → 1 ≤ k → k ≤ t → order_fits R k ≡ true
unfolding order_fits
lower_fits R k t o some below =
    let b = order_below R t o in
    and_i _ _ (and_i _ _ (true_leb 1 k some) (true_leb k 4 (omega (arith, b.1)))) (true_ltb k R.D (omega (arith, b.2)))

-- ---- what is not open needs no more shares than its bound

pub closed_exactly : (J : Judgement) (R : Routine) (t : ℕ) (ps : List ℕ)
    → (is_open J R t ps ≡ false) ↔ ((i : ℕ) → i < R.S → needed_of R (J.observes R ps) i ≤ J.bound R t ps)
unfolding is_open
closed_exactly J R t ps =
    let over : ℕ → Bool = λ i. ltb (J.bound R t ps) (needed_of R (J.observes R ps) i) in (
      λ e i h. ltb_false (J.bound R t ps) (needed_of R (J.observes R ps) i) (some_none R.S over e i h),
      λ f. none_some R.S over (λ i h. out_of (λ e.
          let a = ltb_true (J.bound R t ps) (needed_of R (J.observes R ps) i) e in let b = f i h in omega arith)),
    )

-- the plain judgement passes exactly when each set of 1 to t wires needs at most t shares of each secret
pub plain_within : (R : Routine) (t : ℕ) → WithinOrder R (λ ps. ps) t ↔ NoneOpen (is_open plain R t) (sets_judged plain R t)
unfolding sets_judged
plain_within R t = (
  λ p ps h. let z = sets→ t (size R) ps h in (closed_exactly plain R t ps).1 (p.passes ps z.0 z.1 z.2),
  λ f. record { passes = λ ps a l m. (closed_exactly plain R t ps).0 (f ps (sets← t (size R) ps a l m)) },
)
