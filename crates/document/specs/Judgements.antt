-- The judgements, the two calls on one set, and what each answers (sections 5 and 7 of docs/SPECIFICATION.md).
use Rattle.std.specs.Prelude.{◌≡◌, Bool, true, false, not, ◌&&◌, cond, ◌⊎◌, List, [], ◌∷◌, ◌++◌, map, ℕ, zero, suc, ◌+◌, ◌<◌, ltb, leb, length, take, replicate}
use Rattle.data.specs.Basics.{some, each, keep, Among}
use Rattle.data.specs.Refusals.{number_of}
use Rattle.document.specs.Routine.{Routine, size, wire, well_formed}
use Rattle.data.specs.ProbeSets.{held, ascending, empty_set, set_of, whole_sets}
use Rattle.document.specs.Padding.{steps, needed_shares, needed_of, whole_rule}
use Rattle.data.specs.declared.Refusal.{Refusal}
use Rattle.data.specs.declared.Refusal.TheVariants as No
use Rattle.std.specs.Prelude.{Ok, Err}
use Rattle.data.specs.declared.Verdict.{Verdict}
use Rattle.data.specs.declared.Verdict.TheVariants as Says
use Rattle.data.specs.declared.ProbeSet.{ProbeSet}
use Rattle.data.specs.declared.Step.{Step}
use Rattle.data.specs.declared.Needed.{Needed}
use Rattle.data.specs.declared.Padded.{Padded}
use Rattle.data.specs.declared.Judged.{Judged}
use Rattle.data.specs.declared.Which.{Which}
use Rattle.data.specs.declared.Which.TheVariants as Ask

-- 5.1: up to what size sets are judged at order t, what of a set is taken as probed, and how many shares a secret may need
pub record Judgement : Type 0 where
  pub largest : ℕ → ℕ
  pub observes : Routine → List ℕ → List ℕ
  pub bound : Routine → ℕ → List ℕ → ℕ

-- 5.3: plain, sets of 1 to t wires, and the bound is t for each
abbrev pub plain : Judgement
plain = record { largest = λ t. t; observes = λ R ps. ps; bound = λ R t ps. t }

-- 5.4: i, how many wires of the set have no output mark
unfoldable pub inner : Routine → List ℕ → ℕ
inner R ps = length (keep (λ w. not (wire R w).out) ps)

-- 5.4 to 5.6: strong, sets of 1 to t wires, and the bound is i
abbrev pub strong : Judgement
strong = record { largest = λ t. t; observes = λ R ps. ps; bound = λ R t ps. inner R ps }

-- 5.1: the judgement that is asked for
abbrev pub judgement_of : Which → Judgement
judgement_of Ask.Plain = plain
judgement_of Ask.Strong = strong

-- 5.2: a set is open when the rule leaves some secret needing more shares than the bound
unfoldable pub is_open : Judgement → Routine → ℕ → List ℕ → Bool
is_open J R t ps = some R.S (λ i. ltb (J.bound R t ps) (needed_of R (J.observes R ps) i))

-- 5.9, 5.10: the sets of k of the m wires from lo on, those with the lower wire at the first difference first
unfoldable pub sets_of : ℕ → ℕ → ℕ → List (List ℕ)
sets_of zero m lo = [] ∷ []
sets_of (suc k) zero lo = []
sets_of (suc k) (suc m) lo = map (λ ps. lo ∷ ps) (sets_of k m (suc lo)) ++ sets_of (suc k) m (suc lo)

-- 5.9: the sets of 1 to k of m wires, a smaller set before a larger one
unfoldable pub sets_in_order : ℕ → ℕ → List (List ℕ)
sets_in_order zero m = []
sets_in_order (suc k) m = sets_in_order k m ++ sets_of (suc k) m 0

-- 5.8: the sets of a judgement, drawn from all n wires
unfoldable pub sets_judged : Judgement → Routine → ℕ → List (List ℕ)
sets_judged J R t = sets_in_order (J.largest t) (size R)

-- 5.14: what a verdict says: that it is a pass, or that it is open; the count; the number of its refusal
pub record Told : Type 0 where
  pub passes : Bool
  pub opens : Bool
  pub count : ℕ
  pub number : ℕ

-- 5.14, 7.25: a pass and an open verdict have their count and the number 0; a refusal has its number and the count 0
abbrev pub told : Verdict → Told
told (Says.Pass k) = record { passes = true; opens = false; count = k; number = 0 }
told (Says.Open k) = record { passes = false; opens = true; count = k; number = 0 }
told (Says.Refused f) = record { passes = false; opens = false; count = 0; number = number_of f }

-- 5.14, 5.15: a pass has its count and the empty set
abbrev pub passed : ℕ → Judged
passed k = record { verdict = Says.Pass k; set = empty_set }

-- 5.14, 5.15: an open verdict has its count and the open set
abbrev pub opened : ℕ → List ℕ → Judged
opened k ps = record { verdict = Says.Open k; set = set_of ps }

-- 5.12, 5.13: sets are judged up to the first open one, and every set that was judged counts
unfoldable pub first_open : (List ℕ → Bool) → ℕ → List (List ℕ) → Judged
first_open opens k [] = passed k
first_open opens k (ps ∷ later) = cond (opens ps) (opened (suc k) ps) (first_open opens (suc k) later)

-- 5.12 to 5.15: the answer of a judgement at an order that is allowed
unfoldable pub judgement : Judgement → Routine → ℕ → Judged
judgement J R t = first_open (is_open J R t) 0 (sets_judged J R t)

-- 5.7, 7.12: the order is 1 to 4 and smaller than D
unfoldable pub order_fits : Routine → ℕ → Bool
order_fits R t = leb 1 t && leb t 4 && ltb t R.D

-- 5.24, 7.13: the set has 1 to t wires, is ascending, and holds numbers below n only
unfoldable pub probes_fit : Routine → ℕ → ProbeSet → Bool
probes_fit R t s = ltb 0 s.len && leb s.len t && ascending (held s) && each (λ w. ltb w (size R)) (held s)

-- 7.25: a refused judgement has no count and the empty set
abbrev pub judged_not : Refusal → Judged
judged_not f = record { verdict = Says.Refused f; set = empty_set }

-- 7.21: the whole answer of a judgement, after the tests 11 and 12
unfoldable pub judged : Judgement → Routine → ℕ → Judged
judged J R t = cond (well_formed R) (cond (order_fits R t) (judgement J R t) (judged_not No.Order)) (judged_not No.Records)

-- 7.22: the tests of a call on one set, 11, then 12, then 13
unfoldable pub set_refusal : {A : Type 0} → Routine → ℕ → ProbeSet → (Refusal → A) → A → A
set_refusal R t s refuse answer =
    cond (well_formed R) (cond (order_fits R t) (cond (probes_fit R t s) answer (refuse No.Probes)) (refuse No.Order)) (refuse No.Records)

-- 7.26: refused, the word is 0 and the flag is false
abbrev pub needed_not : Refusal → Needed
needed_not f = record { outcome = Err f; shares = 0; undecided = false }

-- 5.22, 5.23: the word of needed shares, and whether the set is open by the plain judgement
unfoldable pub needing : Routine → ℕ → ProbeSet → Needed
needing R t s = set_refusal R t s needed_not (record { outcome = Ok tt; shares = needed_shares R (held s); undecided = is_open plain R t (held s) })

-- 5.25: the pair that stands behind the length
abbrev pub no_step : Step
no_step = record { w = 0; r = 0 }

-- 7.26: refused, the length is 0, all pairs are (0, 0) and the flag is false
abbrev pub padded_not : Refusal → Padded
padded_not f = record { outcome = Err f; steps = replicate 128 no_step; len = 0; undecided = false }

-- 5.25: the steps as an array of 128 pairs and a length
unfoldable pub step_list : List Step → Bool → Padded
step_list ss opens = record { outcome = Ok tt; steps = take 128 (ss ++ replicate 128 no_step); len = length ss; undecided = opens }

-- 5.22, 5.23, 7.16, 7.22: the steps and the same flag; 16 where there are more than 128 steps
unfoldable pub padding : Routine → ℕ → ProbeSet → Padded
padding R t s =
    set_refusal R t s padded_not
    (cond (leb (length (steps R (held s))) 128) (step_list (steps R (held s)) (is_open plain R t (held s))) (padded_not No.Steps))

-- the definitions above, to unfold at once where a proof computes
unfoldable pub whole_judgements : Unit {0}
unfolding whole_rule whole_sets inner is_open sets_of sets_in_order sets_judged first_open judgement order_fits probes_fit judged set_refusal needing step_list padding
whole_judgements = tt

-- ---- words of the statements

-- 5.9: at the first place where they differ, the first set is lower
abbrev pub Lower : List ℕ → List ℕ → Type 0
Lower [] qs = ⊥
Lower (p ∷ ps) [] = ⊥
Lower (p ∷ ps) (q ∷ qs) = (p < q) ⊎ ((p ≡ q) × Lower ps qs)

-- 5.9: a smaller set comes before a larger one; of two sets of one size, the lower one
abbrev pub Before : List ℕ → List ℕ → Type 0
Before ps qs = (length ps < length qs) ⊎ ((length ps ≡ length qs) × Lower ps qs)

-- 5.9, 5.11: each set comes before all that follow it; so no set is there twice
abbrev pub Ordered : List (List ℕ) → Type 0
Ordered [] = Unit {0}
Ordered (x ∷ xs) = ((y : List ℕ) → Among y xs → Before x y) × Ordered xs

-- 5.17: no set of the list is open
abbrev pub NoneOpen : (List ℕ → Bool) → List (List ℕ) → Type 0
NoneOpen opens ss = (ps : List ℕ) → Among ps ss → opens ps ≡ false

-- 5.18: ps is the first open set of the list, and k its place, counted from 1
pub record FirstOpen (opens : List ℕ → Bool) (ss : List (List ℕ)) (ps : List ℕ) (k : ℕ) : Type 0 where
  pub before : List (List ℕ)
  pub after : List (List ℕ)
  pub splits : ss ≡ before ++ ps ∷ after
  pub closed : NoneOpen opens before
  pub here : opens ps ≡ true
  pub place : k ≡ length before + 1
