-- The padding rule (section 3 of docs/SPECIFICATION.md).
use Rattle.std.specs.Prelude.{◌≡◌, Bool, true, false, not, ◌&&◌, ◌||◌, cond, ◌⊎◌, List, [], ◌∷◌, map, ℕ, zero, suc, ◌+◌, ◌*◌, ◌/◌, ◌%◌, ◌^◌, ◌≤◌, ◌<◌, min, max, eqb, set, replicate}
use Rattle.std.proofs.Math.Option.{Option, none, some}
use Rattle.std.specs.Int.Count.{ones, ones_in}
use Rattle.data.specs.Basics.{one, all, elem, Marks, at, mark}
use Rattle.document.specs.Routine.{Routine, size, wire, is_rand, operands, whole_routine}
use Rattle.data.specs.declared.Kind.{Kind}
use Rattle.data.specs.declared.Kind.TheVariants.{Share, Rand, Pub, Xor, And, Not}
use Rattle.data.specs.declared.Step.{Step}

-- 3.2: 128 marks, none of them set
abbrev pub unmarked : Marks
unmarked = replicate 128 false

-- 3.1: the wires of the list marked as probed
unfoldable pub probed : List ℕ → Marks
probed ps = mark ps unmarked

-- 3.4: the randoms among the m wires from lo on
unfoldable pub rands_from : Routine → ℕ → ℕ → List ℕ
rands_from R zero lo = []
rands_from R (suc m) lo = cond (is_rand (wire R lo).kind) (lo ∷ rands_from R m (suc lo)) (rands_from R m (suc lo))

-- 3.4: at the outset the leaves are all the randoms and nothing else
unfoldable pub first_leaves : Routine → Marks
first_leaves R = mark (rands_from R (size R) 0) unmarked

-- 3.5 to 3.7: from wire u − 1 down to 0, each wire that is live and no leaf makes its operands live;
-- operands being earlier wires, a wire is met after all that have it as an operand
unfoldable pub live_down : Routine → Marks → ℕ → Marks → Marks
live_down R leaf zero m = m
live_down R leaf (suc u) m = live_down R leaf u (cond (at m u && not (at leaf u)) (mark (operands R u) m) m)

-- 3.5, 3.7: the live wires, from the probed ones by one pass over all n
unfoldable pub live : Routine → Marks → Marks → Marks
live R probe leaf = live_down R leaf (size R) probe

-- 3.10, 3.13, 3.17: an `xor` of two different wires has both of them to be padded by, the smaller one first; a `not` has its operand; no other wire has any
unfoldable pub pads_of : Kind → ℕ → ℕ → List ℕ
pads_of Share a b = []
pads_of Rand a b = []
pads_of Pub a b = []
pads_of Xor a b = cond (eqb a b) [] (min a b ∷ max a b ∷ [])
pads_of And a b = []
pads_of Not a b = a ∷ []

-- 3.10: what wire w can be padded by, as far as its record goes
unfoldable pub pads : Routine → ℕ → List ℕ
pads R w = pads_of (wire R w).kind (wire R w).a (wire R w).b

-- 3.8: u consumes r when it is live, is no leaf, and has r as an operand
unfoldable pub consumes : Routine → Marks → Marks → ℕ → ℕ → Bool
consumes R leaf alive r u = at alive u && not (at leaf u) && elem r (operands R u)

-- 3.11: no wire but w consumes r
unfoldable pub only_consumer : Routine → Marks → Marks → ℕ → ℕ → Bool
only_consumer R leaf alive w r = all (size R) (λ u. eqb u w || not (consumes R leaf alive r u))

-- 3.11: r is a leaf, is not probed, and no wire but w consumes it
unfoldable pub serves : Routine → Marks → Marks → Marks → ℕ → ℕ → Bool
serves R probe leaf alive w r = at leaf r && not (at probe r) && only_consumer R leaf alive w r

-- 3.9 to 3.12: w can be padded by r, where the live wires are given
unfoldable pub pads_by : Routine → Marks → Marks → Marks → ℕ → ℕ → Bool
pads_by R probe leaf alive w r = at alive w && not (at leaf w) && elem r (pads R w) && serves R probe leaf alive w r

-- 3.9: w can be padded by r
unfoldable pub can_pad : Routine → Marks → Marks → ℕ → ℕ → Bool
can_pad R probe leaf w r = pads_by R probe leaf (live R probe leaf) w r

-- 3.17: a step of w with the first of these operands that will do, or else what the later wires have
unfoldable pub first_pad : (ℕ → Bool) → ℕ → List ℕ → Option Step → Option Step
first_pad ok w [] later = later
first_pad ok w (r ∷ rs) later = cond (ok r) (some (record { w = w; r = r })) (first_pad ok w rs later)

-- 3.16: the step of the lowest wire that has one, among m wires from w on
unfoldable pub lowest_pad : Routine → (ℕ → ℕ → Bool) → ℕ → ℕ → Option Step
lowest_pad R ok zero w = none
lowest_pad R ok (suc m) w = first_pad (ok w) w (pads R w) (lowest_pad R ok m (suc w))

-- 3.16, 3.18: the next step, looked for from wire 0 on
unfoldable pub next_step : Routine → Marks → Marks → Option Step
next_step R probe leaf = lowest_pad R (pads_by R probe leaf (live R probe leaf)) (size R) 0

-- 3.14, 3.15: a step makes w a leaf, like any other
abbrev pub stepped : Marks → ℕ → Marks
stepped leaf w = set leaf w true

-- 3.19: a step is listed and made, and the rest follows; where there is no step the rule ends
unfoldable pub go_on : (Marks → List Step) → Marks → Option Step → List Step
go_on rest leaf none = []
go_on rest leaf (some s) = s ∷ rest (stepped leaf s.w)

-- 3.18, 3.19: the steps from these leaves on, at most as many as the number says
unfoldable pub steps_from : Routine → Marks → ℕ → Marks → List Step
steps_from R probe zero leaf = []
steps_from R probe (suc k) leaf = go_on (steps_from R probe k) leaf (next_step R probe leaf)

-- 3.19, 3.23: the steps of the rule with these wires probed; n steps are enough for any run (3.22)
unfoldable pub steps : Routine → List ℕ → List Step
steps R ps = steps_from R (probed ps) (size R) (first_leaves R)

-- 3.14: the wires that the steps made leaves
abbrev pub padded_wires : List Step → List ℕ
padded_wires ss = map (λ s. s.w) ss

-- 3.14: the leaves after these steps
abbrev pub leaves_after : List Step → Marks → Marks
leaves_after ss leaf = mark (padded_wires ss) leaf

-- 3.19: the leaves when the rule has ended
unfoldable pub last_leaves : Routine → List ℕ → Marks
last_leaves R ps = leaves_after (steps R ps) (first_leaves R)

-- 3.26: the wires that are live when the rule has ended
unfoldable pub live_at_end : Routine → List ℕ → Marks
live_at_end R ps = live R (probed ps) (last_leaves R ps)

-- 3.27: the word whose bit k is 1 for each k below m that passes the test
unfoldable pub word : ℕ → (ℕ → Bool) → ℕ
word zero f = 0
word (suc m) f = one (f m) * 2 ^ m + word m f

-- 3.26, 3.27: the word of the needed shares
unfoldable pub needed_shares : Routine → List ℕ → ℕ
needed_shares R ps = word (R.S * R.D) (at (live_at_end R ps))

-- 3.28: the D bits of the word from bit i·D on
unfoldable pub bits_of : Routine → ℕ → ℕ → ℕ
bits_of R i shares = shares / 2 ^ (i * R.D) % 2 ^ R.D

-- 3.28: how many shares secret i needs
unfoldable pub needed_of : Routine → List ℕ → ℕ → ℕ
needed_of R ps i = ones (bits_of R i (needed_shares R ps))

-- the definitions up to one step, to unfold at once
unfoldable pub rule_marks : Unit {0}
unfolding whole_routine probed rands_from first_leaves live_down live pads_of pads consumes only_consumer serves pads_by can_pad
rule_marks = tt

-- the definitions above, to unfold at once where a proof computes
unfoldable pub whole_rule : Unit {0}
unfolding rule_marks first_pad lowest_pad next_step go_on steps_from steps last_leaves live_at_end word needed_shares bits_of needed_of ones ones_in
whole_rule = tt

-- ---- words of the statements

-- 3.20: a list of steps, each allowed in the state that those before it leave
abbrev pub Allowed : Routine → Marks → Marks → List Step → Type 0
Allowed R probe leaf [] = Unit {0}
Allowed R probe leaf (s ∷ ss) = (can_pad R probe leaf s.w s.r ≡ true) × Allowed R probe (stepped leaf s.w) ss

-- 3.21: no step is left
abbrev pub Stuck : Routine → Marks → Marks → Type 0
Stuck R probe leaf = (w r : ℕ) → can_pad R probe leaf w r ≡ false

-- 3.16, 3.17: no lower wire can be padded, nor this one by a lower operand
abbrev pub Lowest : Routine → Marks → Marks → Step → Type 0
Lowest R probe leaf s = (w r : ℕ) → can_pad R probe leaf w r ≡ true → (s.w < w) ⊎ ((s.w ≡ w) × (s.r ≤ r))

-- 3.16 to 3.19: the run of the rule: each step is allowed, and the lowest, in the state that those before it leave; after the last none is
abbrev pub RuleRun : Routine → Marks → Marks → List Step → Type 0
RuleRun R probe leaf [] = Stuck R probe leaf
RuleRun R probe leaf (s ∷ ss) =
    (can_pad R probe leaf s.w s.r ≡ true) × Lowest R probe leaf s × RuleRun R probe (stepped leaf s.w) ss
