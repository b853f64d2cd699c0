-- The examples (section 10 of docs/SPECIFICATION.md), computed from the definitions.
use Rattle.std.specs.Prelude.{◌≡◌, refl, Bool, true, false, List, [], ◌∷◌, ℕ}
use Rattle.document.specs.Routine.{Routine}
use Rattle.document.specs.Running.{bit, bit_values, whole_running}
use Rattle.data.specs.ProbeSets.{set_of}
use Rattle.document.specs.Padding.{steps, whole_rule}
use Rattle.document.specs.Judgements.{plain, strong, passed, opened, judged, needing, whole_judgements}
use Rattle.document.specs.Starts.{pattern_count, draw_count, count_after, whole_starts}
use Rattle.data.specs.declared.Kind.TheVariants.{Share, Rand, Pub, Xor, And, Not}
use Rattle.data.specs.declared.Wire.{Wire}
use Rattle.std.specs.Prelude.{Ok}
use Rattle.data.specs.declared.Step.{Step}
use Rattle.data.specs.declared.Judged.{Judged}

-- ---- the routines

-- share j of secret i
abbrev share : ℕ → ℕ → Wire
share i j = record { kind = Share; a = i; b = j; out = false }

-- the wires of other kinds that the examples have, without the output mark
abbrev rand : Wire
rand = record { kind = Rand; a = 0; b = 0; out = false }

abbrev public : Wire
public = record { kind = Pub; a = 0; b = 0; out = false }

abbrev xor : ℕ → ℕ → Wire
xor a b = record { kind = Xor; a = a; b = b; out = false }

abbrev and : ℕ → ℕ → Wire
and a b = record { kind = And; a = a; b = b; out = false }

abbrev not : ℕ → Wire
not a = record { kind = Not; a = a; b = 0; out = false }

-- the wire with the output mark
abbrev out : Wire → Wire
out x = record { kind = x.kind; a = x.a; b = x.b; out = true }

-- one secret of two shares, or of three, and the wires behind its shares
abbrev halves : List Wire → Routine
halves ws = record { S = 1; D = 2; wires = share 0 0 ∷ share 0 1 ∷ ws }

abbrev thirds : List Wire → Routine
thirds ws = record { S = 1; D = 3; wires = share 0 0 ∷ share 0 1 ∷ share 0 2 ∷ ws }

-- 10.1: Example A
abbrev pub example_a : Routine
example_a = thirds (rand ∷ xor 0 3 ∷ out (xor 1 3) ∷ rand ∷ out (xor 4 6) ∷ out (xor 2 6) ∷ [])

-- 10.8: Example B
abbrev pub example_b : Routine
example_b = halves (xor 0 1 ∷ [])

-- 10.9: Example C
abbrev pub example_c : Routine
example_c = record { S = 2; D = 2; wires = share 0 0 ∷ share 0 1 ∷ share 1 0 ∷ share 1 1 ∷ and 0 3 ∷ and 1 2 ∷ xor 4 5 ∷ [] }

-- 10.12: the routine of (i)
abbrev pub example_i : Routine
example_i = halves (xor 0 1 ∷ xor 2 0 ∷ [])

-- 10.14: the routine of (j)
abbrev pub example_j : Routine
example_j = halves (rand ∷ xor 2 2 ∷ xor 0 3 ∷ [])

-- 10.35: a random and its opposite, whose xor is always 1, in place of a mask
abbrev pub opposites : Routine
opposites = halves (rand ∷ not 2 ∷ xor 2 3 ∷ xor 0 4 ∷ xor 1 5 ∷ [])

-- ---- the claims

-- what an example claims
pub data Claim : Type 0 where
  -- of a set at an order: its needed shares, whether it is open, its steps
  needs : Routine → ℕ → List ℕ → ℕ → Bool → List Step → Claim
  -- of the plain judgement at an order: its answer
  judges : Routine → ℕ → Judged → Claim

-- the claim is so
abbrev pub Holds : Claim → Type 0
Holds (needs R t ps shares opens ss) =
    (needing R t (set_of ps) ≡ record { outcome = Ok tt; shares = shares; undecided = opens }) × (steps R ps ≡ ss)
Holds (judges R t answer) = judged plain R t ≡ answer

-- all of these claims are so
abbrev pub Hold : List Claim → Type 0
Hold [] = Unit {0}
Hold (c ∷ cs) = Holds c × Hold cs

-- the pair w, r
abbrev step : ℕ → ℕ → Step
step w r = record { w = w; r = r }

-- 10.3 to 10.14: (a) to (j)
abbrev pub claims : List Claim
claims =
    -- 10.3, 10.24: (a)
    needs example_a 2 (7 ∷ 8 ∷ []) 0 false (step 4 3 ∷ step 7 4 ∷ step 8 6 ∷ [])
    -- 10.4: (b)
    ∷ needs example_a 2 (4 ∷ 5 ∷ []) 3 false []
    -- 10.5, 10.19: (c)
    ∷ needs example_a 2 (3 ∷ 4 ∷ []) 1 false []
    -- 10.6, 10.24: (d)
    ∷ needs example_a 2 (4 ∷ []) 0 false (step 4 3 ∷ [])
    -- 10.7: (e)
    ∷ needs example_a 2 (0 ∷ 7 ∷ []) 1 false (step 4 3 ∷ step 7 4 ∷ [])
    -- 10.8: (f)
    ∷ judges example_b 1 (opened 3 (2 ∷ []))
    -- 10.10: (g)
    ∷ needs example_c 1 (4 ∷ []) 9 false []
    -- 10.11: (h)
    ∷ judges example_c 1 (opened 7 (6 ∷ []))
    -- 10.12: (i)
    ∷ needs example_i 1 (3 ∷ []) 3 true []
    -- 10.13: its plain judgement stops earlier
    ∷ judges example_i 1 (opened 3 (2 ∷ []))
    -- 10.14, 10.21: (j)
    ∷ needs example_j 1 (4 ∷ []) 1 false []
    ∷ []

-- they all hold
pub cases : Hold claims
unfolding whole_judgements
cases =
    ((refl, refl), ((refl, refl), ((refl, refl), ((refl, refl), ((refl, refl), (refl, ((refl, refl), (refl, ((refl, refl), (refl, ((refl, refl), tt)))))))))))

-- ---- the shortcuts

-- 10.20, 10.22, 10.25, 10.26: routines that show a shortcut up
abbrev pub shortcuts : List Claim
shortcuts =
    -- 10.22: an `and` with a random is not padded
    needs (halves (rand ∷ and 0 2 ∷ [])) 1 (3 ∷ []) 1 false []
    -- 10.20: a padded wire that is probed does not serve as r
    ∷ needs (thirds (rand ∷ xor 0 3 ∷ xor 1 4 ∷ [])) 2 (4 ∷ 5 ∷ []) 2 false (step 4 3 ∷ [])
    -- 10.25: one sweep upwards is not enough
    ∷ needs (thirds (rand ∷ xor 0 3 ∷ rand ∷ xor 3 5 ∷ [])) 2 (4 ∷ 6 ∷ []) 0 false (step 6 5 ∷ step 4 3 ∷ [])
    -- 10.26: the smaller operand goes before the one written first
    ∷ needs (halves (rand ∷ rand ∷ xor 3 2 ∷ xor 0 4 ∷ [])) 1 (5 ∷ []) 0 false (step 4 2 ∷ step 5 4 ∷ [])
    ∷ []

-- they all hold
pub no_shortcut : Hold shortcuts
unfolding whole_judgements
no_shortcut = ((refl, refl), ((refl, refl), ((refl, refl), ((refl, refl), tt))))

-- ---- inverted randoms

-- 10.23, 10.34 to 10.40: randoms and padded wires that are inverted, and what must not be taken for them
abbrev pub inversions : List Claim
inversions =
    -- 10.34: an inverted random is still a random
    needs (halves (rand ∷ not 2 ∷ xor 0 3 ∷ [])) 1 (4 ∷ []) 0 false (step 3 2 ∷ step 4 3 ∷ [])
    -- 10.23: not where the random has another live consumer; wire 4 is always 1
    ∷ needs (halves (rand ∷ not 2 ∷ xor 2 3 ∷ xor 0 4 ∷ [])) 1 (5 ∷ []) 1 false []
    -- 10.35: so that wire 6, which shows the secret, is open
    ∷ judges opposites 1 (opened 7 (6 ∷ []))
    -- 10.36: nor where both the random and its opposite mask
    ∷ needs (thirds (rand ∷ not 3 ∷ xor 0 3 ∷ xor 1 4 ∷ [])) 2 (5 ∷ 6 ∷ []) 3 false []
    -- 10.37: an inverted random that is probed is no pad, nor is the random under it
    ∷ needs (thirds (rand ∷ not 3 ∷ xor 0 4 ∷ [])) 2 (4 ∷ 5 ∷ []) 1 false (step 4 3 ∷ [])
    ∷ needs (thirds (rand ∷ not 3 ∷ xor 0 4 ∷ [])) 2 (3 ∷ 5 ∷ []) 1 false []
    -- 10.38: one that is inverted twice
    ∷ needs (halves (rand ∷ not 2 ∷ not 3 ∷ xor 0 4 ∷ [])) 1 (5 ∷ []) 0 false (step 3 2 ∷ step 4 3 ∷ step 5 4 ∷ [])
    -- 10.39: a padded wire that is inverted, and one that is probed besides
    ∷ needs (thirds (rand ∷ xor 0 3 ∷ not 4 ∷ xor 1 5 ∷ [])) 2 (6 ∷ []) 0 false (step 4 3 ∷ step 5 4 ∷ step 6 5 ∷ [])
    ∷ needs (thirds (rand ∷ xor 0 3 ∷ not 4 ∷ xor 1 5 ∷ [])) 2 (4 ∷ 6 ∷ []) 2 false (step 4 3 ∷ [])
    -- 10.40: the opposite of a share or of a public is no pad
    ∷ needs (halves (not 0 ∷ xor 1 2 ∷ [])) 1 (3 ∷ []) 3 true []
    ∷ needs (halves (public ∷ not 2 ∷ xor 0 3 ∷ [])) 1 (4 ∷ []) 1 false []
    ∷ []

-- they all hold
pub inverted : Hold inversions
unfolding whole_judgements
inverted =
    ((refl, refl), ((refl, refl), (refl, ((refl, refl), ((refl, refl), ((refl, refl), ((refl, refl), ((refl, refl), ((refl, refl), ((refl, refl), ((refl, refl), tt)))))))))))

-- ---- Example A's lines

-- 10.2, 10.27: its four judgements
pub lines : (judged plain example_a 1 ≡ passed 9)
    × (judged strong example_a 1 ≡ passed 9)
    × (judged plain example_a 2 ≡ passed 45)
    × (judged strong example_a 2 ≡ opened 36 (4 ∷ 5 ∷ []))
unfolding whole_judgements
lines = (refl, refl, refl, refl)

-- ---- the strong bound

-- 10.28: of three shares and no other wire, each set needs just its own wires, and is not open; if share 0 is an output, {0} may need none
pub bounds : (judged strong (thirds []) 2 ≡ passed 6)
    × (judged strong (record { S = 1; D = 3; wires = out (share 0 0) ∷ share 0 1 ∷ share 0 2 ∷ [] }) 2 ≡ opened 1 (0 ∷ []))
    × (judged strong (record { S = 1; D = 2; wires = out (share 0 0) ∷ share 0 1 ∷ [] }) 1 ≡ opened 1 (0 ∷ []))
    -- 10.8: at order 1 too a wire may need no more than itself
    × (judged strong example_b 1 ≡ opened 3 (2 ∷ []))
unfolding whole_judgements
bounds = (refl, refl, refl, refl)

-- ---- a run

-- 10.29: two wires of each kind
abbrev pub example_run : Routine
example_run = halves (rand ∷ rand ∷ public ∷ public ∷ xor 0 2 ∷ xor 1 2 ∷ and 0 2 ∷ and 1 2 ∷ not 4 ∷ not 5 ∷ [])

-- 10.29: its values for the share bits 0, 1, the random bits 1, 0 and the public bits 0, 1
pub values : bit_values example_run 2 1 2 ≡ 0 ∷ 1 ∷ 1 ∷ 0 ∷ 0 ∷ 1 ∷ 1 ∷ 0 ∷ 0 ∷ 1 ∷ 1 ∷ 0 ∷ []
unfolding whole_running
values = refl

-- ---- pattern counts

-- 10.30: counts of single patterns, computed start by start
pub counts :
    -- 10.8: in B, wire 2 shows 1 from no start of secret 0 and from both starts of secret 1, so counts can differ
    (pattern_count bit example_b [] (2 ∷ []) (1 ∷ []) (0 ∷ []) ≡ 0)
    × (pattern_count bit example_b [] (2 ∷ []) (1 ∷ []) (1 ∷ []) ≡ 2)
    -- 10.3: in A, wires 7 and 8 show 1, 0 from 4 of the 16 starts, for either secret
    × (pattern_count bit example_a [] (7 ∷ 8 ∷ []) (1 ∷ 0 ∷ []) (0 ∷ []) ≡ 4)
    × (pattern_count bit example_a [] (7 ∷ 8 ∷ []) (1 ∷ 0 ∷ []) (1 ∷ []) ≡ 4)
    -- 9.2: in A, the random at wire 3 shows 1 from half of them
    × (pattern_count bit example_a [] (3 ∷ []) (1 ∷ []) (0 ∷ []) ≡ 8)
unfolding whole_starts
counts = (refl, refl, refl, refl, refl)

-- 10.31: in A, how often the randoms show 0, 0, of their four drawings
pub draws :
    -- the inner wire 4 and the output 5: no one share fixes it, since whichever is kept another changes it
    (draw_count bit example_a [] (4 ∷ 5 ∷ []) (0 ∷ 0 ∷ []) (0 ∷ 0 ∷ 0 ∷ []) ≡ 2)
    × (draw_count bit example_a [] (4 ∷ 5 ∷ []) (0 ∷ 0 ∷ []) (1 ∷ 0 ∷ 0 ∷ []) ≡ 0)
    × (draw_count bit example_a [] (4 ∷ 5 ∷ []) (0 ∷ 0 ∷ []) (0 ∷ 1 ∷ 0 ∷ []) ≡ 0)
    -- the outputs 5 and 7: no share changes it
    × (draw_count bit example_a [] (5 ∷ 7 ∷ []) (0 ∷ 0 ∷ []) (0 ∷ 0 ∷ 0 ∷ []) ≡ 1)
    × (draw_count bit example_a [] (5 ∷ 7 ∷ []) (0 ∷ 0 ∷ []) (1 ∷ 1 ∷ 1 ∷ []) ≡ 1)
unfolding whole_starts
draws = (refl, refl, refl, refl, refl)

-- ---- steps and counts

-- 10.41: of the two drawings of `routine 1 2`, `rand 2`, `not 3 2`, `xor 4 0 3`, with share bits 0, 0, wire 4 shows 1 in one, before and after each step
pub kept :
    (draw_count bit (halves (rand ∷ not 2 ∷ xor 0 3 ∷ [])) [] (4 ∷ []) (1 ∷ []) (0 ∷ 0 ∷ []) ≡ 1)
    × (count_after bit (halves (rand ∷ not 2 ∷ xor 0 3 ∷ [])) [] [] (4 ∷ []) (1 ∷ []) (0 ∷ 0 ∷ []) ≡ 1)
    × (count_after bit (halves (rand ∷ not 2 ∷ xor 0 3 ∷ [])) (step 3 2 ∷ []) [] (4 ∷ []) (1 ∷ []) (0 ∷ 0 ∷ []) ≡ 1)
    × (count_after bit (halves (rand ∷ not 2 ∷ xor 0 3 ∷ [])) (step 3 2 ∷ step 4 3 ∷ []) [] (4 ∷ []) (1 ∷ []) (0 ∷ 0 ∷ []) ≡ 1)
    -- 10.35: a step that is not allowed need not keep it; wire 4 there is always 1, and would be always 0
    × (count_after bit opposites [] [] (4 ∷ []) (1 ∷ []) (0 ∷ 0 ∷ []) ≡ 2)
    × (count_after bit opposites (step 3 2 ∷ []) [] (4 ∷ []) (1 ∷ []) (0 ∷ 0 ∷ []) ≡ 0)
    -- 10.35: wire 6 there shows 1 from each of the four starts of secret 0 and from none of secret 1
    × (pattern_count bit opposites [] (6 ∷ []) (1 ∷ []) (0 ∷ []) ≡ 4)
    × (pattern_count bit opposites [] (6 ∷ []) (1 ∷ []) (1 ∷ []) ≡ 0)
unfolding whole_rule whole_starts
kept = (refl, refl, refl, refl, refl, refl, refl, refl)
