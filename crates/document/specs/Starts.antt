-- Starts, and how many of them show a pattern (section 9 of docs/SPECIFICATION.md).
use Rattle.std.specs.Prelude.{◌≡◌, Bool, true, cond, ℕ, zero, suc, ◌+◌, ◌*◌, ◌≤◌, ◌<◌, eqb, ltb, length, get_or}
use mathlib.Core.List.{List, [], ◌∷◌, map, flat_map}
use Rattle.data.specs.Basics.{tally, all, each, same, keep, up_to, at}
use Rattle.document.specs.Routine.{Routine, size, rands_before}
use Rattle.document.specs.Running.{Value, value_at, running, whole_running}
use Rattle.document.specs.Padding.{first_leaves, leaves_after}
use Rattle.data.specs.declared.Step.{Step}

-- every list of m values
unfoldable pub all_words : Value → ℕ → List (List ℕ)
all_words K zero = [] ∷ []
all_words K (suc m) = flat_map (λ v. map (λ xs. v ∷ xs) (all_words K m)) (up_to K.many 0)

-- 9.2: the first k of the values, xored
unfoldable pub xor_of : Value → ℕ → (ℕ → ℕ) → ℕ
xor_of K zero f = 0
xor_of K (suc k) f = K.plus (xor_of K k f) (f k)

-- 9.1, 9.2: the D shares of each secret i, from wire i·D on, xor to it; a missing bit counts as 0
unfoldable pub splits : Value → Routine → List ℕ → List ℕ → Bool
splits K R secrets shares = all R.S (λ i. eqb (xor_of K R.D (λ j. get_or shares (i * R.D + j) 0)) (get_or secrets i 0))

-- 9.7: each value of the list is below b
abbrev pub Small : ℕ → List ℕ → Type 0
Small b xs = (k : ℕ) → get_or xs k 0 < b

-- 9.2: a value for every input share and for every random
pub record Start : Type 0 where
  pub shares : List ℕ
  pub randoms : List ℕ

-- 9.27: every way to draw the randoms
abbrev pub drawings : Value → Routine → List (List ℕ)
drawings K R = all_words K (rands_before R (size R))

-- 9.2, 9.3: the starts of a choice of the secrets, each splitting with each way to draw the randoms
unfoldable pub starts : Value → Routine → List ℕ → List Start
starts K R secrets =
    flat_map (λ x. map (λ ρ. record { shares = x; randoms = ρ }) (drawings K R))
    (keep (splits K R secrets) (all_words K (R.S * R.D)))

-- 9.4: the pattern that the wires ps show from the start
unfoldable pub observed : Value → Routine → List ℕ → List ℕ → Start → List ℕ
observed K R publics ps s = map (λ w. get_or (running K R s.shares s.randoms publics) w 0) ps

-- 9.5, 9.6: from how many starts of these secrets the wires show just this pattern
unfoldable pub pattern_count : Value → Routine → List ℕ → List ℕ → List ℕ → List ℕ → ℕ
pattern_count K R publics ps pattern secrets = length (keep (λ s. same (observed K R publics ps s) pattern) (starts K R secrets))

-- 9.28: with these share bits, how often the randoms give just this pattern
unfoldable pub draw_count : Value → Routine → List ℕ → List ℕ → List ℕ → List ℕ → ℕ
draw_count K R publics ps pattern shares =
    length (keep (λ ρ. same (observed K R publics ps (record { shares = shares; randoms = ρ })) pattern) (drawings K R))

-- the function with another value at one place
unfoldable pub upd : {A : Type 0} → (ℕ → A) → ℕ → A → ℕ → A
upd f k v i = cond (eqb i k) v (f i)

-- 9.35: which draw each leaf has: a step (w, r) hands that of r to w
abbrev pub draws_after : List Step → (ℕ → ℕ) → ℕ → ℕ
draws_after [] draw = draw
draws_after (s ∷ ss) draw = draws_after ss (upd draw s.w (draw s.r))

-- 9.36: the value of a wire when each leaf shows the draw that it has and every other wire what it gives, where at most k wires are computed from one another
unfoldable pub value_within : Value → Routine → (ℕ → Bool) → (ℕ → ℕ) → List ℕ → List ℕ → List ℕ → ℕ → ℕ → ℕ
value_within K R leaf draw shares randoms publics zero w = 0
value_within K R leaf draw shares randoms publics (suc k) w =
    cond (leaf w) (get_or randoms (draw w) 0) (value_at K R shares [] publics (value_within K R leaf draw shares randoms publics k) w)

-- 9.36: operands being earlier wires, wire w is computed from w others at most
unfoldable pub leaf_value : Value → Routine → (ℕ → Bool) → (ℕ → ℕ) → List ℕ → List ℕ → List ℕ → ℕ → ℕ
leaf_value K R leaf draw shares randoms publics w = value_within K R leaf draw shares randoms publics (suc w) w

-- 9.35, 9.36: with these share bits, how often the randoms give just this pattern after the steps; at the outset random j has draw j
unfoldable pub count_after : Value → Routine → List Step → List ℕ → List ℕ → List ℕ → List ℕ → ℕ
count_after K R ss publics ps pattern shares =
    let leaf = at (leaves_after ss (first_leaves R)) in
    let draw = draws_after ss (rands_before R) in
    length (keep (λ ρ. same (map (leaf_value K R leaf draw shares ρ publics) ps) pattern) (drawings K R))

-- the definitions above, to unfold at once where a proof computes
unfoldable pub whole_starts : Unit {0}
unfolding whole_running flat_map all_words xor_of splits starts observed pattern_count draw_count upd value_within leaf_value count_after
whole_starts = tt

-- ---- words of the statements

-- 9.34: the numbers below b go to numbers below b, no two to the same one
pub record OneToOne (b : ℕ) (f : ℕ → ℕ) : Type 0 where
  pub stays : (v : ℕ) → v < b → f v < b
  pub apart : (u v : ℕ) → u < b → v < b → f u ≡ f v → u ≡ v

-- 9.2, 9.3: s is a start of this choice of the secrets
pub record IsStart (K : Value) (R : Routine) (secrets : List ℕ) (s : Start) : Type 0 where
  -- a value for every input share
  pub shares_many : length s.shares ≡ R.S * R.D
  pub shares_values : each (λ v. ltb v K.many) s.shares ≡ true
  -- a value for every random
  pub randoms_many : length s.randoms ≡ rands_before R (size R)
  pub randoms_values : each (λ v. ltb v K.many) s.randoms ≡ true
  -- the D shares of each secret xor to it
  pub split : (i : ℕ) → i < R.S → xor_of K R.D (λ j. get_or s.shares (i * R.D + j) 0) ≡ get_or secrets i 0

-- 9.29: the given shares and the public bits fix how often the randoms give each pattern, whatever the other shares are
abbrev pub FixDraws : Value → Routine → (ℕ → Bool) → List ℕ → Type 0
FixDraws K R given ps =
    (publics : List ℕ) → Small K.many publics → (pattern shares shares' : List ℕ) → Small K.many shares → Small K.many shares'
    → ((w : ℕ) → w < R.S * R.D → given w ≡ true → get_or shares w 0 ≡ get_or shares' w 0)
    → draw_count K R publics ps pattern shares ≡ draw_count K R publics ps pattern shares'

-- 9.30: there are at most k shares of each secret that do
pub record FewFixDraws (K : Value) (R : Routine) (k : ℕ) (ps : List ℕ) : Type 0 where
  pub given : ℕ → Bool
  pub few : (i : ℕ) → i < R.S → tally R.D (λ j. given (i * R.D + j)) ≤ k
  pub fix : FixDraws K R given ps
