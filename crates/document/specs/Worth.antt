-- What a pass is worth (9.13 to 9.15 of docs/SPECIFICATION.md for a plain one, 9.31 to 9.33 for a strong one), as words of the statements.
use Rattle.std.specs.Prelude.{◌≡◌, true, List, ℕ, ◌≤◌, ◌<◌, length}
use Rattle.document.specs.Routine.{Routine, size}
use Rattle.document.specs.Running.{bit}
use Rattle.data.specs.ProbeSets.{WireSet}
use Rattle.document.specs.Judgements.{plain, inner, strong, sets_judged, order_fits, judged}
use Rattle.document.specs.Starts.{pattern_count, Small, FewFixDraws}
use Rattle.data.specs.declared.Verdict.TheVariants as Says

-- 9.13 to 9.15: the routine passes at each order from 1 to t, and no set of at most t wires shows anything of the secrets
pub record KeepsSecrets (R : Routine) (t : ℕ) : Type 0 where
  pub below : (k : ℕ) → 1 ≤ k → k ≤ t → (judged plain R k).verdict ≡ Says.Pass (length (sets_judged plain R k))
  pub hides : (ps : List ℕ) → WireSet (size R) ps → length ps ≤ t
      → (publics : List ℕ) → Small 2 publics → (pattern secrets secrets' : List ℕ) → Small 2 secrets → Small 2 secrets'
      → pattern_count bit R publics ps pattern secrets ≡ pattern_count bit R publics ps pattern secrets'

-- 5.7, 5.19, 9.13 to 9.15: t is allowed, the plain judgement passes there after c sets, which are all there are, and the routine keeps its secrets
pub record PassesPlain (R : Routine) (t c : ℕ) : Type 0 where
  pub allowed : order_fits R t ≡ true
  pub passes : (judged plain R t).verdict ≡ Says.Pass c
  pub counts : c ≡ length (sets_judged plain R t)
  pub keeps : KeepsSecrets R t

-- 9.31 to 9.33: the strong judgement passes at t after c sets; so does the plain one; so does the strong one at each order from 1 to t; and of each
-- set of 1 to t wires at most as many shares of each secret as it has inner wires fix how often the randoms give each pattern
pub record PassesStrong (R : Routine) (t c : ℕ) : Type 0 where
  pub passes : (judged strong R t).verdict ≡ Says.Pass c
  pub plainly : PassesPlain R t c
  pub below : (k : ℕ) → 1 ≤ k → k ≤ t → (judged strong R k).verdict ≡ Says.Pass (length (sets_judged strong R k))
  pub fixes : (ps : List ℕ) → WireSet (size R) ps → 0 < length ps → length ps ≤ t → FewFixDraws bit R (inner R ps) ps
