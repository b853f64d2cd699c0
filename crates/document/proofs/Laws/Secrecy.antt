-- 9.14 and 9.15 over any lawful kind of value and any way to observe: a set of at most t wires shows nothing of the secrets.
use Rattle.std.specs.Prelude.{◌≡◌, List, [], ◌∷◌, ℕ, ◌≤◌, ◌<◌, length}
use Rattle.std.proofs.Common.{zero-le, mul-le-mul_right, arith}
use Rattle.document.specs.Routine.{Routine, size}
use Rattle.document.specs.Running.{Value}
use Rattle.document.specs.Starts.{pattern_count, Small}
use Rattle.document.specs.Padding.{needed_of}
use Rattle.document.proofs.Laws.Values.{Lawful}
use Rattle.document.proofs.Laws.Sound.{Sound}
use Rattle.document.proofs.Laws.Needed.{asc_low, Watch, WithinOrder}
use Rattle.data.specs.ProbeSets.{Asc}
use Rattle.document.proofs.Laws.Observing.{spare_counts}
use Rattle.document.proofs.Laws.Orders.{needed_more}

module _ (K : Value) (law : Lawful K) (R : Routine) (so : Sound R) (obs : List ℕ → List ℕ) (wa : Watch R obs)
    (t : ℕ) (some-order : 1 ≤ t) (order : t < R.D) (pass : WithinOrder R obs t) where
  -- each secret keeps an unneeded share; the empty set needs no more than the set of wire 0
  spare : (ps : List ℕ) → Asc 0 (size R) ps → length ps ≤ t → (i : ℕ) → i < R.S → needed_of R (obs ps) i < R.D
  spare (p ∷ ps) asc few i i<S = let z = pass.passes (p ∷ ps) asc (omega arith) few i i<S in omega arith
  spare [] asc few i i<S =
      let a = so.shares in
      let b = so.some_shares in
      let c = mul-le-mul_right R.D so.some_secret in
      let z = pass.passes (0 ∷ []) (zero-le, omega arith, tt) (omega arith) (omega arith) i i<S in
      let q = needed_more R so (obs []) (obs (0 ∷ [])) (wa.more [] (0 ∷ []) (λ v m. absurd m)) (wa.inside [] (λ v m. absurd m)) i i<S in
      omega arith

  pub same_counts : (ps : List ℕ) → Asc 0 (size R) ps → length ps ≤ t → (publics : List ℕ) → Small K.many publics
      → (pattern secrets secrets' : List ℕ) → Small K.many secrets → Small K.many secrets'
      → pattern_count K R publics (obs ps) pattern secrets ≡ pattern_count K R publics (obs ps) pattern secrets'
  same_counts ps asc few publics sy pattern secrets secrets' h h' =
      spare_counts K law R so publics (obs ps) (wa.inside ps (λ v. asc_low 0 (size R) ps v asc)) pattern (spare ps asc few) sy secrets secrets' h h'
