-- Records in the middle of being copied over others, one by one.
use Rattle.std.specs.Prelude.{◌≡◌, refl, List, [], ◌∷◌, ◌++◌, ℕ, zero, suc, ◌<◌, length, set, take, drop, get_or}
use Rattle.std.proofs.Common.{ap, arith}
use Rattle.document.specs.Routine.{blank}
use Rattle.data.specs.declared.Wire.{Wire}

-- ws up to place i, and ys from there on
abbrev pub mix : List Wire → List Wire → ℕ → List Wire
mix ws ys i = take i ws ++ drop i ys

-- with the record at that place copied too
pub mix_more : (i : ℕ) (ws ys : List Wire) → i < length ws → i < length ys → set (mix ws ys i) i (get_or ws i blank) ≡ mix ws ys (suc i)
mix_more i [] ys h k = absurd (omega arith)
mix_more i (w ∷ ws) [] h k = absurd (omega arith)
mix_more zero (w ∷ ws) (y ∷ ys) h k = refl
mix_more (suc i) (w ∷ ws) (y ∷ ys) h k = ap (λ (l : List Wire). w ∷ l) (mix_more i ws ys (omega arith) (omega arith))
