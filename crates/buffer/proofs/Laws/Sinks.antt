-- What the laws of a sink give of the same bytes in another form.
use Rattle.std.specs.Prelude.{◌≡◌, List, ℕ}
use Rattle.std.proofs.Common.{subst}
use Rattle.buffer.specs.Sinks.{SinkLaws}

module _ {S : Type 0} {puts : S → List ℕ → S → Type 0} {room : S → ℕ} (laws : SinkLaws puts room) where
  pub puts_same : {p q : S} {xs ys : List ℕ} → puts p xs q → xs ≡ ys → puts p ys q
  puts_same {p} {q} a e = subst (λ (v : List ℕ). puts p v q) e a
