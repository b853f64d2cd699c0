-- No number of a text has more than three digits.
use Rattle.std.specs.Prelude.{List, ℕ, ◌≤◌, ltb, length}
use Rattle.std.proofs.Common.{arith}
use Rattle.data.proofs.Laws.Tests.{cond_cases}
use Rattle.document.specs.Lines.{decimal}

pub decimal_few : (n : ℕ) → length (decimal n) ≤ 3
unfolding decimal
decimal_few n =
    cond_cases (λ (v : List ℕ). length v ≤ 3) (ltb n 10) _ _
    (λ e. omega arith)
    (λ e. cond_cases (λ (v : List ℕ). length v ≤ 3) (ltb n 100) _ _ (λ f. omega arith) (λ f. omega arith))
