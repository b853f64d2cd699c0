-- The laws of bytes put into a buffer: from the front, and a byte.
use Rattle.std.specs.Prelude.{◌≡◌, refl, List, [], ◌∷◌, ◌++◌, ℕ, ◌+◌, ◌≤◌, length, drop, set}
use Rattle.std.proofs.Common.{ap, ◌∙◌, arith}
use Rattle.std.proofs.lemmas.List.Edits.{sets-eq}
use Rattle.buffer.specs.Put.{wrote, Put}

-- put from the front on, the bytes behind keep their content
pub wrote_first : (b v : List ℕ) → length v ≤ length b → wrote b 0 v ≡ v ++ drop (length v) b
unfolding wrote
wrote_first b v h = let z : 0 + length v ≡ length v = omega arith in sets-eq v b 0 (omega arith) ∙ ap (λ (n : ℕ). v ++ drop n b) z

pub put_one : (b : List ℕ) (at x : ℕ) → Put b at (x ∷ []) (at + 1) (set b at x)
unfolding wrote
put_one b at x = record { next = refl; left = refl }
