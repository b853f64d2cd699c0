-- What a buffer that begins with some bytes determines.
use Rattle.std.specs.Prelude.{◌≡◌, List, ℕ, ◌≤◌, length, take, drop}
use Rattle.std.proofs.Common.{sym, ap, ◌∙◌, arith, length-append}
use Rattle.std.proofs.Math.Seq.{take-append_seam}
use Rattle.buffer.specs.Begins.{Begins}

-- two answers that it allows are equal, and so are the buffers
pub begins_once : {v buffer : List ℕ} {q r : ℕ} {before after : List ℕ} →
    Begins v buffer q before → Begins v buffer r after → (q ≡ r) × (before ≡ after)
begins_once p t = (p.said ∙ sym t.said, p.left ∙ sym t.left)

-- the bytes stand within the buffer
pub begins_within : {v buffer : List ℕ} {r : ℕ} {after : List ℕ} → Begins v buffer r after → r ≤ length after
begins_within {v} {buffer} p =
    let e = ap length p.left in
    let l = length-append v (drop (length v) buffer) in
    omega (arith, p.said)

-- and they are its first r
pub begins_first : {v buffer : List ℕ} {r : ℕ} {after : List ℕ} → Begins v buffer r after → take r after ≡ v
begins_first {v} {buffer} {r} {after} p =
    ap (λ (k : ℕ). take k after) p.said ∙ ap (take (length v)) p.left ∙ take-append_seam v (drop (length v) buffer)
