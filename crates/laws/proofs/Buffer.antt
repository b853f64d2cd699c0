-- Bytes put into a buffer: how long it is then, the same bytes in another form, and a byte more of a word.
use Rattle.std.specs.Prelude.{◌≡◌, List, ℕ, ◌+◌, ◌<◌, length, get_or, take, set}
use Rattle.std.proofs.Common.{subst, add-one, take-suc}
use Rattle.std.proofs.Math.Seq.{length-sets}
use Rattle.buffer.specs.Put.{wrote, Put}
use Rattle.buffer.specs.Laws.{put_then}
use Rattle.buffer.proofs.Laws.Puts.{put_one}

-- the buffer is as long as before
pub wrote_long : (b : List ℕ) (at : ℕ) (v : List ℕ) → length (wrote b at v) ≡ length b
unfolding wrote
wrote_long b at v = length-sets b at v

-- the same bytes
pub put_same : {b : List ℕ} {at : ℕ} {v w : List ℕ} {r : ℕ} {c : List ℕ} → Put b at v r c → v ≡ w → Put b at w r c
put_same {b} {at} {v} {w} {r} {c} p e = subst (λ (x : List ℕ). Put b at x r c) e p

-- one byte more of a word
pub put_next : (xs b c : List ℕ) (at j o : ℕ) → j < length xs → Put b at (take j xs) o c → Put b at (take (j + 1) xs) (o + 1) (set c o (get_or xs j 0))
put_next xs b c at j o h p = rw (add-one j, take-suc xs j 0 h) (put_then p (put_one c o (get_or xs j 0)))
