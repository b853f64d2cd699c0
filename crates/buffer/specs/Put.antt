-- Bytes put into a lent buffer from a place on; the others keep their content.
use Rattle.std.specs.Prelude.{◌≡◌, List, ℕ, ◌+◌, length}
use Rattle.std.proofs.lemmas.List.Edits.{sets}

-- the buffer b with the bytes v from `at` on
unfoldable pub wrote : List ℕ → ℕ → List ℕ → List ℕ
wrote b at v = sets b at v

-- v was put into b at `at`: r is the place behind it, c the buffer then
pub record Put (b : List ℕ) (at : ℕ) (v : List ℕ) (r : ℕ) (c : List ℕ) : Type 0 where
  pub next : r ≡ at + length v
  pub left : c ≡ wrote b at v
