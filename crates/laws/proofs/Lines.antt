-- A line of a text by its place: `rest` is the text from `at` on, and the line ends `end` bytes further.
use Rattle.std.specs.Prelude.{◌≡◌, List, ℕ, ◌+◌, ◌≤◌, length, drop}
use Rattle.std.proofs.Common.{ap, ◌∙◌, arith, length-drop, drop-drop}

-- the line and the LF that ends it lie within the text
pub within_text : (text rest : List ℕ) (at end : ℕ)
    → rest ≡ drop at text → at ≤ length text → end ≤ length rest → (end ≡ length rest → ⊥) → at + end + 1 ≤ length text
within_text text rest at end h a b n = let z = ap length h ∙ length-drop at text in omega arith

-- what follows them is the text from behind that LF on
pub onto : (at end : ℕ) (text rest : List ℕ) → rest ≡ drop at text → drop (end + 1) rest ≡ drop (at + end + 1) text
onto at end text rest h =
    let z : at + (end + 1) ≡ at + end + 1 = omega arith in
    ap (λ (l : List ℕ). drop (end + 1) l) h ∙ drop-drop (end + 1) at text ∙ ap (λ (n : ℕ). drop n text) z
