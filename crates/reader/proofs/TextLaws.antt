-- Laws on the whole text: its first line.
use mathlib.Core.Path.{◌≡◌, refl}
use mathlib.Core.List.{List, [], ◌∷◌}
use Prim.Native.Nat.{ℕ}
use Rattle.std.proofs.lemmas.Bool.Decides.{nat_tests}
use Rattle.document.specs.Lines.{cut, lf, line_of, lines_in}
use Rattle.document.specs.Reading.{not_read, from_header, from_first}
use Rattle.data.specs.declared.Refusal.TheVariants as No
use Rattle.lines.proofs.Laws.{lines_first, lines_none}

pub first_none : (t : List ℕ) {p : List ℕ} → cut lf t ≡ p ∷ [] → from_first (lines_in t) ≡ not_read No.Header 1
unfolding from_first
first_none t h = rw (lines_none t h) refl

pub first_some : (t p ys : List ℕ) → cut lf t ≡ p ∷ cut lf ys → from_first (lines_in t) ≡ from_header (line_of p) (lines_in ys)
unfolding from_first
first_some t p ys h = rw (lines_first t p ys h) refl

-- the first line, and the tests before it
pub ruleset first_line = (first_none, first_some, nat_tests)
