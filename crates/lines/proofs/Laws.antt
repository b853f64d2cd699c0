-- Laws on the first line of a text, and on one turn of the loop over its later lines.
use mathlib.Core.Path.{◌≡◌, refl, ap, ◌∙◌}
use mathlib.Core.Bool.{true, false, ◌&&◌}
use mathlib.Core.List.{List, [], ◌∷◌, ◌++◌, map}
use Prim.Native.Nat.{ℕ, ◌+◌, ◌*◌, ◌/◌, ◌%◌, ◌≤◌, ◌<◌}
use native.Mathlib.Omega.{arith}
use native.Mathlib.Nat.{mul-le-mul_right}
use native.Mathlib.Numerals.{add-one}
use lib.Dec.{leb, lit≤}
use lib.ListN.{length, set}
use Rattle.std.proofs.Common.{length-append}
use borrow.Author.Tests.{leb-true}
use Rattle.data.proofs.Laws.Tests.{and_l, and_r}
use Rattle.document.specs.Routine.{in_range}
use Rattle.document.specs.Lines.{cut, heads, lf, line_of, lines_in}
use Rattle.document.specs.Reading.{take_line, not_read, read_all, read_lines, share_records, begun}
use Rattle.data.specs.declared.Kind.TheVariants as K
use Rattle.data.specs.declared.Refusal.{Refusal}
use Rattle.std.specs.Prelude.{Ok, Err}
use Rattle.data.specs.declared.State.{State}
use Rattle.document.proofs.Laws.Cuts.{cut_some}
use Rattle.state.specs.Ceilings.{UnderCeilings}
use Rattle.taking.proofs.LineLaws.{take_bounded}

-- ---- the first line

pub record ShareCounts (s d : ℕ) : Type 0 where
  pub secrets : s ≤ 8
  pub some_shares : 2 ≤ d
  pub few_shares : d ≤ 8

pub range_is : (s d : ℕ) → in_range s d ≡ true → ShareCounts s d
unfolding in_range
range_is s d h =
    let x = leb 1 s && leb s 8 in
    let e = and_l (x && leb 2 d) (leb d 8) h in
    record {
      secrets = leb-true _ _ (and_r (leb 1 s) (leb s 8) (and_l x (leb 2 d) e));
      some_shares = leb-true _ _ (and_r x (leb 2 d) e);
      few_shares = leb-true _ _ (and_r (x && leb 2 d) (leb d 8) h);
    }

pub few_shares : (s d : ℕ) → ShareCounts s d → s * d ≤ 64
few_shares s d r = let z = mul-le-mul_right d r.secrets in omega arith

pub begun_bounded : (s d : ℕ) → in_range s d ≡ true → UnderCeilings (begun s d)
unfolding begun
begun_bounded s d h = let z = few_shares s d (range_is s d h) in record { few_wires = omega arith; few_rands = lit≤ tt; few_pubs = lit≤ tt }

-- what the shares need: their number fits the records, and a record's numbers fit a byte
pub record FewShares (s d : ℕ) : Type 0 where
  pub few : s * d ≤ 64
  pub some : 0 < d
  pub most : d ≤ 8

pub in_few : (s d : ℕ) → in_range s d ≡ true → FewShares s d
in_few s d h = let r = range_is s d h in let z = few_shares s d r in record { few = z; some = omega arith; most = r.few_shares }

pub shares_next : (d i : ℕ) → set (share_records d i) i (record { kind = K.Share; a = i / d; b = i % d; out = false }) ≡ share_records d (i + 1)
unfolding share_records
shares_next d i = rw add-one refl

-- ---- the lines of a text

pub lines_more : (p : List ℕ) (ys : List ℕ) → map line_of (heads (p ∷ cut lf ys)) ≡ line_of p ∷ lines_in ys
unfolding heads
lines_more p ys = rw (cut_some lf ys) refl

-- behind the last LF there is no line
pub lines_none : (ys : List ℕ) {p : List ℕ} → cut lf ys ≡ p ∷ [] → lines_in ys ≡ []
unfolding heads
lines_none ys h = rw h refl

-- the first line of some bytes is followed by the lines behind it
pub lines_first : (xs p ys : List ℕ) → cut lf xs ≡ p ∷ cut lf ys → lines_in xs ≡ line_of p ∷ lines_in ys
lines_first xs p ys h = ap (λ (ps : List (List ℕ)). map line_of (heads ps)) h ∙ lines_more p ys

-- one turn: the bytes end, or their first line is taken or refused
module _ (k : ℕ) (st : State) (xs : List ℕ) where
  pub turn_end : cut lf xs ≡ xs ∷ [] → read_lines k st (lines_in xs) ≡ read_all st
  unfolding read_lines
  turn_end h = rw (lines_none xs h) refl

  pub turn_on : (p ys : List ℕ) (next : State) → cut lf xs ≡ p ∷ cut lf ys → take_line st (line_of p) ≡ Ok next
      → read_lines k st (lines_in xs) ≡ read_lines (k + 1) next (lines_in ys)
  unfolding read_lines
  turn_on p ys next h e = rw (lines_first xs p ys h, e) refl

  pub turn_no : (p ys : List ℕ) (f : Refusal) → cut lf xs ≡ p ∷ cut lf ys → take_line st (line_of p) ≡ Err f
      → read_lines k st (lines_in xs) ≡ not_read f k
  unfolding read_lines
  turn_no p ys f h e = rw (lines_first xs p ys h, e) refl

-- what is left gets shorter
pub shorter : (xs p ys : List ℕ) (s : ℕ) → xs ≡ p ++ s ∷ ys → length ys + 1 ≤ length xs
shorter xs p ys s h = rw h (omega (arith, length-append p (s ∷ ys)))

pub ruleset turns = (turn_end, turn_on, turn_no, take_bounded, shorter)
