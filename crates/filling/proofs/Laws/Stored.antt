-- Of every read: no more than 128 records, and none of a refusal, so that its first n records may be stored.
use Rattle.std.specs.Prelude.{◌≡◌, refl, ◌&&◌, cond, List, [], ◌∷◌, ℕ, ◌+◌, ◌-◌, ◌≤◌, leb, ltb, eqb, length, get_or}
use Rattle.std.proofs.Math.Path.{ap}
use Rattle.std.proofs.Common.{◌∙◌, zero-le, arith}
use Rattle.data.specs.Basics.{each}
use Rattle.data.proofs.Laws.Tests.{cond_cases, leb_true}
use Rattle.document.specs.Lines.{lf, lines_in}
use Rattle.document.specs.Reading.{take_line, not_read, onward, read_lines, begun, from_header, from_first, letter, reading}
use Rattle.document.specs.Routine.{in_range}
use Rattle.data.specs.declared.Line.{Line}
use Rattle.data.specs.declared.Line.TheVariants as L
use Rattle.std.specs.Prelude.{Option, None, Some, Result, Ok, Err}
use Rattle.data.specs.declared.Read.{Read}
use Rattle.data.specs.declared.Refusal.{Refusal}
use Rattle.data.specs.declared.Refusal.TheVariants as No
use Rattle.data.specs.declared.State.{State}
use Rattle.data.specs.declared.Wire.{Wire}
use Rattle.state.specs.Ceilings.{UnderCeilings}
use Rattle.taking.proofs.LineLaws.{take_bounded}
use Rattle.lines.proofs.Laws.{begun_bounded}
use Rattle.data.specs.declared.Filled.{Filled}
use Rattle.document.specs.Lent.{read_for, filled, filled_with, lent_read, lent_read_into, ReadsInto}
use Rattle.filling.specs.Stored.{stored}

record Storable (r : Read) : Type 0 where
  few : r.listing.shape.n ≤ 128
  whole : (list : List Wire) → stored r list ≡ filled_with r.outcome r.listing list

not_read_lem : (f : Refusal) (k : ℕ) → Storable (not_read f k)
not_read_lem f k = record { few = zero-le; whole = λ list. refl }

onward_storable : (o : Result State Refusal) (k : ℕ) (rest : State → Read) → ((next : State) → o ≡ Ok next → Storable (rest next)) → Storable (onward o k rest)
onward_storable (Ok next) k rest h = h next refl
onward_storable (Err f) k rest h = not_read_lem f k

lines_storable : (k : ℕ) (st : State) (ls : List (Option Line)) → UnderCeilings st → Storable (read_lines k st ls)
unfolding read_lines
lines_storable k st [] g = record { few = g.few_wires; whole = λ list. refl }
lines_storable k st (l ∷ ls) g =
    onward_storable (take_line st l) k (λ next. read_lines (k + 1) next ls) (λ next e. lines_storable (k + 1) next ls (take_bounded st l next g e))

header_storable : (l : Option Line) (ls : List (Option Line)) → Storable (from_header l ls)
unfolding from_header
header_storable (Some (L.Head s d)) ls =
    cond_cases Storable (in_range s d) (read_lines 2 (begun s d) ls) (not_read No.Range 1)
    (λ t. lines_storable 2 (begun s d) ls (begun_bounded s d t)) (λ _. not_read_lem No.Range 1)
header_storable None ls = not_read_lem No.Header 1
header_storable (Some (L.Rand w)) ls = not_read_lem No.Header 1
header_storable (Some (L.Pub w)) ls = not_read_lem No.Header 1
header_storable (Some (L.Xor w a b)) ls = not_read_lem No.Header 1
header_storable (Some (L.And w a b)) ls = not_read_lem No.Header 1
header_storable (Some (L.Not w a)) ls = not_read_lem No.Header 1
header_storable (Some (L.Out w)) ls = not_read_lem No.Header 1

first_storable : (ls : List (Option Line)) → Storable (from_first ls)
unfolding from_first
first_storable [] = not_read_lem No.Header 1
first_storable (l ∷ ls) = header_storable l ls

reading_storable : (text : List ℕ) → Storable (reading text)
unfolding reading
reading_storable text =
    let last = get_or text (length text - 1) 0 in
    let lined : Read = cond (each letter text && eqb last lf) (from_first (lines_in text)) (not_read No.Byte 0) in
    cond_cases Storable (ltb 0 (length text) && leb (length text) 4096) lined (not_read No.Length 0)
    (λ _. cond_cases Storable (each letter text && eqb last lf) (from_first (lines_in text)) (not_read No.Byte 0)
    (λ _. first_storable (lines_in text)) (λ _. not_read_lem No.Byte 0))
    (λ _. not_read_lem No.Length 0)

for_storable : (text : List ℕ) (len : ℕ) → Storable (read_for text len)
unfolding read_for
for_storable text len = cond_cases Storable (leb 128 len) (reading text) (not_read No.Lent 0) (λ _. reading_storable text) (λ _. not_read_lem No.Lent 0)

for_within : (text : List ℕ) (len : ℕ) → (read_for text len).listing.shape.n ≤ len
unfolding read_for
for_within text len =
    cond_cases (λ (r : Read). r.listing.shape.n ≤ len) (leb 128 len) (reading text) (not_read No.Lent 0)
    (λ t. let long = leb_true 128 len t in let few = (reading_storable text).few in omega arith)
    (λ _. zero-le)

module _ (text : List ℕ) (list : List Wire) {r : Read} (told : r ≡ read_for text (length list)) where
  pub fits_list : (r.listing.shape.n ≤ 128) × (r.listing.shape.n ≤ length list)
  fits_list = rw told ((for_storable text (length list)).few, for_within text (length list))

  pub read_answers : {a : Filled} {after : List Wire} → a ≡ filled r → after ≡ stored r list → ReadsInto text list a after
  unfolding lent_read lent_read_into
  read_answers e f = record {
    said = e ∙ ap (λ (q : Read). filled q) told;
    left = f ∙ ap (λ (q : Read). stored q list) told ∙ (for_storable text (length list)).whole list;
  }
