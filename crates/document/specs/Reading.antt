-- Reading a routine text (sections 1 and 7 of docs/SPECIFICATION.md). Refusal 10 is of the lent list, and is tested before all of this.
use Rattle.std.specs.Prelude.{◌≡◌, Bool, true, false, ◌&&◌, ◌||◌, cond, Option, None, Some, Result, Ok, Err, List, [], ◌∷◌, ℕ, zero, suc, ◌+◌, ◌-◌, ◌*◌, ◌/◌, ◌%◌, eqb, ltb, leb, length, get_or, set, take, replicate}
use Rattle.data.specs.Basics.{one, each}
use Rattle.document.specs.Routine.{whole_routine, Routine, blank, is_rand, is_pub, operands_of, in_range, routine_of}
use Rattle.document.specs.Lines.{whole_lines, lines_in, digit, tab, lf}
use Rattle.data.specs.declared.Kind.{Kind}
use Rattle.data.specs.declared.Kind.TheVariants as K
use Rattle.data.specs.declared.Wire.{Wire}
use Rattle.data.specs.declared.Line.{Line}
use Rattle.data.specs.declared.Line.TheVariants as L
use Rattle.data.specs.declared.Refusal.{Refusal}
use Rattle.data.specs.declared.Refusal.TheVariants as No
use Rattle.data.specs.Refusals.{Outcome}
use Rattle.data.specs.declared.State.{State}
use Rattle.data.specs.declared.Read.{Read}
use Rattle.data.specs.declared.Shape.{Shape}
use Rattle.data.specs.declared.Listing.{Listing}

-- ---- one line

-- 1.16, 1.26, 1.27: the state with the next wire made
unfoldable pub made : State → Kind → ℕ → ℕ → State
made st k a b = record {
  s = st.s;
  d = st.d;
  n = st.n + 1;
  rands = st.rands + one (is_rand k);
  pubs = st.pubs + one (is_pub k);
  outs = st.outs;
  low = st.low;
  wires = set st.wires st.n (record { kind = k; a = a; b = b; out = false });
}

-- 1.20: the record with the output mark
abbrev pub with_mark : Wire → Wire
with_mark x = record { kind = x.kind; a = x.a; b = x.b; out = true }

-- 1.20, 1.21: the state with wire w marked
unfoldable pub marked : State → ℕ → State
marked st w = record {
  s = st.s;
  d = st.d;
  n = st.n;
  rands = st.rands;
  pubs = st.pubs;
  outs = st.outs + 1;
  low = w + 1;
  wires = set st.wires w (with_mark (get_or st.wires w blank));
}

-- 1.17, 1.21, 7.6: w is the next number, and no `out` line came before
unfoldable pub is_next : State → ℕ → Bool
is_next st w = eqb w st.n && eqb st.outs 0

-- 1.19, 7.7: the operands are below w
unfoldable pub earlier : ℕ → Kind → ℕ → ℕ → Bool
earlier w k a b = each (λ v. ltb v w) (operands_of k a b)

-- 1.43, 7.8: the ceilings leave room for one wire more of the kind
unfoldable pub has_room : State → Kind → Bool
has_room st k = ltb st.n 128 && leb (st.rands + one (is_rand k)) 64 && leb (st.pubs + one (is_pub k)) 16

-- 1.42: a wire line is tested for its number, its operands and room
unfoldable pub make : State → ℕ → Kind → ℕ → ℕ → Result State Refusal
make st w k a b =
    cond (is_next st w)
    (cond (earlier w k a b) (cond (has_room st k) (Ok (made st k a b)) (Err No.Ceiling)) (Err No.Operand))
    (Err No.Next)

-- 1.44, 7.8, 7.9: an `out` line is tested for room, and then for its wire
unfoldable pub mark_out : State → ℕ → Result State Refusal
mark_out st w =
    cond (ltb st.outs 64)
    (cond (ltb w st.n && leb st.low w) (Ok (marked st w)) (Err No.Output))
    (Err No.Ceiling)

-- 1.11, 1.42, 1.44, 7.5: a later line is tested for its form first; it gives the state behind it, or a refusal
unfoldable pub take_line : State → Option Line → Result State Refusal
take_line st None = Err No.Form
take_line st (Some (L.Head s d)) = Err No.Form
take_line st (Some (L.Rand w)) = make st w K.Rand 0 0
take_line st (Some (L.Pub w)) = make st w K.Pub 0 0
take_line st (Some (L.Xor w a b)) = make st w K.Xor a b
take_line st (Some (L.And w a b)) = make st w K.And a b
take_line st (Some (L.Not w a)) = make st w K.Not a 0
take_line st (Some (L.Out w)) = mark_out st w

-- 1.41: what became of a line, whatever state it gave
abbrev pub outcome_of : Result State Refusal → Outcome
outcome_of (Ok st) = Ok tt
outcome_of (Err f) = Err f

-- ---- the whole text

-- 1.28, 1.37: 128 blank records
unfoldable pub blanks : List Wire
blanks = replicate 128 blank

-- 1.38, 7.23: S, D and n are 0, and all records blank
abbrev pub nothing : Listing
nothing = record { shape = record { s = 0; d = 0; n = 0 }; wires = blanks }

-- 1.36, 1.46: refusal f, at line k
abbrev pub not_read : Refusal → ℕ → Read
not_read f k = record { outcome = Err f; line = k; listing = nothing }

-- 1.36, 1.37: what is answered of an accepted text
abbrev pub read_all : State → Read
read_all st = record { outcome = Ok tt; line = 0; listing = record { shape = record { s = st.s; d = st.d; n = st.n }; wires = st.wires } }

-- 1.41, 1.46: the first line that fails ends the reading, with its number, counted from 1
abbrev pub onward : Result State Refusal → ℕ → (State → Read) → Read
onward (Ok st) k rest = rest st
onward (Err f) k rest = not_read f k

-- 1.41: the lines from number k on
unfoldable pub read_lines : ℕ → State → List (Option Line) → Read
read_lines k st [] = read_all st
read_lines k st (l ∷ ls) = onward (take_line st l) k (λ next. read_lines (k + 1) next ls)

-- 1.14, 1.15, 1.25: the records of the first wires, which are shares and have no lines
unfoldable pub share_records : ℕ → ℕ → List Wire
share_records d zero = blanks
share_records d (suc k) = set (share_records d k) k (record { kind = K.Share; a = k / d; b = k % d; out = false })

-- 1.14: the state behind the header
unfoldable pub begun : ℕ → ℕ → State
begun s d = record { s = s; d = d; n = s * d; rands = 0; pubs = 0; outs = 0; low = 0; wires = share_records d (s * d) }

-- 1.11, 1.40, 7.3, 7.4: the header is tested for its form, and then for its ranges
unfoldable pub from_header : Option Line → List (Option Line) → Read
from_header (Some (L.Head s d)) ls = cond (in_range s d) (read_lines 2 (begun s d) ls) (not_read No.Range 1)
from_header None ls = not_read No.Header 1
from_header (Some (L.Rand w)) ls = not_read No.Header 1
from_header (Some (L.Pub w)) ls = not_read No.Header 1
from_header (Some (L.Xor w a b)) ls = not_read No.Header 1
from_header (Some (L.And w a b)) ls = not_read No.Header 1
from_header (Some (L.Not w a)) ls = not_read No.Header 1
from_header (Some (L.Out w)) ls = not_read No.Header 1

-- 1.11, 7.3: the first line is the header
unfoldable pub from_first : List (Option Line) → Read
from_first [] = not_read No.Header 1
from_first (l ∷ ls) = from_header l ls

abbrev pub letter_a : ℕ
letter_a = 97

abbrev pub letter_z : ℕ
letter_z = 122

-- 1.3, 7.2: a small letter, a digit, a tab or LF
abbrev pub letter : ℕ → Bool
letter c = (leb letter_a c && leb c letter_z) || digit c || eqb c tab || eqb c lf

-- 1.2, 1.3, 1.39, 7.1, 7.2: the length is tested first, then all bytes and the last
unfoldable pub reading : List ℕ → Read
reading text =
    cond (ltb 0 (length text) && leb (length text) 4096)
    (cond (each letter text && eqb (get_or text (length text - 1) 0) lf) (from_first (lines_in text)) (not_read No.Byte 0))
    (not_read No.Length 0)

-- 6.3: the routine of a listing
abbrev pub routine_in : Listing → Routine
routine_in l = routine_of l.shape l.wires

-- the definitions above, to unfold at once where a proof computes
unfoldable pub whole_reading : Unit {0}
unfolding whole_lines whole_routine made marked is_next earlier has_room make mark_out take_line blanks read_lines share_records begun
    from_header from_first reading
whole_reading = tt

-- ---- words of the statements

-- 1.34: some accepted text gives these sizes and these first n records
pub record CouldBeRead (σ : Shape) (ws : List Wire) : Type 0 where
  pub text : List ℕ
  pub is_read : (reading text).outcome ≡ Ok tt
  pub sizes : (reading text).listing.shape ≡ σ
  pub first : take σ.n (reading text).listing.wires ≡ take σ.n ws
