-- The round trips of the routine text (1.49 to 1.51, for demand 2 in 9.10), and which records a text can give (1.35).
use Rattle.std.specs.Prelude.{◌≡◌, true, List, ◌↔◌, ℕ, ◌*◌, ◌≤◌, ◌<◌, length}
use Rattle.std.proofs.Common.{sym, ap, subst, ◌∙◌}
use Rattle.data.specs.declared.Wire.{Wire}
use Rattle.std.specs.Prelude.{Ok}
use Rattle.data.specs.declared.Read.{Read}
use Rattle.data.specs.declared.Shape.{Shape}
use Rattle.document.specs.Routine.{Routine, size, well_formed, records_fit}
use Rattle.document.specs.Reading.{reading, routine_in, CouldBeRead}
use Rattle.document.specs.Writing.{wire_line, lines_of, text_of}
use Rattle.roundtrip.specs.Texts.{Below, Writable, Each, read_of}
use Rattle.roundtrip.proofs.Laws.Formed.{formed, well, lines_below, each_writable, wire_below, text_short}
use Rattle.roundtrip.proofs.Laws.Read.{routine_of_read, read_formed, read_whole, read_text}
use Rattle.roundtrip.proofs.Laws.Written.{written_read}
use Rattle.roundtrip.proofs.Laws.Records.{fit→read, read→fit}

-- writing what was read gives the same text
pub text_again : (t : List ℕ) → (reading t).outcome ≡ Ok tt → text_of (routine_in (reading t).listing) ≡ t
text_again = read_text

-- reading what was written gives all of the routine: S, D, n, its records, and blank ones from n on
pub written_whole : (R : Routine) → well_formed R ≡ true → reading (text_of R) ≡ read_of R
written_whole R h = written_read R (formed R h)

-- so it is read, as the same routine
pub read_written : (R : Routine) → well_formed R ≡ true → ((reading (text_of R)).outcome ≡ Ok tt) × (routine_in (reading (text_of R)).listing ≡ R)
read_written R h =
    let e = written_whole R h in
    (ap (λ (r : Read). r.outcome) e, ap (λ (r : Read). routine_in r.listing) e ∙ routine_of_read R)

-- what is read of any text is all of a routine in the same way: the records from n on are blank
pub text_whole : (t : List ℕ) → (reading t).outcome ≡ Ok tt → reading t ≡ read_of (routine_in (reading t).listing)
text_whole = read_whole

-- 1.50: two texts are never read as one routine
pub one_text : (t u : List ℕ) → (reading t).outcome ≡ Ok tt → (reading u).outcome ≡ Ok tt → routine_in (reading t).listing ≡ routine_in (reading u).listing → t ≡ u
one_text t u h k e = sym (text_again t h) ∙ ap text_of e ∙ text_again u k

-- no text has two routines
pub one_routine : (R Q : Routine) → well_formed R ≡ true → well_formed Q ≡ true → text_of R ≡ text_of Q → R ≡ Q
one_routine R Q h k e = sym (read_written R h).1 ∙ ap (λ (t : List ℕ). routine_in (reading t).listing) e ∙ (read_written Q k).1

-- a routine is well-formed exactly when some text is read as it
pub readable : (R : Routine) → (well_formed R ≡ true) ↔ ((t : List ℕ) × ((reading t).outcome ≡ Ok tt) × (routine_in (reading t).listing ≡ R))
readable R = (
  λ h. let r = read_written R h in (text_of R, r.0, r.1),
  λ r. subst (λ (Q : Routine). well_formed Q ≡ true) r.2 (well (routine_in (reading r.0).listing) (read_formed r.0 r.1)),
)

-- 1.35, 6.3, 6.4: S, D, n and records pass 11 exactly when a read could have given them; what stands behind n is free, a shorter list fails
pub records_readable : (σ : Shape) (ws : List Wire) → (records_fit σ ws ≡ true) ↔ CouldBeRead σ ws
records_readable σ ws = (fit→read σ ws, read→fit σ ws)

-- the text of a well-formed routine leaves room below 4,096 bytes
pub text_length_lem : (R : Routine) → well_formed R ≡ true → length (text_of R) ≤ 3088
text_length_lem R h = text_short R (formed R h).wide

-- each of its lines is a line, with numbers below 128
pub line_small : (R : Routine) → well_formed R ≡ true → Each (Below 128) (lines_of R)
line_small R h = lines_below R (formed R h)

-- so each can be written
pub line_writable : (R : Routine) → well_formed R ≡ true → Each Writable (lines_of R)
line_writable R h = each_writable (lines_of R) (line_small R h)

-- the same of one wire's line
pub wire_small : (R : Routine) → well_formed R ≡ true → (w : ℕ) → R.S * R.D ≤ w → w < size R → Below 128 (wire_line R w)
wire_small R h = wire_below R (formed R h)
