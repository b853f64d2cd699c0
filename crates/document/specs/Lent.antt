-- The calls over a lent list of records, and a read into one (section 6 of docs/SPECIFICATION.md).
use Rattle.std.specs.Prelude.{◌≡◌, cond, List, ◌++◌, ℕ, leb, length, take, drop}
use Rattle.document.specs.Routine.{Routine, routine_of}
use Rattle.document.specs.Reading.{reading, not_read}
use Rattle.document.specs.Running.{ran, ran_into}
use Rattle.document.specs.Writing.{written, written_into}
use Rattle.document.specs.Judgements.{Judgement, judged, judged_not, needing, needed_not, padding, padded_not}
use Rattle.data.specs.declared.Wire.{Wire}
use Rattle.data.specs.declared.Shape.{Shape}
use Rattle.data.specs.declared.Listing.{Listing}
use Rattle.data.specs.declared.Read.{Read}
use Rattle.data.specs.declared.Filled.{Filled}
use Rattle.data.specs.Refusals.{Outcome}
use Rattle.data.specs.declared.Refusal.TheVariants as No
use Rattle.std.specs.Prelude.{Ok, Err}
use Rattle.data.specs.declared.ProbeSet.{ProbeSet}
use Rattle.data.specs.declared.Written.{Written}
use Rattle.data.specs.declared.Ran.{Ran}
use Rattle.data.specs.declared.Needed.{Needed}
use Rattle.data.specs.declared.Padded.{Padded}
use Rattle.data.specs.declared.Judged.{Judged}

-- ---- reading into a lent list

-- 6.8, 7.10, 7.18: a lent list of fewer than 128 places is refused with 10 before the text is tested
unfoldable pub read_for : List ℕ → ℕ → Read
read_for text len = cond (leb 128 len) (reading text) (not_read No.Lent 0)

-- 6.7: of a read into a lent list the answer has outcome, line number and shape
abbrev pub filled : Read → Filled
filled r = record { outcome = r.outcome; line = r.line; shape = r.listing.shape }

-- 6.9, 6.13: an accepted read puts its n records at the front of the list; a refused one changes nothing
abbrev pub filled_with : Outcome → Listing → List Wire → List Wire
filled_with (Ok u) l list = take l.shape.n l.wires ++ drop l.shape.n list
filled_with (Err f) l list = list

-- 6.7: the answer of a read into a lent list
unfoldable pub lent_read : List ℕ → List Wire → Filled
lent_read text list = filled (read_for text (length list))

-- 6.9, 6.13: the list after it
unfoldable pub lent_read_into : List ℕ → List Wire → List Wire
lent_read_into text list = let r = read_for text (length list) in filled_with r.outcome r.listing list

-- ---- the other calls

-- 6.2 to 6.4: the answer for the routine that the first n records are, or the refusal where there are fewer
unfoldable pub lent : {A : Type 0} → Shape → List Wire → A → (Routine → A) → A
lent σ ws refused answer = cond (leb σ.n (length ws)) (answer (routine_of σ ws)) refused

-- 6.5: `write` over a lent list
unfoldable pub lent_written : Shape → List Wire → List ℕ → Written
lent_written σ ws buffer = lent σ ws (record { outcome = Err No.Records; len = 0 }) (λ R. written R buffer)

-- 6.11 to 6.13: the buffer after it
unfoldable pub lent_written_into : Shape → List Wire → List ℕ → List ℕ
lent_written_into σ ws buffer = lent σ ws buffer (λ R. written_into R buffer)

-- 6.5: `run` over a lent list
unfoldable pub lent_ran : Shape → List Wire → ℕ → ℕ → ℕ → List ℕ → Ran
lent_ran σ ws shares randoms publics buffer = lent σ ws (record { outcome = Err No.Records; len = 0 }) (λ R. ran R shares randoms publics buffer)

-- 2.7, 6.12, 6.13: the buffer after it
unfoldable pub lent_ran_into : Shape → List Wire → ℕ → ℕ → ℕ → List ℕ → List ℕ
lent_ran_into σ ws shares randoms publics buffer = lent σ ws buffer (λ R. ran_into R shares randoms publics buffer)

-- 6.5: `needs` over a lent list
unfoldable pub lent_needing : Shape → List Wire → ℕ → ProbeSet → Needed
lent_needing σ ws t set = lent σ ws (needed_not No.Records) (λ R. needing R t set)

-- 6.5: `pads` over a lent list
unfoldable pub lent_padding : Shape → List Wire → ℕ → ProbeSet → Padded
lent_padding σ ws t set = lent σ ws (padded_not No.Records) (λ R. padding R t set)

-- 6.5: a judgement over a lent list
unfoldable pub lent_judged : Judgement → Shape → List Wire → ℕ → Judged
lent_judged J σ ws t = lent σ ws (judged_not No.Records) (λ R. judged J R t)

-- the definitions above, to unfold at once where a proof computes
unfoldable pub whole_lent : Unit {0}
unfolding read_for lent_read lent_read_into lent lent_written lent_written_into lent_ran lent_ran_into lent_needing lent_padding lent_judged
whole_lent = tt

-- ---- words of the statements

-- 6.9 to 6.13: a call that fills what it was lent gives this answer, and leaves this there
pub record Gives {A B : Type 0} (answer : A) (leaves : List B) (r : A) (after : List B) : Type 0 where
  pub said : r ≡ answer
  pub left : after ≡ leaves

-- 6.7 to 6.9: what a read promises of its answer r and of the lent list after it
abbrev pub ReadsInto : List ℕ → List Wire → Filled → List Wire → Type 0
ReadsInto text list r after = Gives (lent_read text list) (lent_read_into text list) r after

-- 6.11 to 6.13: what `write` promises of its answer r and of the buffer after it
abbrev pub WritesInto : Shape → List Wire → List ℕ → Written → List ℕ → Type 0
WritesInto σ ws buffer r after = Gives (lent_written σ ws buffer) (lent_written_into σ ws buffer) r after

-- 2.7, 6.12, 6.13: what `run` promises of its answer r and of the buffer after it
abbrev pub RunsInto : Shape → List Wire → ℕ → ℕ → ℕ → List ℕ → Ran → List ℕ → Type 0
RunsInto σ ws shares randoms publics buffer r after =
    Gives (lent_ran σ ws shares randoms publics buffer) (lent_ran_into σ ws shares randoms publics buffer) r after
