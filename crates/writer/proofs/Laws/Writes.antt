-- The answer to each test of a writing.
use Rattle.std.specs.Prelude.{◌≡◌, true, List, ℕ, ◌≤◌, ◌<◌, leb}
use Rattle.std.proofs.Common.{◌∙◌, arith}
use Rattle.std.proofs.Math.Bool.{false}
use borrow.Author.Tests.{le-leb, lt-leb}
use Rattle.std.proofs.Math.ListN.{length}
use Rattle.data.proofs.Laws.Tests.{bool_cases, and_r}
use Rattle.document.specs.Lent.{lent, lent_written, lent_written_into, WritesInto}
use Rattle.document.specs.Routine.{well_formed, routine_of, records_fit}
use Rattle.document.specs.Writing.{text_of, write_refusal, written, written_into}
use Rattle.std.specs.Prelude.{Ok}
use Rattle.data.specs.declared.Refusal.TheVariants.{Records, Buffer}
use Rattle.data.specs.declared.Shape.{Shape}
use Rattle.data.specs.declared.Wire.{Wire}
use Rattle.records.proofs.Laws.Fitting.{long_of, fit_of}
use Rattle.buffer.specs.Put.{Put}
use Rattle.buffer.proofs.Laws.Puts.{wrote_first}
use Rattle.writer.specs.Parts.{text_parts, written_not}
use Rattle.writer.proofs.Laws.Text.{text_is}

module _ (σ : Shape) (ws : List Wire) (b : List ℕ) where
  pub write_not_records : records_fit σ ws ≡ false → WritesInto σ ws b (written_not Records) b
  unfolding lent lent_written lent_written_into written written_into write_refusal records_fit
  write_not_records e =
      bool_cases
      (leb σ.n (length ws))
      (λ t. let w : well_formed (routine_of σ ws) ≡ false = rw t at e in record { said = simp (t, w); left = simp (t, w) })
      (λ f. record { said = simp f; left = simp f })

  module _ (fit : records_fit σ ws ≡ true) where
    long : leb σ.n (length ws) ≡ true
    long = le-leb σ.n (length ws) (long_of σ ws fit)

    well : well_formed (routine_of σ ws) ≡ true
    unfolding records_fit
    well = and_r (leb σ.n (length ws)) (well_formed (routine_of σ ws)) fit

    text : text_of (routine_of σ ws) ≡ text_parts σ ws
    text = text_is σ ws (fit_of σ ws fit)

    pub write_not_buffer : length b < length (text_parts σ ws) → WritesInto σ ws b (written_not Buffer) b
    unfolding lent lent_written lent_written_into written written_into write_refusal
    write_not_buffer h =
        let l = lt-leb (length (text_parts σ ws)) (length b) h in
        record { said = simp (long, well, text, l); left = simp (long, well, text, l) }

    pub write_done : {r : ℕ} {c after : List ℕ} → length (text_parts σ ws) ≤ length b → Put b 0 (text_parts σ ws) r c → after ≡ c →
        WritesInto σ ws b (record { outcome = Ok tt; len = r }) after
    unfolding lent lent_written lent_written_into written written_into write_refusal
    write_done {r} h p same =
        let l = le-leb (length (text_parts σ ws)) (length b) h in
        let e : r ≡ length (text_parts σ ws) = omega (arith, p.next) in
        record { said = simp (long, well, text, l, e); left = simp (long, well, text, l) (same ∙ p.left ∙ wrote_first b (text_parts σ ws) h) }
