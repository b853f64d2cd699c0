-- The answer to each test of a run.
use Rattle.std.specs.Prelude.{◌≡◌, Bool, true, ℕ, ◌*◌, ◌≤◌, ◌<◌, leb, length}
use Rattle.std.proofs.Common.{sym, ◌∙◌, arith}
use Rattle.std.proofs.Math.Path.{ap}
use Rattle.std.proofs.Math.Bool.{false}
use mathlib.Core.List.{List, ◌++◌}
use borrow.Author.Tests.{le-leb, lt-leb}
use Rattle.std.proofs.Math.ListN.{drop}
use Rattle.std.proofs.Math.Seq.{length-take-le}
use Rattle.data.proofs.Laws.Tests.{bool_cases, and_r}
use Rattle.document.specs.Lent.{lent, lent_ran, lent_ran_into, RunsInto}
use Rattle.document.specs.Routine.{well_formed, routine_of, records_fit}
use Rattle.document.specs.Running.{bits_fit, run_refusal, ran, ran_into}
use Rattle.std.specs.Prelude.{Ok}
use Rattle.data.specs.declared.Refusal.TheVariants.{Records, Bits, Buffer}
use Rattle.data.specs.declared.Shape.{Shape}
use Rattle.data.specs.declared.Wire.{Wire}
use Rattle.counts.specs.declared.Counts.{Counts}
use Rattle.counts.specs.Counting.{counts_of}
use Rattle.counts.proofs.Laws.Counts.{rands_is, pubs_is}
use Rattle.records.proofs.Laws.Fitting.{long_of}
use Rattle.values.specs.Words.{words_fit}
use Rattle.runner.specs.Run.{ran_not, values}
use Rattle.runner.proofs.Laws.Values.{values_all}

module _ (σ : Shape) (ws : List Wire) (shares randoms publics : ℕ) (b : List ℕ) where
  pub run_not_records : records_fit σ ws ≡ false → RunsInto σ ws shares randoms publics b (ran_not Records) b
  unfolding lent lent_ran lent_ran_into ran ran_into run_refusal records_fit
  run_not_records e =
      bool_cases
      (leb σ.n (length ws))
      (λ t. let w : well_formed (routine_of σ ws) ≡ false = rw t at e in record { said = simp (t, w); left = simp (t, w) })
      (λ f. record { said = simp f; left = simp f })

  module _ (fit : records_fit σ ws ≡ true) where
    long : σ.n ≤ length ws
    long = long_of σ ws fit

    leb_long : leb σ.n (length ws) ≡ true
    leb_long = le-leb σ.n (length ws) long

    well : well_formed (routine_of σ ws) ≡ true
    unfolding records_fit
    well = and_r (leb σ.n (length ws)) (well_formed (routine_of σ ws)) fit

    words_are : bits_fit (routine_of σ ws) shares randoms publics ≡ words_fit (σ.s * σ.d) (counts_of σ.n ws) shares randoms publics
    unfolding bits_fit words_fit
    words_are = rw (length-take-le σ.n ws long, rands_is σ ws σ.n (omega arith), pubs_is σ ws σ.n (omega arith))

    -- the code's test of 14, from the counts c that it has and its outcome t
    bits_told : {c : Counts} {t v : Bool} → c ≡ counts_of σ.n ws → t ≡ words_fit (σ.s * σ.d) c shares randoms publics → t ≡ v
        → bits_fit (routine_of σ ws) shares randoms publics ≡ v
    bits_told e f g = words_are ∙ ap (λ (k : Counts). words_fit (σ.s * σ.d) k shares randoms publics) (sym e) ∙ sym f ∙ g

    module _ {c : Counts} {t : Bool} (counted : c ≡ counts_of σ.n ws) (tested : t ≡ words_fit (σ.s * σ.d) c shares randoms publics) where
      pub run_not_bits : t ≡ false → RunsInto σ ws shares randoms publics b (ran_not Bits) b
      unfolding lent lent_ran lent_ran_into ran ran_into run_refusal
      run_not_bits e = let f = bits_told counted tested e in record { said = simp (leb_long, well, f); left = simp (leb_long, well, f) }

      pub run_not_buffer : t ≡ true → length b < σ.n → RunsInto σ ws shares randoms publics b (ran_not Buffer) b
      unfolding lent lent_ran lent_ran_into ran ran_into run_refusal
      run_not_buffer e h =
          let f = bits_told counted tested e in
          let z = length-take-le σ.n ws long in
          let l = lt-leb σ.n (length b) h in
          record { said = simp (leb_long, well, f, z, l); left = simp (leb_long, well, f, z, l) }

      pub run_done : {a : List ℕ} → t ≡ true → σ.n ≤ length b → a ≡ values σ.n ws shares randoms publics σ.n ++ drop σ.n b
          → RunsInto σ ws shares randoms publics b (record { outcome = Ok tt; len = σ.n }) a
      unfolding lent lent_ran lent_ran_into ran ran_into run_refusal
      run_done e h k =
          let f = bits_told counted tested e in
          let z = length-take-le σ.n ws long in
          let l = le-leb σ.n (length b) h in
          record {
            said = simp (leb_long, well, f, z, l);
            left = simp (leb_long, well, f, z, l) (k ∙ ap (λ (v : List ℕ). v ++ drop σ.n b) (values_all σ ws shares randoms publics long));
          }
