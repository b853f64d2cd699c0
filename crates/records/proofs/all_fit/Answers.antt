-- `records::all_fit` meets its contract: a record that fits is one more, and one that does not is enough.
use Rattle.std.proofs.Common.{Bool, ℕ, length, arith, sym, ◌∙◌}
use Rattle.counts.specs.Counting.{record_at}
use Rattle.records.proofs.Laws.Parts.{all_none, all_more, all_fails}
use Rattle.records.specs.Records.{fits_at}
use Rattle.records.proofs.all_fit.Goals as goal

pub loop-w-init : goal.loop-w-init
loop-w-init c = all_none _

pub returns-then-not-record_fits : goal.returns-then-not-record_fits
returns-then-not-record_fits c =
    let f : ℕ → Bool = λ u. fits_at c.args.s c.args.d u (record_at c.args.ws.now u) in
    sym (all_fails (length c.args.ws.now) f c.loop-w.w (omega arith) (sym c.record_fits.ensures ∙ c.if-not-record_fits.true))

pub loop-w-preserved : goal.loop-w-preserved
loop-w-preserved c =
    let f : ℕ → Bool = λ u. fits_at c.args.s c.args.d u (record_at c.args.ws.now u) in
    all_more c.loop-w.w f ∙ rw (c.loop-w.invariant, sym c.record_fits.ensures ∙ c.if-not-record_fits.false)
