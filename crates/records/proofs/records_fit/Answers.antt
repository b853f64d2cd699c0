-- `records::records_fit` meets its contract; each return is one part of the test of refusal 11 (7.11).
use Rattle.std.proofs.Common.{sym, ap, ◌∙◌, arith}
use Rattle.data.proofs.Listings.{listing_long}
use Rattle.counts.specs.Counting.{ceilings_met}
use Rattle.counts.proofs.Laws.Counts.{counts_first}
use Rattle.records.proofs.Laws.Parts.{in_range_lem, too_long, range_fails, shares_fail, ceilings_fail, rest_fits, all_first}
use Rattle.records.proofs.records_fit.Goals as goal
use Rattle.records.proofs.records_fit.Goals.{then-n-gt128-via-then-n-gt128, then-n-gt128-via-else-n-gt128+then-not-in_range}

pub overflow_mul-shares : goal.overflow_mul-shares
overflow_mul-shares c =
    let r = in_range_lem c.args.listing.shape.s c.args.listing.shape.d (sym c.in_range.ensures ∙ c.if-not-in_range.false) in
    omega (arith, r.shares_few)

pub returns-then-n-gt128 : goal.returns-then-n-gt128
returns-then-n-gt128 c =
    let l = listing_long c.args.listing c.well_formed.0 in
    let σ = c.args.listing.shape in
    let ws = c.args.listing.wires in
    elim c.then-n-gt128.branch [
      | then-n-gt128-via-then-n-gt128 w ↦ sym (too_long σ ws (omega arith))
      | then-n-gt128-via-else-n-gt128+then-not-in_range w ↦
          sym (range_fails σ ws (omega arith) (omega arith) (sym w.in_range.ensures ∙ w.if-not-in_range.true))
    ]

pub returns-then-n-shares : goal.returns-then-n-shares
returns-then-n-shares c =
    let l = listing_long c.args.listing c.well_formed.0 in
    sym (shares_fail c.args.listing.shape c.args.listing.wires (omega arith) (omega arith) (sym c.in_range.ensures ∙ c.if-not-in_range.false)
    c.if-n-shares.true)

pub all_fit-requires : goal.all_fit-requires
all_fit-requires c = in_range_lem c.args.listing.shape.s c.args.listing.shape.d (sym c.in_range.ensures ∙ c.if-not-in_range.false)

pub returns-else-ceilings_met : goal.returns-else-ceilings_met
returns-else-ceilings_met c =
    let l = listing_long c.args.listing c.well_formed.0 in
    let σ = c.args.listing.shape in
    let ws = c.args.listing.wires in
    c.if-ceilings_met.false
    ∙ sym (ceilings_fail σ ws (omega arith) (omega arith) (sym c.in_range.ensures ∙ c.if-not-in_range.false) c.if-n-shares.false
    (ap ceilings_met (sym (counts_first σ.n ws (omega arith)) ∙ sym c.count_records.ensures) ∙ sym c.ceilings_met.ensures ∙ c.if-ceilings_met.false))

pub returns-then-ceilings_met : goal.returns-then-ceilings_met
returns-then-ceilings_met c =
    let l = listing_long c.args.listing c.well_formed.0 in
    let σ = c.args.listing.shape in
    let ws = c.args.listing.wires in
    c.all_fit.ensures
    ∙ all_first σ.n σ.s σ.d ws (omega arith)
    ∙ sym (rest_fits σ ws (omega arith) (omega arith) (sym c.in_range.ensures ∙ c.if-not-in_range.false) c.if-n-shares.false
    (ap ceilings_met (sym (counts_first σ.n ws (omega arith)) ∙ sym c.count_records.ensures) ∙ sym c.ceilings_met.ensures ∙ c.if-ceilings_met.true))
