-- `runner::run` meets its contract; each return is the answer to one test.
use Rattle.std.proofs.Common.{sym, ◌∙◌, arith}
use Rattle.counts.proofs.Laws.Counts.{counts_first}
use Rattle.records.proofs.Laws.Fitting.{fit_of}
use Rattle.runner.proofs.Laws.Runs.{run_not_records, run_not_bits, run_not_buffer, run_done}
use Rattle.runner.proofs.Laws.Values.{values_first}
use Rattle.runner.proofs.run.Goals as goal

pub returns-then-not-records_fit : goal.returns-then-not-records_fit
returns-then-not-records_fit c =
    let a = c.args in
    rw c.not_run.ensures (run_not_records a.listing.shape a.listing.wires a.shares a.randoms a.publics a.buf.now
    (sym c.records_fit.ensures ∙ c.if-not-records_fit.true))

pub shared_ref_as_front-ws : goal.shared_ref_as_front-ws
shared_ref_as_front-ws c =
    let f = fit_of c.args.listing.shape c.args.listing.wires (sym c.records_fit.ensures ∙ c.if-not-records_fit.false) in
    omega (arith, f.long, f.few)

pub count_records-counts-requires : goal.count_records-counts-requires
count_records-counts-requires c =
    let f = fit_of c.args.listing.shape c.args.listing.wires (sym c.records_fit.ensures ∙ c.if-not-records_fit.false) in
    rw f.sized f.few

pub overflow_mul-s : goal.overflow_mul-s
overflow_mul-s c =
    let f = fit_of c.args.listing.shape c.args.listing.wires (sym c.records_fit.ensures ∙ c.if-not-records_fit.false) in
    omega (arith, f.range.shares_few)

pub fit-requires : goal.fit-requires
fit-requires c =
    let f = fit_of c.args.listing.shape c.args.listing.wires (sym c.records_fit.ensures ∙ c.if-not-records_fit.false) in
    let p = f.pubs_few in
    rw (c.count_records-counts.ensures ∙ counts_first c.args.listing.shape.n c.args.listing.wires f.long)
    (record { shares_small = f.range.shares_few; rands_small = f.rands_few; pubs_small = omega arith })

pub returns-then-not-fit : goal.returns-then-not-fit
returns-then-not-fit c =
    let a = c.args in
    let fit = sym c.records_fit.ensures ∙ c.if-not-records_fit.false in
    let f = fit_of a.listing.shape a.listing.wires fit in
    rw c.not_run-then-not-fit.ensures (run_not_bits a.listing.shape a.listing.wires a.shares a.randoms a.publics a.buf.now fit
    (c.count_records-counts.ensures ∙ counts_first a.listing.shape.n a.listing.wires f.long)
    c.fit.ensures c.if-not-fit.true)

pub returns-then-buf-n : goal.returns-then-buf-n
returns-then-buf-n c =
    let a = c.args in
    let fit = sym c.records_fit.ensures ∙ c.if-not-records_fit.false in
    let f = fit_of a.listing.shape a.listing.wires fit in
    rw c.not_run-then-buf-n.ensures (run_not_buffer a.listing.shape a.listing.wires a.shares a.randoms a.publics a.buf.now fit
    (c.count_records-counts.ensures ∙ counts_first a.listing.shape.n a.listing.wires f.long)
    c.fit.ensures c.if-not-fit.false c.if-buf-n.true)

pub put_values-requires-clause-few : goal.put_values-requires-clause-few
put_values-requires-clause-few c =
    let f = fit_of c.args.listing.shape c.args.listing.wires (sym c.records_fit.ensures ∙ c.if-not-records_fit.false) in
    rw f.sized f.few

pub put_values-requires-clause-room : goal.put_values-requires-clause-room
put_values-requires-clause-room c =
    let f = fit_of c.args.listing.shape c.args.listing.wires (sym c.records_fit.ensures ∙ c.if-not-records_fit.false) in
    rw f.sized c.if-buf-n.false

pub returns : goal.returns
returns c =
    let a = c.args in
    let fit = sym c.records_fit.ensures ∙ c.if-not-records_fit.false in
    let f = fit_of a.listing.shape a.listing.wires fit in
    run_done a.listing.shape a.listing.wires a.shares a.randoms a.publics a.buf.now fit
    (c.count_records-counts.ensures ∙ counts_first a.listing.shape.n a.listing.wires f.long)
    c.fit.ensures c.if-not-fit.false c.if-buf-n.false
    (c.put_values.ensures ∙ values_first a.listing.shape.n a.listing.wires a.shares a.randoms a.publics a.buf.now f.long)
