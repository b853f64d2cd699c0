-- `writer::write` meets its contract; each return is the answer to one test.
use Rattle.std.proofs.Common.{sym, ◌∙◌, arith, rules}
use Rattle.records.proofs.Laws.Fitting.{fit_of}
use Rattle.writer.proofs.Laws.Sections.{text_few}
use Rattle.writer.proofs.Laws.Writes.{write_not_records, write_not_buffer, write_done}
use Rattle.writer.proofs.write.Goals as goal

pub returns-then-not-records_fit : goal.returns-then-not-records_fit
returns-then-not-records_fit c = let a = c.args in
    rw c.not_written.ensures (write_not_records a.listing.shape a.listing.wires a.buf.now
    (sym c.records_fit.ensures ∙ c.if-not-records_fit.true))

pub put_text-requires : goal.put_text-requires
put_text-requires c =
    let f = fit_of c.args.listing.shape c.args.listing.wires (sym c.records_fit.ensures ∙ c.if-not-records_fit.false) in
    (f, omega (arith, text_few c.args.listing.shape c.args.listing.wires (omega (arith, f.few))))

pub returns-then-buf-count : goal.returns-then-buf-count
returns-then-buf-count c = let a = c.args in
    rw c.not_written-then-buf-count.ensures (write_not_buffer a.listing.shape a.listing.wires a.buf.now
    (sym c.records_fit.ensures ∙ c.if-not-records_fit.false)
    (omega (arith, c.put_text.ensures.next, c.if-buf-count.true)))

pub put_text-requires-2 : goal.put_text-requires-2
put_text-requires-2 c = (
  fit_of c.args.listing.shape c.args.listing.wires (sym c.records_fit.ensures ∙ c.if-not-records_fit.false),
  omega (arith, c.put_text.ensures.next, c.if-buf-count.false),
)

pub returns : goal.returns
returns c =
    let a = c.args in
    write_done a.listing.shape a.listing.wires a.buf.now
    (sym c.records_fit.ensures ∙ c.if-not-records_fit.false)
    (omega (arith, c.put_text.ensures.next, c.if-buf-count.false))
    c.put_text-2.ensures.put
    (search rules)
