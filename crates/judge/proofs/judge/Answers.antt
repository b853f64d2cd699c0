-- `judge::judge` meets its contract: 11, 12, then what is found.
use mathlib.Core.Path.{sym, ◌∙◌}
use Rattle.asking.proofs.Laws.Checks.{order_high}
use Rattle.judge.proofs.Laws.Answers.{not_records, not_order, judged_answer}
use Rattle.judge.proofs.judge.Goals as goal

pub returns-then-not-records_fit : goal.returns-then-not-records_fit
returns-then-not-records_fit c = let a = c.args in
    let bad = sym c.records_fit.ensures ∙ c.if-not-records_fit.true in
    c.refusal.ensures ∙ not_records a.which a.listing.shape a.listing.wires a.t bad

pub returns-then-not-order_fits : goal.returns-then-not-order_fits
returns-then-not-order_fits c = let a = c.args in
    let good = sym c.records_fit.ensures ∙ c.if-not-records_fit.false in
    let bad = sym c.order_fits.ensures ∙ c.if-not-order_fits.true in
    c.refusal-then-not-order_fits.ensures ∙ not_order a.which a.listing.shape a.listing.wires a.t good bad

pub search_sizes-requires : goal.search_sizes-requires
search_sizes-requires c = order_high _ _ (sym c.order_fits.ensures ∙ c.if-not-order_fits.false)

pub returns : goal.returns
returns c = let a = c.args in
    let good = sym c.records_fit.ensures ∙ c.if-not-records_fit.false in
    let order = sym c.order_fits.ensures ∙ c.if-not-order_fits.false in
    judged_answer a.which a.listing.shape a.listing.wires a.t good order _ c.search_sizes.ensures _ c.answer_of.ensures
