-- `rule::observe` meets its contract. The passed tests give what the passes require.
use Rattle.std.proofs.Common.{sym, ap, ◌∙◌, ◌≡◌, length, rules, Result, Ok}
use Rattle.data.specs.declared.Refusal.{Refusal}
use Rattle.asking.specs.Checks.{checked}
use Rattle.asking.proofs.Laws.Checks.{order_high, passed_of}
use Rattle.rule.specs.declared.Observed.{Observed}
use Rattle.rule.proofs.Laws.Calls.{probes_low, wired_of, shares_of}
use Rattle.rule.proofs.Laws.Answers.{observed_is}
use Rattle.rule.proofs.observe.Goals as goal

pub wires_of-wires-requires : goal.wires_of-wires-requires
wires_of-wires-requires c = let l = c.args.listing in
    wired_of l.shape l.wires (passed_of l.shape l.wires c.args.t c.args.set (sym c.check_set.ensures ∙ c.in_ok-check_set.was)).good

pub probe_marks-probe-requires : goal.probe_marks-probe-requires
probe_marks-probe-requires c = let l = c.args.listing in
    let ok = passed_of l.shape l.wires c.args.t c.args.set (sym c.check_set.ensures ∙ c.in_ok-check_set.was) in
    let sized : length c.args.set.places ≡ 4 = search rules in
    probes_low l.shape.n c.args.t c.args.set sized (order_high l.shape.d c.args.t ok.order) (wired_of l.shape l.wires ok.good).few ok.probes

pub overflow_mul-listing : goal.overflow_mul-listing
overflow_mul-listing c = let l = c.args.listing in
    let fits = shares_of l.shape l.wires (passed_of l.shape l.wires c.args.t c.args.set (sym c.check_set.ensures ∙ c.in_ok-check_set.was)).good in
    let few = fits.in_word in search rules

pub live_shares-shares-requires : goal.live_shares-shares-requires
live_shares-shares-requires c = let l = c.args.listing in
    (shares_of l.shape l.wires (passed_of l.shape l.wires c.args.t c.args.set (sym c.check_set.ensures ∙ c.in_ok-check_set.was)).good).in_word

pub over-undecided-requires : goal.over-undecided-requires
over-undecided-requires c = let l = c.args.listing in
    shares_of l.shape l.wires (passed_of l.shape l.wires c.args.t c.args.set (sym c.check_set.ensures ∙ c.in_ok-check_set.was)).good

pub returns : goal.returns
returns c = let l = c.args.listing in
    let e : checked l.shape l.wires c.args.t c.args.set ≡ Ok tt = sym c.check_set.ensures ∙ c.in_ok-check_set.was in
    rw e (ap {B = Result Observed Refusal} Ok (observed_is l.shape l.wires c.args.t c.args.set _ c.wires_of-wires.ensures _ c.probe_marks-probe.ensures
    _ c.run_to_end-run.ensures _ c.live_shares-shares.ensures _ c.over-undecided.ensures))
