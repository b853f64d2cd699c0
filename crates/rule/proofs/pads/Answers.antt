-- `rule::pads` meets its contract.
use Rattle.std.proofs.Common.{sym, ◌∙◌}
use Rattle.rule.proofs.Laws.Answers.{seen_of, refused_of, padding_not, padding_done}
use Rattle.rule.proofs.pads.Goals as goal

pub returns-in-Ok : goal.returns-in-Ok
returns-in-Ok c = let l = c.args.listing in
    let seen = seen_of l.shape l.wires c.args.t c.args.set c.in-Ok.seen (sym c.observe.ensures ∙ c.in-Ok.is) in
    padding_done l.shape l.wires c.args.t c.args.set seen.0 _ seen.1

pub returns-in-Err : goal.returns-in-Err
returns-in-Err c = let l = c.args.listing in
    padding_not l.shape l.wires c.args.t c.args.set _ (refused_of l.shape l.wires c.args.t c.args.set c.in-Err.refusal (sym c.observe.ensures ∙ c.in-Err.is))
