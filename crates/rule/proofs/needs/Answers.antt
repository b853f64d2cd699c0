-- `rule::needs` meets its contract.
use Rattle.std.proofs.Common.{sym, ◌∙◌}
use Rattle.rule.proofs.Laws.Answers.{seen_of, refused_of, needing_not, needing_done}
use Rattle.rule.proofs.needs.Goals as goal

pub returns-in-Ok : goal.returns-in-Ok
returns-in-Ok c = let l = c.args.listing in
    let seen = seen_of l.shape l.wires c.args.t c.args.set c.in-Ok.seen (sym c.observe.ensures ∙ c.in-Ok.is) in
    needing_done l.shape l.wires c.args.t c.args.set seen.0 _ seen.1

pub returns-in-Err : goal.returns-in-Err
returns-in-Err c = let l = c.args.listing in
    needing_not l.shape l.wires c.args.t c.args.set _ (refused_of l.shape l.wires c.args.t c.args.set c.in-Err.refusal (sym c.observe.ensures ∙ c.in-Err.is))
