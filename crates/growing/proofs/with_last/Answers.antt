-- `growing::with_last` meets its contract: a place behind the last is 0 before and the wire after.
use Rattle.growing.proofs.Laws.Growing.{with_last_lem}
use Rattle.growing.proofs.with_last.Goals as goal

pub returns : goal.returns
returns c = with_last_lem c.args.set c.args.w c.requires.0 c.requires.2
