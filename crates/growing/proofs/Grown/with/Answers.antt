-- `growing::Grown::with` meets its contract.
use Rattle.growing.proofs.Laws.Growing.{grown_is}
use Rattle.growing.proofs.Grown.with.Goals as goal

pub returns : goal.returns
returns c = grown_is c.args.self c.args.w c.args.cone _ _ c.with_last.ensures c.with.ensures
