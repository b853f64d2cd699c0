-- `lines::begin` meets its contract: S times D is at most 64.
use Rattle.std.proofs.Common.{arith}
use Rattle.lines.proofs.Laws.{in_few}
use Rattle.lines.proofs.begin.Goals as goal

pub share_records-requires : goal.share_records-requires
share_records-requires c = let r = in_few c.args.s c.args.d c.requires in (omega arith, r.some, r.most)
