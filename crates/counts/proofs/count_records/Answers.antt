-- `counts::count_records` meets its contract: a record more, a count more.
use Rattle.std.proofs.Common.{arith, sym, ◌∙◌}
use Rattle.counts.proofs.Laws.Counts.{counts_none, counts_more, counts_room}
use Rattle.counts.proofs.count_records.Goals as goal

pub loop-x-init : goal.loop-x-init
loop-x-init c = c.none-c.ensures ∙ sym (counts_none c.args.ws.now)

pub with-c-requires : goal.with-c-requires
with-c-requires c = rw c.loop-x.invariant (counts_room c.loop-x.x-index c.args.ws.now (omega arith))

pub loop-x-preserved : goal.loop-x-preserved
loop-x-preserved c = let e = counts_more c.loop-x.x-index c.args.ws.now in cc
