-- `report::put_read` meets its contract; each return is one outcome of the read.
use Rattle.buffer.specs.Laws.{page_laws}
use Rattle.buffer.proofs.Laws.Sinks.{puts_same}
use Rattle.report.proofs.Laws.Lines.{done_lines, refused_lines}
use Rattle.report.proofs.put_read.Goals as goal

pub returns-in-Ok : goal.returns-in-Ok
returns-in-Ok c = puts_same page_laws c.put_orders.ensures (done_lines c.args.got c.orders.result c.in-Ok.is c.orders.ensures)

pub returns-in-Err : goal.returns-in-Err
returns-in-Err c = puts_same page_laws c.put_refused.ensures (refused_lines c.args.got _ c.in-Err.is)
