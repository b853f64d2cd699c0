-- `report::report` meets its contract: what is put of the read is what is printed of the text (8.6, 8.8).
use Rattle.std.proofs.Common.{rules}
use Rattle.report.proofs.Laws.Reports.{reported}
use Rattle.report.proofs.Laws.Lines.{read_fits}
use Rattle.report.proofs.report.Goals as goal

pub put_read-requires : goal.put_read-requires
put_read-requires c = (read_fits c.args.text.now c.read.result c.read.ensures, search rules)

pub returns : goal.returns
returns c = reported c.args.text.now c.read.result c.read.ensures (search rules) c.put_read.ensures.put (search rules)
