-- `fields::split_once` meets its contract: its cut is at the place that was found.
use Rattle.std.proofs.Common.{◌∙◌, sym}
use Rattle.fields.proofs.Laws.{cut_some}
use Rattle.fields.proofs.split_once.Goals as goal

pub returns-clause-parts : goal.returns-clause-parts
returns-clause-parts c = (cut_some _ _ _ (sym c.place_of.ensures ∙ c.in_ok-n.was)).parts
