-- `rule::needed_word` meets its contract. The run's leaves are the last.
use Rattle.std.proofs.Common.{◌∙◌}
use Rattle.document.specs.Reading.{routine_in}
use Rattle.rule.proofs.Laws.Run.{needed_alone}
use Rattle.rule.proofs.needed_word.Goals as goal

pub returns : goal.returns
returns c = c.live_shares.ensures ∙ needed_alone (routine_in c.args.listing) c.args.probe _ c.wires_of-wires.ensures _ c.run_to_end-run.ensures
