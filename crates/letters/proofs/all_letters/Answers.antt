-- `letters::all_letters` meets its contract: the library's word for all bytes is the definition's.
use Rattle.std.proofs.Common.{rules, tests}
use Rattle.std.proofs.lemmas.Iterator.{YieldsList-from_slice}
use Rattle.std.proofs.lemmas.Iterator.Search.{all_from_yields_List}
use Rattle.document.specs.Reading.{letter}
use Rattle.letters.proofs.Laws.{each_is_all}
use Rattle.letters.proofs.all_letters.Goals as goal

pub returns : goal.returns
returns c = rw each_is_all (all_from_yields_List letter _ _ _ c.all.ensures.ran (YieldsList-from_slice c.args.text.now (cc)) (λ x b q k. search (rules, tests)))
