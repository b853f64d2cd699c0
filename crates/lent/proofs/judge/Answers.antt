-- `lent::judge` answers of the list what it answers of the listing.
use Rattle.document.specs.Judgements.{judgement_of}
use Rattle.lent.proofs.Laws.Same.{judge_same}
use Rattle.lent.proofs.judge.Goals as goal

pub returns : goal.returns
returns c =
    judge_same (judgement_of c.args.which) c.args.shape c.args.list.now c.args.t (rw c.listing_of.ensures at c.judge.ensures)
