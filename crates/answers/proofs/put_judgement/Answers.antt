-- `answers::put_judgement` meets its contract: what the judgement answers, behind its word.
use Rattle.std.proofs.Common.{ap, ◌∙◌}
use Rattle.document.specs.Desk.{answer_line}
use Rattle.buffer.specs.Laws.{page_laws}
use Rattle.buffer.proofs.Laws.Sinks.{puts_same}
use Rattle.answers.proofs.Laws.Orders.{line_is_judged, word_few}
use Rattle.answers.proofs.put_judgement.Goals as goal

pub put_answer-requires : goal.put_answer-requires
put_answer-requires c = (rw c.word_of.ensures (word_few c.args.which), c.requires.1)

pub returns : goal.returns
returns c =
    let a = c.args in
    let w = c.judge-answer in
    puts_same page_laws c.put_answer.ensures
    (ap (λ v. answer_line v a.t w.result) c.word_of.ensures
    ∙ line_is_judged a.which a.listing.shape a.listing.wires a.t w.result c.requires.0 w.ensures)
