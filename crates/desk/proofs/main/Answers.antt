-- The program keeps within its two buffers.
use Rattle.intake.proofs.Laws.Inputs.{ended_within}
use Rattle.desk.proofs.main.Goals as goal

pub answer-len-requires : goal.answer-len-requires
answer-len-requires c =
    let taken = c.read_whole in
    rw c.input-input.ensures (ended_within taken.result.done taken.result.last _ taken.ensures.ended)
