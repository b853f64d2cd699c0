-- `put_byte` of a page meets its contract: one store.
use Rattle.std.specs.Prelude.{refl}
use Rattle.buffer.proofs.Laws.Puts.{put_one}
use Rattle.buffer.proofs.PageSink.put_byte.Goals as goal

pub returns : goal.returns
returns c = record { put = put_one _ _ _; same = refl }
