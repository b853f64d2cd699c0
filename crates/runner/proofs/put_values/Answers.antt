-- `runner::put_values` meets its contract: a value more, and a count.
use Rattle.std.proofs.Common.{◌<◌, length, refl, sym, ◌∙◌, arith, length-set}
use Rattle.counts.proofs.Laws.Counts.{counts_none, counts_more, counts_room}
use Rattle.runner.proofs.Laws.Values.{values_none, values_turn}
use Rattle.runner.proofs.put_values.Goals as goal

pub loop-w-init : goal.loop-w-init
loop-w-init c = record { kept = refl; counted = c.none-c.ensures ∙ sym (counts_none _); written = rw values_none }

pub with-c-requires : goal.with-c-requires
with-c-requires c = rw c.loop-w.invariant.counted (counts_room c.loop-w.w c.args.ws.now (omega arith))

pub loop-w-preserved : goal.loop-w-preserved
loop-w-preserved c =
    let a = c.args in
    let q = c.loop-w in
    let e = c.put_value.ensures in
    let l : q.w < length a.buf.now = omega arith in
    record {
      kept = rw (e, length-set) q.invariant.kept;
      counted = let m = counts_more q.w a.ws.now in cc;
      written = values_turn (length a.ws.now) a.ws.now a.inputs.shares a.inputs.randoms a.inputs.publics
          q.w q.buf a.buf.now _ q.c (omega arith) l q.invariant.written q.invariant.counted e;
    }
