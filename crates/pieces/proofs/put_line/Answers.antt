-- `pieces::put_line` meets its contract. The loop's invariant: the numbers up to the index were put.
use Rattle.std.specs.Prelude.{[], ◌∷◌, ◌++◌}
use Rattle.std.proofs.Common.{sym, arith, rules, length-append}
use Rattle.document.specs.Lines.{lf}
use Rattle.buffer.proofs.Laws.Sinks.{puts_same}
use Rattle.pieces.specs.Pieces.{numbers}
use Rattle.pieces.proofs.Laws.Lengths.{numbers_none, numbers_more, numbers_within}
use Rattle.pieces.proofs.put_line.Goals as goal

pub loop-n-init : goal.loop-n-init
loop-n-init g c = let m = g.met.S.Sink.laws in (search rules, puts_same m m.none (sym numbers_none))

pub put_field-requires : goal.put_field-requires
put_field-requires g c =
    let a = c.args in
    let i = c.loop-n in
    let m = g.met.S.Sink.laws in
    omega (
      arith,
      c.requires,
      length-append a.word.now (numbers a.numbers.now),
      length-append (a.word.now ++ numbers a.numbers.now) (lf ∷ []),
      numbers_within a.numbers.now i.n-index c.loop-n-test.true,
      m.left c.put_word.ensures,
      m.left i.invariant.1,
    )

pub loop-n-preserved : goal.loop-n-preserved
loop-n-preserved g c =
    let i = c.loop-n in
    let m = g.met.S.Sink.laws in
    (omega arith, puts_same m (m.then i.invariant.1 c.put_field.ensures) (numbers_more c.args.numbers.now i.n-index c.loop-n-test.true))
