-- `printer::put_wires` meets its contract. The loop's invariant: the wires up to the index were put.
use Rattle.std.proofs.Common.{sym, ap, ◌∙◌, arith, rules, take, take_all, length-take}
use Rattle.buffer.specs.Laws.{page_laws}
use Rattle.buffer.proofs.Laws.Sinks.{puts_same}
use Rattle.printer.specs.Fields.{wire_fields}
use Rattle.printer.proofs.Laws.Lines.{wires_none, wires_more, held_whole}
use Rattle.printer.proofs.Laws.Rooms.{wires_few}
use Rattle.printer.proofs.put_wires.Goals as goal

pub loop-w-init : goal.loop-w-init
loop-w-init c = (search rules, puts_same page_laws page_laws.none (sym wires_none))

pub put_spaced-requires : goal.put_spaced-requires
put_spaced-requires c =
    let i = c.loop-w in
    let wires = take c.min.result c.args.set.places in
    omega (
      arith,
      c.requires,
      c.min.ensures,
      c.loop-w-test.true,
      length-take c.min.result c.args.set.places,
      length-take i.w-index wires,
      wires_few (take i.w-index wires),
      page_laws.left i.invariant.1,
    )

pub loop-w-preserved : goal.loop-w-preserved
loop-w-preserved c =
    let i = c.loop-w in
    let more = rw c.from.ensures at c.put_spaced.ensures in
    (omega arith, puts_same page_laws (page_laws.then i.invariant.1 more) (sym (wires_more (take c.min.result c.args.set.places) i.w-index c.loop-w-test.true)))

pub returns : goal.returns
returns c =
    let i = c.loop-w in
    let s = c.args.set in
    let all = take_all i.w-index (take c.min.result s.places) c.loop-w-test.false in
    puts_same page_laws i.invariant.1 (ap wire_fields (all ∙ held_whole s.places s.len c.min.result (search rules) c.min.ensures))
