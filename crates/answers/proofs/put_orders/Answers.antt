-- `answers::put_orders` meets its contract. The loop's invariant: the lines of the orders before t were put.
use Rattle.std.proofs.Common.{◌≡◌, ℕ, ◌+◌, ◌-◌, sym, ap, ◌∙◌, arith}
use Rattle.document.specs.Desk.{order_lines}
use Rattle.document.specs.Routine.{routine_of}
use Rattle.buffer.specs.Laws.{page_laws}
use Rattle.buffer.proofs.Laws.Sinks.{puts_same}
use Rattle.answers.proofs.Laws.Orders.{orders_none, orders_to}
use Rattle.answers.proofs.Laws.Rooms.{orders_few}
use Rattle.answers.proofs.put_orders.Goals as goal

pub loop-t-init : goal.loop-t-init
loop-t-init c = (omega arith, puts_same page_laws page_laws.none (sym (orders_none _ _)))

pub put_order-requires : goal.put_order-requires
put_order-requires c =
    let i = c.loop-t in
    let a = c.args in (
      c.requires.0,
      omega (
        arith,
        c.requires.1,
        c.loop-t-test.true,
        i.auto.t,
        page_laws.left i.invariant.1,
        orders_few (routine_of a.listing.shape a.listing.wires) (i.t - 1),
      ),
    )

pub loop-t-preserved : goal.loop-t-preserved
loop-t-preserved c =
    let i = c.loop-t in
    let R = routine_of c.args.listing.shape c.args.listing.wires in
    let e : i.t ≡ i.t + 1 - 1 = omega arith in
    (omega arith, puts_same page_laws (page_laws.then i.invariant.1 c.put_order.ensures) (orders_to R i.t i.auto.t ∙ ap (λ (k : ℕ). order_lines R k 1) e))

pub returns : goal.returns
returns c =
    let i = c.loop-t in
    let e : i.t - 1 ≡ c.args.m = omega (arith, i.auto.t-end) in
    puts_same page_laws i.invariant.1 (ap (λ (k : ℕ). order_lines (routine_of c.args.listing.shape c.args.listing.wires) k 1) e)

pub returns-2 : goal.returns-2
returns-2 c =
    let i = c.loop-t in
    let R = routine_of c.args.listing.shape c.args.listing.wires in
    let e : i.t ≡ c.args.m = omega arith in
    puts_same page_laws (page_laws.then i.invariant.1 c.put_order.ensures) (orders_to R i.t i.auto.t ∙ ap (λ (k : ℕ). order_lines R k 1) e)
