-- `buffer::put_number` meets its contract: the digits of a tenth, then the last.
use Rattle.std.specs.Prelude.{[], ◌∷◌, ◌+◌, ◌/◌, ◌%◌}
use Rattle.std.proofs.Common.{sym, ap, arith, length, length-append}
use Rattle.document.specs.Lines.{digit_zero}
use Rattle.document.specs.Desk.{printed}
use Rattle.buffer.proofs.Laws.Digits.{printed_one, printed_more}
use Rattle.buffer.proofs.Laws.Sinks.{puts_same}
use Rattle.buffer.proofs.+put_number.Goals as goal

pub put_byte-requires : goal.put_byte-requires
put_byte-requires g t c =
    let z = ap length (printed_one c.args.n c.if-n-lt10.true) in
    omega (arith, c.requires)

pub returns-then-n-lt10 : goal.returns-then-n-lt10
returns-then-n-lt10 g t c = puts_same g.met.S.Sink.laws c.put_byte.ensures (sym (printed_one c.args.n c.if-n-lt10.true))

pub put_number-requires : goal.put_number-requires
put_number-requires g t c κs within =
    let e = ap length (printed_more c.args.n c.if-n-lt10.false (omega arith)) in
    let l = length-append (printed (c.args.n / 10)) ((digit_zero + c.args.n % 10) ∷ []) in
    (omega (arith, c.decreases), (within, omega (arith, c.requires)))

pub put_byte-requires-2 : goal.put_byte-requires-2
put_byte-requires-2 g t c =
    let e = ap length (printed_more c.args.n c.if-n-lt10.false (omega arith)) in
    let l = length-append (printed (c.args.n / 10)) ((digit_zero + c.args.n % 10) ∷ []) in
    omega (arith, c.requires, g.met.S.Sink.laws.left c.put_number.ensures)

pub returns : goal.returns
returns g t c =
    let m = g.met.S.Sink.laws in
    puts_same m (m.then c.put_number.ensures c.put_byte-2.ensures) (sym (printed_more c.args.n c.if-n-lt10.false (omega arith)))
