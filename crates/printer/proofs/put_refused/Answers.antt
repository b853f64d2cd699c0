-- `printer::put_refused` meets its contract, field by field.
use Rattle.std.specs.Prelude.{[], ◌∷◌, ◌++◌}
use Rattle.std.proofs.Common.{ap, ◌∙◌, arith}
use Rattle.document.specs.Lines.{lf}
use Rattle.document.specs.Desk.{refused_word}
use Rattle.buffer.specs.Laws.{page_laws}
use Rattle.buffer.proofs.Laws.Digits.{printed_few}
use Rattle.buffer.proofs.Laws.Sinks.{puts_same}
use Rattle.printer.specs.Fields.{number_field}
use Rattle.printer.proofs.Laws.Lines.{refused_line_is}
use Rattle.printer.proofs.put_refused.Goals as goal

pub put_spaced-requires : goal.put_spaced-requires
put_spaced-requires c = omega (arith, c.requires, page_laws.left c.put_word.ensures)

pub put_spaced-requires-2 : goal.put_spaced-requires-2
put_spaced-requires-2 c =
    omega (arith, printed_few c.number.result, c.requires, page_laws.left c.put_word.ensures, page_laws.left c.put_spaced.ensures)

pub put_byte-requires : goal.put_byte-requires
put_byte-requires c =
    omega (
      arith,
      printed_few c.number.result,
      printed_few c.args.line,
      c.requires,
      page_laws.left c.put_word.ensures,
      page_laws.left c.put_spaced.ensures,
      page_laws.left c.put_spaced-2.ensures,
    )

pub returns : goal.returns
returns c =
    let a = c.args in
    puts_same page_laws
    (page_laws.then (page_laws.then (page_laws.then c.put_word.ensures c.put_spaced.ensures) c.put_spaced-2.ensures) c.put_byte.ensures)
    (ap (λ k. ((refused_word ++ number_field k) ++ number_field a.line) ++ lf ∷ []) c.number.ensures ∙ refused_line_is a.f a.line)
