-- `printer::put_verdict` meets its contract; each return is one of the three verdicts.
use Rattle.std.specs.Prelude.{◌∷◌, ◌++◌}
use Rattle.std.proofs.Common.{ap, ◌∙◌, arith}
use Rattle.document.specs.Desk.{space, open_word, refused_word}
use Rattle.buffer.specs.Laws.{page_laws}
use Rattle.buffer.proofs.Laws.Sinks.{puts_same}
use Rattle.printer.specs.Fields.{number_field}
use Rattle.printer.proofs.Laws.Lines.{pass_fields_lem, open_fields, refused_fields}
use Rattle.printer.proofs.Laws.Rooms.{counted_left}
use Rattle.printer.proofs.put_verdict.Goals as goal

pub put_wires-requires : goal.put_wires-requires
put_wires-requires c = omega (arith, c.requires, counted_left c.args.t (space ∷ open_word) _ c.put_counted-in-Open.ensures)

pub returns-in-Pass : goal.returns-in-Pass
returns-in-Pass c = rw c.in-Pass.is (puts_same page_laws c.put_counted.ensures (pass_fields_lem _ _ _))

pub returns-in-Open : goal.returns-in-Open
returns-in-Open c = rw c.in-Open.is
    (puts_same page_laws (page_laws.then c.put_counted-in-Open.ensures c.put_wires.ensures) (open_fields _ _ _))

pub returns-in-Refused : goal.returns-in-Refused
returns-in-Refused c = rw c.in-Refused.is
    (puts_same page_laws c.put_counted-in-Refused.ensures
    (ap (λ k. (number_field c.args.t ++ (space ∷ refused_word)) ++ number_field k) c.number.ensures
    ∙ refused_fields _ _ _))
