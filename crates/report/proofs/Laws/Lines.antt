-- The lines of the two outcomes of a read.
use Rattle.std.specs.Prelude.{◌≡◌, List, ℕ, ◌-◌, ◌≤◌, min, length, take}
use Rattle.std.proofs.Common.{sym, ap, subst, ◌∙◌, arith, length-take}
use Rattle.document.specs.Reading.{reading, routine_in}
use Rattle.document.specs.Desk.{order_lines, routine_lines, text_lines}
use Rattle.data.specs.declared.Read.{Read}
use Rattle.data.specs.Refusals.{Outcome}
use Rattle.std.specs.Prelude.{Ok, Err}
use Rattle.data.specs.declared.Refusal.{Refusal}
use Rattle.printer.specs.Fields.{refused_line}
use Rattle.roundtrip.proofs.TextTheorems.{text_whole}

-- what was read is n records or more
read_long : (text : List ℕ) → (reading text).outcome ≡ Ok tt → (reading text).listing.shape.n ≤ length (reading text).listing.wires
read_long text h =
    let l = (reading text).listing in
    let e : l.shape.n ≡ length (take l.shape.n l.wires) = ap (λ (r : Read). r.listing.shape.n) (text_whole text h) in
    omega (arith, length-take l.shape.n l.wires)

pub read_fits : (text : List ℕ) (got : Read) → got ≡ reading text → got.outcome ≡ Ok tt → got.listing.shape.n ≤ length got.listing.wires
read_fits text got e = subst (λ (r : Read). r.outcome ≡ Ok tt → r.listing.shape.n ≤ length r.listing.wires) (sym e) (read_long text)

pub done_lines : (got : Read) (m : ℕ) → got.outcome ≡ Ok tt → m ≡ min 4 (got.listing.shape.d - 1)
    → order_lines (routine_in got.listing) m 1 ≡ text_lines got.outcome got
unfolding text_lines routine_lines
done_lines got m h e = ap (λ (k : ℕ). order_lines (routine_in got.listing) k 1) e ∙ sym (ap (λ (o : Outcome). text_lines o got) h)

pub refused_lines : (got : Read) (f : Refusal) → got.outcome ≡ Err f → refused_line f got.line ≡ text_lines got.outcome got
unfolding text_lines
refused_lines got f h = sym (ap (λ (o : Outcome). text_lines o got) h)
