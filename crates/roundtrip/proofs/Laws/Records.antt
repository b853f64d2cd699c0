-- S, D, n and records that pass the test of 11 are exactly those that a read could have given.
use Rattle.std.specs.Prelude.{◌≡◌, true, List, ℕ, ◌-◌, ◌≤◌, leb, length, take, replicate}
use Rattle.std.proofs.Common.{ap, subst, ◌∙◌, arith, length-take, length-take-le, take_at, leb-true, le-leb}
use Rattle.data.specs.declared.Wire.{Wire}
use Rattle.data.specs.declared.Read.{Read}
use Rattle.data.specs.declared.Shape.{Shape}
use Rattle.data.proofs.Laws.Tests.{and_i, and_l, and_r}
use Rattle.document.specs.Routine.{Routine, size, blank, well_formed, routine_of, records_fit}
use Rattle.document.specs.Reading.{reading, routine_in, CouldBeRead}
use Rattle.document.specs.Writing.{text_of}
use Rattle.roundtrip.proofs.Laws.Formed.{formed, well}
use Rattle.roundtrip.proofs.Laws.Read.{read_formed, read_whole}
use Rattle.roundtrip.proofs.Laws.Written.{written_read}

pub fit→read : (σ : Shape) (ws : List Wire) → records_fit σ ws ≡ true → CouldBeRead σ ws
unfolding records_fit
fit→read σ ws h =
    let n = σ.n in
    let R = routine_of σ ws in
    let l = leb-true n (length ws) (and_l (leb n (length ws)) (well_formed R) h) in
    let long : size R ≡ n = length-take-le n ws l in
    let e = written_read R (formed R (and_r (leb n (length ws)) (well_formed R) h)) in
    record {
      text = text_of R;
      is_read = ap (λ (r : Read). r.outcome) e;
      sizes = ap (λ (r : Read). r.listing.shape) e ∙ ap (λ (m : ℕ). record { s = σ.s; d = σ.d; n = m }) long;
      first = ap (λ (r : Read). take n r.listing.wires) e ∙ take_at (take n ws) (replicate (128 - size R) blank) n long;
    }

pub read→fit : (σ : Shape) (ws : List Wire) → CouldBeRead σ ws → records_fit σ ws ≡ true
unfolding records_fit
read→fit σ ws c =
    let n = σ.n in
    let l = (reading c.text).listing in
    let R = routine_of σ ws in
    let same : routine_in l ≡ R =
    ap (λ (τ : Shape). routine_of τ l.wires) c.sizes ∙ ap (λ (vs : List Wire). record { S = σ.s; D = σ.d; wires = vs }) c.first in
    let whole = ap (λ (q : Read). q.listing.shape.n) (read_whole c.text c.is_read) ∙ ap size same in
    let n_is = ap (λ (τ : Shape). τ.n) c.sizes in
    let long : n ≤ length ws = omega (arith, length-take n ws) in
    and_i (leb n (length ws)) (well_formed R) (le-leb n (length ws) long)
    (subst (λ (Q : Routine). well_formed Q ≡ true) same (well (routine_in l) (read_formed c.text c.is_read)))
