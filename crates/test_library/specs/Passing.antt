-- What the example answers, by the definitions alone, and what it is worth; of a refused text the listing is no routine, and its judgement is refused too.
use Rattle.std.specs.Prelude.{◌≡◌, Bool, true, List, ℕ}
use Rattle.document.specs.Reading.{reading, routine_in}
use Rattle.document.specs.Judgements.{plain, told}
use Rattle.document.specs.Lent.{lent_judged}
use Rattle.document.specs.Worth.{KeepsSecrets}
use Rattle.document.proofs.Theorems.{lent_pass_keeps}
use Rattle.document.proofs.RefusalTheorems.{told_pass}
use Rattle.data.specs.declared.Read.{Read}

abbrev pub passes_read : Read → Bool
passes_read r = (told (lent_judged plain r.listing.shape r.listing.wires 2).verdict).passes

abbrev pub passes_plain2 : List ℕ → Bool
passes_plain2 text = passes_read (reading text)

-- 9.25: where it says yes, no set of at most two wires of the routine shows anything of the secrets
pub passes_keeps : (text : List ℕ) → passes_plain2 text ≡ true → KeepsSecrets (routine_in (reading text).listing) 2
passes_keeps text h =
    let l = (reading text).listing in
    (lent_pass_keeps l.shape l.wires 2 _ (told_pass (lent_judged plain l.shape l.wires 2).verdict h)).1.keeps
