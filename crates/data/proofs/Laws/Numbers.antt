-- The numbers of the refusals: 1 to 16 in the order of their table, and no two the same.
use Rattle.std.specs.Prelude.{◌≡◌, refl, List, [], ◌∷◌, map, ℕ, ◌-◌, get_or}
use Rattle.std.proofs.Common.{sym, ap, ◌∙◌}
use Rattle.data.specs.Basics.{up_to}
use Rattle.data.specs.Refusals.{number_of}
use Rattle.data.specs.declared.Refusal.{Refusal}
use Rattle.data.specs.declared.Refusal.TheVariants as R

-- the refusals as their table has them
abbrev pub table : List Refusal
table = R.Length ∷ R.Byte ∷ R.Header ∷ R.Range ∷ R.Form ∷ R.Next ∷ R.Operand ∷ R.Ceiling ∷ R.Output ∷ R.Lent ∷ R.Records
    ∷ R.Order ∷ R.Probes ∷ R.Bits ∷ R.Buffer ∷ R.Steps ∷ []

-- 7.1 to 7.16: they are numbered from 1 on
pub numbers_are : map number_of table ≡ up_to 16 1
unfolding up_to
numbers_are = refl

-- each stands in the table, at its number
at_number : (f : Refusal) → get_or table (number_of f - 1) R.Length ≡ f
at_number R.Length = refl
at_number R.Byte = refl
at_number R.Header = refl
at_number R.Range = refl
at_number R.Form = refl
at_number R.Next = refl
at_number R.Operand = refl
at_number R.Ceiling = refl
at_number R.Output = refl
at_number R.Lent = refl
at_number R.Records = refl
at_number R.Order = refl
at_number R.Probes = refl
at_number R.Bits = refl
at_number R.Buffer = refl
at_number R.Steps = refl

-- so a number tells its refusal
pub numbers_differ : (f g : Refusal) → number_of f ≡ number_of g → f ≡ g
numbers_differ f g e = sym (at_number f) ∙ ap (λ (k : ℕ). get_or table (k - 1) R.Length) e ∙ at_number g
