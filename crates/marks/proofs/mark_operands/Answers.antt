-- `marks::mark_operands` meets its contract. Each arm marks what the definition names.
use Rattle.std.proofs.Common.{rules, refl, inl, inr}
use Rattle.document.specs.Routine.{operands_of}
use Rattle.data.specs.Basics.{mark}
use Rattle.marks.proofs.mark_operands.Goals as goal

pub returns-in-Xor : goal.returns-in-Xor
unfolding operands_of mark
returns-in-Xor c = rw (c.from.ensures, c.from-in-Xor.ensures) (elim c.in-Xor.is [ inl e ↦ rw e refl | inr e ↦ rw e refl ])

pub returns-in-Not : goal.returns-in-Not
unfolding operands_of mark
returns-in-Not c = search rules

pub returns-in_default : goal.returns-in_default
unfolding operands_of mark
returns-in_default c = search rules
