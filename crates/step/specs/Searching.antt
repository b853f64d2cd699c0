-- What a search finds, by the marks and the counts that it holds.
use Rattle.std.specs.Prelude.{Bool, ℕ}
use Rattle.std.proofs.Math.Option.{Option}
use Rattle.document.specs.Padding.{pads_by, lowest_pad}
use Rattle.data.specs.declared.Step.{Step}
use Rattle.marks.specs.Passes.{only_wires}
use Rattle.step.specs.Next.{serves_by, pad_at}
use Rattle.step.specs.declared.Search.{Search}

-- r serves
abbrev pub serves_in : Search → ℕ → Bool
serves_in s = serves_by s.probe.now s.leaf.now s.counts.now

-- the step of wire w
abbrev pub pad_in : Search → ℕ → Option Step
pad_in s = pad_at s.wires.list.now s.probe.now s.leaf.now s.alive.now s.counts.now

-- the rule's step of the lowest wire that has one, among m wires from w on
abbrev pub lowest_in : Search → ℕ → ℕ → Option Step
lowest_in s = let R = only_wires s.wires.list.now in lowest_pad R (pads_by R s.probe.now s.leaf.now s.alive.now)
