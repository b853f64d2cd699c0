-- The counts and the consumers below u make all consumers.
use Rattle.consumers.specs.Consumers.{Consumers}
use Rattle.consumers.proofs.consumer_counts.Given as goal

abbrev pub invariant-loop-u : goal.invariant-loop-u
invariant-loop-u l = Consumers l.fn.wires.list.now l.leaf l.alive l.u l.counts
