-- `growing::Question::inner_of` meets its contract. The loop's invariant: the count is that of the wires passed that are no outputs.
use Rattle.std.proofs.Common.{◌≡◌, ◌≤◌, take}
use Rattle.growing.specs.Growing.{inner_of}
use Rattle.growing.proofs.Question.inner_of.Given as goal

abbrev pub invariant-loop-w : goal.invariant-loop-w
invariant-loop-w l = record {
  few : l.inner ≤ l.w-index;
  counted : l.inner ≡ inner_of l.fn.self.listing.now.wires (take l.w-index l.w-items);
}
