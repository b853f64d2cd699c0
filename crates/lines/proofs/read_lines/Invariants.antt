-- `lines::read_lines` meets its contract: what is left of the text, read from the state so far, gives the answer of the whole.
use mathlib.Core.Path.{◌≡◌}
use Prim.Native.Nat.{◌≤◌, ◌+◌}
use lib.ListN.{length}
use Rattle.document.specs.Lines.{lines_in}
use Rattle.document.specs.Reading.{read_lines}
use Rattle.state.specs.Ceilings.{UnderCeilings}
use Rattle.lines.proofs.read_lines.Given as goal

abbrev pub invariant-loop-bytes : goal.invariant-loop-bytes
invariant-loop-bytes l =
    record {
      counted : l.k + length l.rest ≤ length l.fn.text + 2;
      bounded : UnderCeilings l.st;
      rest_is_left : read_lines l.k l.st (lines_in l.rest) ≡ read_lines 2 l.fn.start (lines_in l.fn.text);
    }

abbrev pub decreases-loop-bytes : goal.decreases-loop-bytes
decreases-loop-bytes l = length l.rest
