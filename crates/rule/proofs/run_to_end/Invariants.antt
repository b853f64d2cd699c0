-- The steps still to come lead to the end of the whole run.
use Rattle.std.specs.Prelude.{◌≡◌, ◌-◌, length}
use Rattle.marks.specs.Passes.{only_wires}
use Rattle.rule.specs.Run.{gone_on, run_of}
use Rattle.rule.proofs.run_to_end.Given as goal

abbrev pub invariant-loop : goal.invariant-loop
invariant-loop l = let R = only_wires l.wires.list.now in
    (l.run.len ≡ l.counter) × (gone_on R l.probe (length R.wires - l.counter) l.run ≡ run_of R l.probe)
