-- The places passed and the rank among those left make the rank.
use Rattle.std.proofs.Common.{◌≡◌, ◌+◌, drop}
use Rattle.data.specs.Placing.{rank}
use Rattle.data.proofs.rank_of.Given as goal

abbrev pub invariant-loop-i : goal.invariant-loop-i
invariant-loop-i l = l.i + rank l.w (drop l.i l.held) ≡ rank l.w l.held
