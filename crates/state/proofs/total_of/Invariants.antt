-- The sum so far and that of the lanes that are left are the total.
use Rattle.std.proofs.Common.{◌≡◌, ◌+◌, ◌*◌, ◌≤◌, drop}
use Rattle.state.specs.State.{total}
use Rattle.state.proofs.total_of.Given as goal

abbrev pub invariant-loop-l : goal.invariant-loop-l
invariant-loop-l l = (l.sum ≤ l.l-index * 256) × (total l.lanes ≡ l.sum + total (drop l.l-index l.lanes))
