-- The octets that are left, stored after those that are done, give the whole; `InBlocks` has the turn.
use Rattle.std.proofs.Common.{◌≡◌, ◌+◌, ◌≤◌, length}
use Rattle.pool.specs.Octets.{pool_octets, stored}
use Rattle.pool.proofs.runs.store_runs.Given as goal

abbrev pub invariant-loop-left : goal.invariant-loop-left
invariant-loop-left l = (l.from ≤ l.k) × (l.k + length l.left ≡ l.from + length l.octets) × (length l.pool ≡ pool_octets) × (stored l.marks l.lane l.fn.pool l.from l.octets ≡ stored l.marks l.lane l.pool l.k l.left)

abbrev pub decreases-loop-left : goal.decreases-loop-left
decreases-loop-left l = length l.left
