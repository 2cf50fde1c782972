-- The invariant is `Going`: the walk over all octets is the walk over those that are left.
use Rattle.std.proofs.Common.{length, ◌-◌}
use Rattle.walk.proofs.Going.{Going}
use Rattle.walk.proofs.walk.Given as goal

abbrev pub invariant-loop-at : goal.invariant-loop-at
invariant-loop-at l = Going l.s l.at l.packets

abbrev pub decreases-loop-at : goal.decreases-loop-at
decreases-loop-at l = length l.s - l.at
