-- The marks grow and the octets are stored after those of the group (`Carried`).
use Rattle.grouping.specs.Steps.{lane_after}
use Rattle.intake.specs.After.{marks_after}
use Rattle.intake.proofs.Carried.{held_pool}
use Rattle.intake.proofs.taking.hold.Goals as goal

pub returns-clause-value : goal.returns-clause-value
unfolding lane_after
returns-clause-value c = c.count_in.ensures

pub returns-clause-marks_after : goal.returns-clause-marks_after
unfolding marks_after
returns-clause-marks_after c = c.grow.ensures

pub returns-clause-pool_after : goal.returns-clause-pool_after
returns-clause-pool_after c =
    held_pool c.args.marks.now _ _ _ _ _ c.args.user.now c.args.pool.now c.requires _ c.grow.ensures _ c.start_of.ensures _ c.store_octets.ensures
