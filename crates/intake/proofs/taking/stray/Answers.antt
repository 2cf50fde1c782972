-- The lane is counted and its marks are freed, as the definitions have it.
use Rattle.grouping.specs.Steps.{lane_after}
use Rattle.intake.specs.After.{marks_after}
use Rattle.intake.proofs.taking.stray.Goals as goal

pub returns-clause-value : goal.returns-clause-value
unfolding lane_after
returns-clause-value c = c.count_in.ensures

pub returns-clause-marks_after : goal.returns-clause-marks_after
unfolding marks_after
returns-clause-marks_after c = c.release.ensures
