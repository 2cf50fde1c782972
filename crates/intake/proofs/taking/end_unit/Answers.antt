-- The group and then the user data are one text put once (`Carried`).
use Rattle.grouping.specs.Steps.{lane_after}
use Rattle.intake.specs.After.{marks_after}
use Rattle.intake.proofs.Carried.{unit_out}
use Rattle.intake.proofs.taking.end_unit.Goals as goal

pub returns-clause-value : goal.returns-clause-value
unfolding lane_after
returns-clause-value c = c.count_in.ensures

pub returns-clause-marks_after : goal.returns-clause-marks_after
unfolding marks_after
returns-clause-marks_after c = c.release.ensures

pub returns-clause-out_after : goal.returns-clause-out_after
returns-clause-out_after c =
    let s = c.args in
    let put = c.put_group-at.ensures in
    unit_out s.marks.now _ _ _ _ _ s.user.now s.pool.now s.out.now c.requires _ put.value _ put.out_after _ c.put_octets.ensures
