-- The front of the output goes to the intake, and the rest stays: the law `closing_done`.
use Rattle.replaying.proofs.Front.{closing_done}
use Rattle.replaying.proofs.calls.run_closing.Goals as goal

pub returns-clause-value : goal.returns-clause-value
returns-clause-value c =
    let a = c.args in
    let told = c.close_lane-changed.ensures in
    (closing_done a.state a.lane a.space a.s.now a.pool.now a.out.now c.min-room.result c.min-room.ensures told.value told.out_after).0

pub returns-clause-out_after : goal.returns-clause-out_after
returns-clause-out_after c =
    let a = c.args in
    let told = c.close_lane-changed.ensures in
    (closing_done a.state a.lane a.space a.s.now a.pool.now a.out.now c.min-room.result c.min-room.ensures told.value told.out_after).1
