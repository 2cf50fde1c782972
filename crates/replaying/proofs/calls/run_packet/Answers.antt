-- The front of the output goes to the intake, and the rest stays: the law `taking_done`.
use Rattle.replaying.proofs.Front.{taking_done}
use Rattle.replaying.proofs.calls.run_packet.Goals as goal

pub returns-clause-value : goal.returns-clause-value
returns-clause-value c =
    let a = c.args in
    let told = c.take_packet-answered.ensures in
    (taking_done a.state a.lane a.space a.s.now a.pool.now a.out.now c.min-room.result c.min-room.ensures a.octets told.value told.pool_after told.out_after).0

pub returns-clause-pool_after : goal.returns-clause-pool_after
returns-clause-pool_after c =
    let a = c.args in
    let told = c.take_packet-answered.ensures in
    (taking_done a.state a.lane a.space a.s.now a.pool.now a.out.now c.min-room.result c.min-room.ensures a.octets told.value told.pool_after told.out_after).1.0

pub returns-clause-out_after : goal.returns-clause-out_after
returns-clause-out_after c =
    let a = c.args in
    let told = c.take_packet-answered.ensures in
    (taking_done a.state a.lane a.space a.s.now a.pool.now a.out.now c.min-room.result c.min-room.ensures a.octets told.value told.pool_after told.out_after).1.1
