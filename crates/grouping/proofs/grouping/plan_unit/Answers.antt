-- Each exit is the first test that holds.
use Rattle.std.proofs.Common.{le-ltb, lt-ltb}
use Rattle.grouping.specs.Plans.{unit_plan}
use Rattle.grouping.proofs.grouping.plan_unit.Goals as goal

pub returns-then-room-n : goal.returns-then-room-n
unfolding unit_plan
returns-then-room-n c = simp (lt-ltb _ _ c.if-room-n.true)

pub returns : goal.returns
unfolding unit_plan
returns c = simp (le-ltb _ _ c.if-room-n.false)
