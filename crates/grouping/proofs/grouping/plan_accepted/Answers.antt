-- Each exit is the first test that holds.
use Rattle.std.proofs.Common.{le-leb}
use borrow.Author.Tests.{lt-leb}
use Rattle.grouping.specs.Plans.{accepted_plan}
use Rattle.grouping.proofs.grouping.plan_accepted.Goals as goal

pub returns-then-is_repeat : goal.returns-then-is_repeat
unfolding accepted_plan
returns-then-is_repeat c = simp (← c.is_repeat.ensures, c.if-is_repeat.true)

pub returns-then-l-ge-MOST_PACKETS : goal.returns-then-l-ge-MOST_PACKETS
unfolding accepted_plan
returns-then-l-ge-MOST_PACKETS c = simp (← c.is_repeat.ensures, c.if-is_repeat.false, le-leb _ _ c.if-l-ge-MOST_PACKETS.true)

pub returns : goal.returns
unfolding accepted_plan
returns c = simp (← c.is_repeat.ensures, c.if-is_repeat.false, lt-leb _ _ c.if-l-ge-MOST_PACKETS.false) c.plan_grouping.ensures
