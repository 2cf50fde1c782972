-- Each exit is the first test that holds; a cap of 8 bits is at most 255 blocks.
use Rattle.std.proofs.Common.{arith, le-ltb, lt-ltb}
use Rattle.marks.specs.Blocks.{blocks_for}
use Rattle.grouping.specs.Plans.{hold_plan}
use Rattle.grouping.proofs.grouping.plan_hold.Goals as goal

pub returns-then-s-blocks_for : goal.returns-then-s-blocks_for
unfolding hold_plan
returns-then-s-blocks_for c = simp (← c.blocks_for.ensures, lt-ltb _ _ c.if-s-blocks_for.true)

pub overflow_cast-result : goal.overflow_cast-result
unfolding blocks_for
overflow_cast-result c = omega (arith, c.blocks_for.ensures, c.if-s-blocks_for.false, c.well_formed)

pub returns : goal.returns
unfolding hold_plan
returns c = simp (← c.blocks_for.ensures, le-ltb _ _ c.if-s-blocks_for.false)
