-- A group of so few octets has at most 64 blocks, and those that it has are among those that it needs.
use Rattle.std.proofs.Common.{arith}
use Rattle.marks.specs.Blocks.{blocks_for}
use Rattle.intake.specs.After.{grown}
use Rattle.intake.proofs.taking.grow.Goals as goal

pub overflow_cast-have : goal.overflow_cast-have
unfolding blocks_for
overflow_cast-have c = let h = simp c.if-joins.true at c.requires.2 in omega (arith, h, c.requires, c.blocks_for-have.ensures)

pub overflow_sub-need : goal.overflow_sub-need
unfolding blocks_for
overflow_sub-need c = let h = simp c.if-joins.true at c.requires.2 in omega (arith, h, c.blocks_for-have.ensures, c.blocks_for-need.ensures)

pub overflow_cast-need : goal.overflow_cast-need
unfolding blocks_for
overflow_cast-need c = omega (arith, c.requires, c.blocks_for-need.ensures)

pub overflow_cast-need-else-joins : goal.overflow_cast-need-else-joins
unfolding blocks_for
overflow_cast-need-else-joins c = omega (arith, c.requires, c.blocks_for-need.ensures)

pub returns-then-joins : goal.returns-then-joins
unfolding grown
returns-then-joins c = simp c.if-joins.true (rw (← c.blocks_for-have.ensures, ← c.blocks_for-need.ensures) c.grant_blocks.ensures)

pub returns-else-joins : goal.returns-else-joins
unfolding grown
returns-else-joins c = simp c.if-joins.false (rw (← c.release.ensures, ← c.blocks_for-need.ensures) c.grant_blocks-else-joins.ensures)
