-- Both ways the definition computes.
use Rattle.intake.specs.After.{released_from}
use Rattle.intake.proofs.closing.release.Goals as goal

pub returns-then-own : goal.returns-then-own
unfolding released_from
returns-then-own c = simp c.if-own.true c.free_blocks.ensures

pub returns-else-own : goal.returns-else-own
unfolding released_from
returns-else-own c = simp c.if-own.false
