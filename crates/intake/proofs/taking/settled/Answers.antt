-- The ways out are those of `Settled`.
use Rattle.intake.proofs.Settled.{sure, taken, refused}
use Rattle.intake.proofs.taking.settled.Goals as goal

pub returns-in-Sure : goal.returns-in-Sure
returns-in-Sure c = sure _ _ _ _ c.in-Sure.is

pub returns-then-is_within : goal.returns-then-is_within
returns-then-is_within c = taken _ _ _ _ _ c.requires _ _ c.in-Ask.is _ c.with_group.ensures _ c.is_within.ensures c.if-is_within.true

pub returns-else-is_within : goal.returns-else-is_within
returns-else-is_within c = refused _ _ _ _ _ c.requires _ _ c.in-Ask.is _ c.with_group.ensures _ c.is_within.ensures c.if-is_within.false
