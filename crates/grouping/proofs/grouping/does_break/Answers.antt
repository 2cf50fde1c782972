-- The tests are the definition's.
use Rattle.std.proofs.Common.{refl}
use Rattle.grouping.specs.Grouping.{breaks}
use Rattle.grouping.proofs.grouping.does_break.Goals as goal

pub returns : goal.returns
unfolding breaks
returns c = refl
