-- The tests are the definition's.
use Rattle.std.proofs.Common.{refl}
use Rattle.grouping.specs.Grouping.{repeats}
use Rattle.grouping.proofs.grouping.is_repeat.Goals as goal

pub returns : goal.returns
unfolding repeats
returns c = refl
