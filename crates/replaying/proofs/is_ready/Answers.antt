-- The tests are those of the definition.
use Rattle.replaying.specs.Run.{ready}
use Rattle.replaying.proofs.is_ready.Goals as goal

pub returns : goal.returns
unfolding ready
returns c = c.is_ready.ensures
