-- Where the run stands is possible, and less and less of it is left.
use Rattle.std.proofs.Common.{length}
use Rattle.replaying.specs.Run.{standing}
use Rattle.replaying.proofs.Steps.{before}
use Rattle.replaying.proofs.Whole.{Possible}
use Rattle.replay.proofs.replay.Given as goal

abbrev pub invariant-loop-progress : goal.invariant-loop-progress
invariant-loop-progress g l = Possible l.run (standing l.progress l.pool l.out)

abbrev pub decreases-loop-progress : goal.decreases-loop-progress
decreases-loop-progress g l = before (length l.run) l.progress
