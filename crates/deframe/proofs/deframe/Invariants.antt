-- There is room for a step's text, where the file stands is possible, and less and less of it is left.
use Rattle.std.proofs.Common.{length, ◌+◌, ◌≤◌}
use Rattle.telling.specs.Lines.{line_room}
use Rattle.deframing.specs.Run.{standing}
use Rattle.deframing.proofs.Whole.{Possible, before}
use Rattle.deframe.proofs.deframe.Given as goal

abbrev pub invariant-loop-progress : goal.invariant-loop-progress
invariant-loop-progress g l = (l.to + line_room ≤ length l.text) × Possible l.file (standing l.progress l.piece l.out)

abbrev pub decreases-loop-progress : goal.decreases-loop-progress
decreases-loop-progress g l = before (length l.file) l.progress
