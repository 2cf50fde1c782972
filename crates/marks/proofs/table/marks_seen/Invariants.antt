-- The marks of the blocks that were passed are seen; `Seeing` has the turn.
use Rattle.std.proofs.Common.{◌≡◌, ◌+◌, length}
use Rattle.marks.specs.Blocks.{free}
use Rattle.marks.specs.Seen.{Seen}
use Rattle.marks.proofs.table.marks_seen.Given as goal

abbrev pub invariant-loop-mark : goal.invariant-loop-mark
invariant-loop-mark l = (length l.seen ≡ free + 1) × Seen l.mark-index l.seen l.marks
