-- What is left to grant gives the whole, and nothing is free before the block where the last search ended.
use Rattle.std.proofs.Common.{◌≡◌, ◌-◌, ◌≤◌, length}
use Rattle.marks.specs.Blocks.{blocks, free, mark, find, granted}
use Rattle.marks.proofs.grant_blocks.Given as goal

abbrev pub invariant-loop-mark : goal.invariant-loop-mark
invariant-loop-mark l = (length l.after ≡ blocks) × (l.block ≤ find l.after free) × (granted l.initial.after (mark l.lane l.from) l.n ≡ granted l.after l.mark (l.mark-end - l.mark))
