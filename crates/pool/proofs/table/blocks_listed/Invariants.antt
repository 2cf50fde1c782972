-- The table lists the blocks that were passed, from the highest down; `Listed` has the two turns.
use Rattle.std.proofs.Common.{◌≡◌, length}
use Rattle.marks.specs.Blocks.{blocks}
use Rattle.pool.proofs.Listed.{ListsFrom}
use Rattle.pool.proofs.table.blocks_listed.Given as goal

abbrev pub invariant-loop-block : goal.invariant-loop-block
invariant-loop-block l = (length l.table ≡ blocks) × ListsFrom l.lane l.block l.table l.marks
