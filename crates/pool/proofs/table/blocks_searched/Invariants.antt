-- The places that were searched for are in the table.
use Rattle.std.proofs.Common.{◌≡◌, length}
use Rattle.marks.specs.Blocks.{blocks}
use Rattle.pool.specs.Lookup.{ListsLane}
use Rattle.pool.proofs.table.blocks_searched.Given as goal

abbrev pub invariant-loop-place : goal.invariant-loop-place
invariant-loop-place l = (length l.table ≡ blocks) × ListsLane l.lane l.from l.place l.table l.marks
