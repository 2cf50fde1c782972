-- The octets that are gathered so far stand at the front; `InBlocks` has the turn.
use Rattle.std.proofs.Common.{◌*◌, min}
use Rattle.marks.specs.Blocks.{block_octets}
use Rattle.octets.proofs.Puts.{Wrote}
use Rattle.pool.specs.Octets.{gathered}
use Rattle.pool.proofs.runs.gather_runs.Given as goal

abbrev pub invariant-loop-place : goal.invariant-loop-place
invariant-loop-place l = Wrote l.fn.out 0 (gathered l.marks l.lane l.pool 0 (min (l.place * block_octets) l.n)) l.out l.at
