-- The text is the front of the chunk, and what is left of it is made from here.
use Rattle.std.proofs.Common.{length}
use Rattle.replaying.specs.Run.{standing}
use Rattle.replaying.proofs.Steps.{before}
use Rattle.replaying.proofs.Chunks.{Chunking}
use Rattle.replaying.proofs.replay_some.Given as goal

abbrev pub invariant-loop-pool : goal.invariant-loop-pool
invariant-loop-pool l =
    Chunking l.run (standing l.fn.progress l.initial.pool l.initial.out) l.initial.text (standing l.chunk.progress l.pool l.out) l.text l.chunk.octets

abbrev pub decreases-loop-pool : goal.decreases-loop-pool
decreases-loop-pool l = before (length l.run) l.chunk.progress
