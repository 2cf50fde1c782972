-- Each chunk leads on, by the law `leads`, as it has room for a step; so the loop ends.
use Rattle.std.proofs.Common.{length, ◌≤◌}
use mathlib.Core.Path.{ap}
use native.Mathlib.Omega.{arith}
use borrow.Author.Tests.{not-true}
use Rattle.telling.specs.Lines.{line_room}
use Rattle.replaying.specs.Run.{standing}
use Rattle.replaying.specs.declared.Chunk.{Chunk}
use Rattle.replaying.proofs.Whole.{stays_possible, leads}
use Rattle.replay.proofs.replay.Goals as goal

pub loop-progress-smaller : goal.loop-progress-smaller
loop-progress-smaller g c =
    let l = c.loop-progress in
    let room : line_room ≤ length l.text = omega (arith, c.requires, l.auto.text) in
    rw (ap (λ (x : Chunk). x.progress) c.replay_some-chunk.ensures.value)
    (leads c.args.run.now (length l.text) (standing l.progress l.pool l.out) l.invariant (not-true _ c.loop-progress-test.true) room)

pub loop-progress-preserved : goal.loop-progress-preserved
loop-progress-preserved g c =
    let l = c.loop-progress in
    rw (ap (λ (x : Chunk). x.progress) c.replay_some-chunk.ensures.value)
    (stays_possible c.args.run.now (length l.text) (standing l.progress l.pool l.out) l.invariant)
