-- Each step goes on with the chunk, and where none is left to take the chunk ends (`Chunks`).
use Rattle.std.proofs.Common.{sym, ◌∙◌}
use Rattle.replaying.specs.Run.{standing, next}
use Rattle.replaying.proofs.Steps.{stands, is_ready_lem, falls}
use Rattle.replaying.proofs.Chunks.{chunk_begins, chunk_goes_on, chunk_ends}
use Rattle.replaying.proofs.replay_some.Goals as goal

pub loop-pool-init : goal.loop-pool-init
loop-pool-init c = let a = c.args in chunk_begins a.run.now (standing a.progress a.pool.now a.out.now) a.text.now

pub loop-pool-smaller : goal.loop-pool-smaller
loop-pool-smaller c =
    let l = c.loop-pool in
    let s = c.args.run.now in
    let r = sym c.is_ready.ensures ∙ c.loop-pool-test.true in
    rw c.step-chunk.ensures.progress_value (falls s (standing l.chunk.progress l.pool l.out) (is_ready_lem _ _ _ _ r).0)

pub loop-pool-preserved : goal.loop-pool-preserved
loop-pool-preserved c =
    let l = c.loop-pool in
    let a = c.args in
    let p = c.step-chunk.ensures in
    let r = sym c.is_ready.ensures ∙ c.loop-pool-test.true in
    let w = standing l.chunk.progress l.pool l.out in
    chunk_goes_on a.run.now (standing a.progress a.pool.now a.out.now) a.text.now w l.text l.chunk.octets l.invariant r
    (stands (next a.run.now w) p.progress_value p.pool_after p.out_after) p.lined

pub returns-clause-value : goal.returns-clause-value
returns-clause-value c =
    let l = c.loop-pool in
    let a = c.args in
    let r = sym c.is_ready.ensures ∙ c.loop-pool-test.false in
    let w = standing l.chunk.progress l.pool l.out in
    (chunk_ends a.run.now (standing a.progress a.pool.now a.out.now) a.text.now w l.text l.chunk.octets l.invariant r).0

pub returns-clause-pool_after : goal.returns-clause-pool_after
returns-clause-pool_after c =
    let l = c.loop-pool in
    let a = c.args in
    let r = sym c.is_ready.ensures ∙ c.loop-pool-test.false in
    let w = standing l.chunk.progress l.pool l.out in
    (chunk_ends a.run.now (standing a.progress a.pool.now a.out.now) a.text.now w l.text l.chunk.octets l.invariant r).1.0

pub returns-clause-out_after : goal.returns-clause-out_after
returns-clause-out_after c =
    let l = c.loop-pool in
    let a = c.args in
    let r = sym c.is_ready.ensures ∙ c.loop-pool-test.false in
    let w = standing l.chunk.progress l.pool l.out in
    (chunk_ends a.run.now (standing a.progress a.pool.now a.out.now) a.text.now w l.text l.chunk.octets l.invariant r).1.1.0

pub returns-clause-text_after : goal.returns-clause-text_after
returns-clause-text_after c =
    let l = c.loop-pool in
    let a = c.args in
    let r = sym c.is_ready.ensures ∙ c.loop-pool-test.false in
    let w = standing l.chunk.progress l.pool l.out in
    (chunk_ends a.run.now (standing a.progress a.pool.now a.out.now) a.text.now w l.text l.chunk.octets l.invariant r).1.1.1.0
