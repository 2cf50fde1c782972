-- A turn stores one run, which is one part of the pool; `InBlocks` has it.
use Rattle.std.proofs.Common.{◌+◌, ◌/◌, ◌<◌, ◌∙◌, sym, length, arith}
use borrow.Author.Tests.{eqb-true, eqb-false}
use Rattle.marks.specs.Blocks.{block_octets}
use Rattle.pool.proofs.InBlocks.{listed_place, store_turn, turn_length, store_ends}
use Rattle.pool.proofs.runs.store_runs.Goals as goal

pub loop-left-preserved : goal.loop-left-preserved
loop-left-preserved c =
    let loop = c.loop-left in
    let left = loop.left.now in
    let not-none = eqb-false (length left) 0 (sym c.is_empty.ensures ∙ c.loop-left-test.true) in
    let some : 0 < length left = omega (arith, not-none) in
    let lists = rw c.blocks_for.ensures at c.blocks_of_lane-table.ensures in
    let there = listed_place c.args.marks.now c.args.lane c.blocks_of_lane-table.result (c.args.from / block_octets) (c.args.from + length c.args.octets.now)
    loop.k c.place_listed.result lists (omega arith) (omega arith) c.place_listed.ensures in
    let put = rw c.split_at.ensures.front at c.put_octets.ensures in (
      omega arith,
      omega (arith, c.split_at.ensures.front_len, c.split_at.ensures.back_len),
      turn_length _ _ loop.pool loop.k c.min.result _ left _ loop.invariant.2 some c.min.ensures there put,
      loop.invariant.3 ∙ rw (c.split_at.ensures.front, c.split_at.ensures.back) (store_turn _ _ loop.pool loop.k c.min.result _ left _ loop.invariant.2 some c.min.ensures there put),
    )

pub returns : goal.returns
returns c =
    sym (c.loop-left.invariant.3 ∙ store_ends _ _ c.loop-left.pool _ c.loop-left.left.now (eqb-true _ _ (sym c.is_empty.ensures ∙ c.loop-left-test.false)))
