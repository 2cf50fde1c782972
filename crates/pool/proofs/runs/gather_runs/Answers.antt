-- A turn gathers one run, which is one part of the pool; `InBlocks` has it.
use Rattle.std.proofs.Common.{◌≡◌, ◌+◌, ◌*◌, ◌≤◌, ◌<◌, ℕ, refl, length, min, arith}
use Prim.Native.Nat.{zero-le}
use Rattle.octets.proofs.Puts.{nothing}
use Rattle.marks.specs.Blocks.{block_octets}
use Rattle.pool.specs.Octets.{gathered}
use Rattle.pool.proofs.InBlocks.{short, listed_place, inside, gather_turn, gathered_at_most}
use Rattle.pool.proofs.runs.gather_runs.Goals as goal

pub loop-place-init : goal.loop-place-init
unfolding gathered
loop-place-init c = let none : min 0 c.args.n ≡ 0 = omega arith in rw none (nothing _ 0)

pub overflow_add-at : goal.overflow_add-at
overflow_add-at c =
    let few : length c.part-text.result.now ≤ c.min.result = short _ _ _ c.part-text.ensures in
    omega (
      arith,
      gathered_at_most c.args.marks.now c.args.lane c.args.pool.now 0 (min (c.loop-place.place * block_octets) c.args.n),
      c.loop-place.invariant.0,
      c.min.ensures,
    )

pub loop-place-preserved : goal.loop-place-preserved
loop-place-preserved c =
    let loop = c.loop-place in
    let k : ℕ = loop.place * block_octets in
    let in-group : k < c.args.n = inside c.args.n loop.place _ c.blocks_for-place-end.ensures c.loop-place-test.true in
    let whole : min k c.args.n ≡ k = omega arith in
    let next : min ((loop.place + 1) * block_octets) c.args.n ≡ k + c.min.result = omega (arith, c.min.ensures) in
    let lists = rw c.blocks_for.ensures at c.blocks_of_lane-table.ensures in
    let there = listed_place c.args.marks.now c.args.lane c.blocks_of_lane-table.result 0 c.args.n k c.place_listed.result lists zero-le in-group c.place_listed.ensures in
    rw next (gather_turn _ _ c.args.pool.now c.args.out.now c.args.n k c.min.result loop.at _ _ loop.out c.part-text.result.now _ c.requires.0
    in-group (rw whole at loop.invariant) (omega (arith, c.min.ensures)) there c.part-text.ensures c.put_octets.ensures refl)
