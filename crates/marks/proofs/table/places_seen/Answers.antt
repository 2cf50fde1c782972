-- A place adds 1 at most; `Seeing` has a turn and the end.
use Rattle.std.proofs.Common.{◌-◌, rules, arith}
use Rattle.marks.specs.Blocks.{mark}
use Rattle.marks.proofs.Seeing.{place_turn, adds_at_most, places_end}
use Rattle.marks.proofs.table.places_seen.Goals as goal

pub loop-at-preserved : goal.loop-at-preserved
loop-at-preserved c =
    let at = c.loop-at.at in
    let seen = c.args.seen.now in
    let here = c.each_place.ensures at c.loop-at-test.true in
    let few = adds_at_most seen _ _ at _ _ here c.seen_below-count.ensures c.requires.2 (search rules) in
    let turn = place_turn seen _ _ at _ _ here c.seen_below-count.ensures in
    (omega arith, omega arith)

pub returns : goal.returns
returns c =
    let none = places_end c.args.seen.now (mark c.args.lane c.loop-at.at) (c.args.n - c.loop-at.at) (search rules) in
    omega arith
