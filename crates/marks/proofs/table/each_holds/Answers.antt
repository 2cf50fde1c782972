-- What was found of the lane that the loop is at decides the turn; `Looking` has the two turns and the end.
use Rattle.std.proofs.Common.{◌≡◌, ◌∙◌, get_or, ap, sym, rules, arith}
use Rattle.marks.specs.Matching.{holds}
use Rattle.marks.proofs.Looking.{each_at_most, lane_good, lane_bad, lanes_end}
use Rattle.marks.proofs.table.each_holds.Goals as goal

-- a lane holds no more than all of them
pub lane_holds-requires : goal.lane_holds-requires
lane_holds-requires c =
    (search rules, omega (arith, each_at_most c.args.held.now c.loop-lane.lane, c.from.ensures, c.requires.0), search rules)

pub loop-lane-preserved : goal.loop-lane-preserved
loop-lane-preserved c =
    let lane = c.loop-lane.lane in
    λ marks is.
    let told : holds marks lane (get_or c.args.held.now lane 0) ≡ c.lane_holds.result = sym (c.lane_holds.ensures marks is ∙ ap (holds marks lane) c.from.ensures) in
    c.loop-lane.invariant marks is ∙ lane_good marks c.args.held.now lane (search rules) (told ∙ c.if-not-lane_holds.false)

pub returns-then-not-lane_holds : goal.returns-then-not-lane_holds
returns-then-not-lane_holds c =
    let lane = c.loop-lane.lane in
    λ marks is.
    let told : holds marks lane (get_or c.args.held.now lane 0) ≡ c.lane_holds.result = sym (c.lane_holds.ensures marks is ∙ ap (holds marks lane) c.from.ensures) in
    sym (c.loop-lane.invariant marks is ∙ lane_bad marks c.args.held.now lane (search rules) (told ∙ c.if-not-lane_holds.true))

pub returns : goal.returns
returns c = λ marks is. sym (c.loop-lane.invariant marks is ∙ lanes_end marks c.args.held.now c.loop-lane.lane (search rules))
