-- The lane's part of the sum is exchanged (`Within`); past the last lane nothing is set.
use Rattle.std.proofs.Common.{◌∙◌, ap}
use Rattle.lane.specs.Lane.{closed, need}
use Rattle.state.proofs.Within.{part_of, exchanged, none_set}
use Rattle.state.proofs.is_within.Goals as goal

pub overflow_sub-sum : goal.overflow_sub-sum
overflow_sub-sum c =
    let there = c.in-Some.ensures.lookup.3 in
    part_of c.args.lanes c.args.i c.args.l _ c.total_of-sum.ensures.0 there.0 _ (c.need_of.ensures.value ∙ ap need (there.1 closed))

pub returns-in-Some : goal.returns-in-Some
returns-in-Some c =
    let there = c.in-Some.ensures.lookup.3 in
    exchanged c.args.lanes c.args.i c.args.l _ c.total_of-sum.ensures.0 there.0 _ (c.need_of.ensures.value ∙ ap need (there.1 closed)) _
    c.need_of-in-Some.ensures.value _ c.does_fit.ensures

pub returns-in-None : goal.returns-in-None
returns-in-None c = none_set _ _ _ _ c.total_of-sum.ensures.0 c.in-None.ensures.lookup.3 _ c.does_fit-in-None.ensures
