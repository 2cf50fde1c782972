-- A turn adds what one lane counts for; at the end none is left.
use Rattle.std.proofs.Common.{rules, arith}
use Rattle.state.proofs.Turns.{total_end, total_goes}
use Rattle.state.proofs.total_of.Goals as goal

pub loop-l-preserved : goal.loop-l-preserved
loop-l-preserved c = (
  omega (arith, c.loop-l.invariant.0, c.need_of-sum.ensures.upper_bound),
  omega (arith, c.loop-l.invariant.1, c.need_of-sum.ensures.value, total_goes c.args.lanes.now c.loop-l.l-index (search rules)),
)

pub returns : goal.returns
returns c =
    let none = total_end c.args.lanes.now c.loop-l.l-index (search rules) in
    (omega (arith, c.loop-l.invariant.1), omega (arith, c.loop-l.invariant.0))
