-- The lane that fails or the sum decides; a turn passes one lane.
use Rattle.std.proofs.Common.{◌∙◌, set, sym, ap, Bool, arith}
use Rattle.std.specs.Bool.{then_some}
use Rattle.state.proofs.Within.{is_within}
use Rattle.state.proofs.Turns.{passed_one, passed_fails, all_passed}
use Rattle.state.proofs.held_if_sound.Goals as goal

pub returns-then-not-is_fine : goal.returns-then-not-is_fine
returns-then-not-is_fine c =
    rw (passed_fails c.args.lanes.now c.loop-i.i _ _ c.loop-i.invariant (omega arith) (sym c.is_fine.ensures ∙ c.if-not-is_fine.true))

pub loop-i-preserved : goal.loop-i-preserved
loop-i-preserved c =
    let at = c.loop-i in
    passed_one c.args.lanes.now at.i at.held at.total at.invariant (omega arith) (omega arith) (sym c.is_fine.ensures ∙ c.if-not-is_fine.false) _
    c.need_of-total.ensures.value c.need_of-total.ensures.upper_bound _ (ap (set at.held at.i) c.blocks_of.ensures)

pub returns : goal.returns
returns c =
    let at = c.loop-i in
    let all = all_passed c.args.lanes.now at.i at.held at.total at.invariant (omega arith) (omega arith) in
    c.then_some.ensures ∙ rw (all.0, ← all.2) (ap (λ (b : Bool). then_some b at.held) (is_within _ _ all.1 _ c.does_fit.ensures))
