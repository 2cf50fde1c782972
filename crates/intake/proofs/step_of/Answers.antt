-- 24, or what the plan is settled to (`Given`).
use Rattle.std.proofs.lemmas.Result.{err_from_is_err_and}
use Rattle.intake.proofs.Given.{refused_24, refused_plan, settled_step}
use Rattle.intake.proofs.step_of.Goals as goal

pub returns-then-is_unsound : goal.returns-then-is_unsound
returns-then-is_unsound c =
    let s = c.args in
    refused_24 s.s s.lane s.octets.now s.size s.room _ c.requires _ c.is_unsound.ensures c.if-is_unsound.true

pub returns-in_err-plan : goal.returns-in_err-plan
returns-in_err-plan c =
    let s = c.args in
    let p = err_from_is_err_and c.from_residual.result c.from_residual.ensures.1 in
    rw (p.1, p.2)
    (refused_plan s.s s.lane s.octets.now s.size s.room _ c.requires _ c.is_unsound.ensures c.if-is_unsound.false _ c.plan_packet.ensures _ c.in_err-plan.was)

pub returns : goal.returns
returns c =
    let s = c.args in
    settled_step s.s s.lane s.octets.now s.size s.room _ c.requires _ c.is_unsound.ensures c.if-is_unsound.false _ c.plan_packet.ensures _ c.in_ok-plan.was
    _ c.settled.ensures
