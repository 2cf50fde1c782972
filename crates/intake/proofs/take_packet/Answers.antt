-- A packet that is refused leaves all as it was; any other's step is ready to be carried out, and what it leaves, stored in its place, is the promise
-- (`Given`).
use Rattle.std.proofs.Common.{◌≡◌, Ok, refl, sym, ap, ◌∙◌, arith}
use Rattle.state.specs.State.{lane_at}
use Rattle.intake.specs.After.{with_lane}
use Rattle.intake.proofs.Given.{ready_step, as_promised, refused_so, answer_told, no_such_lane, nothing_stored}
use Rattle.intake.proofs.take_packet.Goals as goal
use Rattle.intake.proofs.take_packet.Goals.{then-lane-count, else-lane-count, then-lane-count-2, else-lane-count-2}

pub returns-in-Err : goal.returns-in-Err
returns-in-Err c =
    let s = c.args in
    let w = refused_so s.s s.lane s.octets.now s.pool.now s.out.now _ (sym c.in-Err.is ∙ c.step_of.ensures) in
    record { answer_value = answer_told s.s s.lane s.octets.now _ _ _ w.0; value = w.0; pool_after = w.1; out_after = w.2 }

pub carry_out-next-requires : goal.carry_out-next-requires
carry_out-next-requires c =
    let s = c.args in
    let eight = c.count_of-count.ensures in
    let own : c.if-lane-count.l ≡ lane_at s.s s.lane = elim c.if-lane-count.branch [
      | then-lane-count w ↦ w.l-is
      | else-lane-count w ↦ w.l-is ∙ no_such_lane s.s eight.1 s.lane (omega (arith, eight.0, w.if-lane-count.false))
    ] in
    ready_step s.s eight.1 s.lane s.octets.now _ _ _ own _ (sym c.in-Ok.is ∙ c.step_of.ensures) _ c.user_part-user.ensures

pub returns : goal.returns
returns c =
    let s = c.args in
    let eight = c.count_of-count.ensures in
    let own : c.if-lane-count.l ≡ lane_at s.s s.lane = elim c.if-lane-count.branch [
      | then-lane-count w ↦ w.l-is
      | else-lane-count w ↦ w.l-is ∙ no_such_lane s.s eight.1 s.lane (omega (arith, eight.0, w.if-lane-count.false))
    ] in
    let e = c.carry_out-next.ensures in
    let t : c.if-lane-count-2.after ≡ with_lane s.s s.lane c.carry_out-next.result c.carry_out-next.new.marks = elim c.if-lane-count-2.branch [
      | then-lane-count-2 w ↦ w.after-is
      | else-lane-count-2 w ↦ w.after-is ∙ nothing_stored s.s eight.1 s.lane (omega (arith, eight.0, w.if-lane-count-2.false)) _ _
    ] in
    let w =
    as_promised s.s eight.1 s.lane s.octets.now _ _ _ own _ (sym c.in-Ok.is ∙ c.step_of.ensures) _ c.user_part-user.ensures s.pool.now s.out.now refl refl
    _ _ _ _ (e.value, e.marks_after, e.pool_after, e.out_after) _ (ap Ok c.from.ensures) _ t in
    record { answer_value = answer_told s.s s.lane s.octets.now _ _ _ w.0; value = w.0; pool_after = w.1; out_after = w.2 }
