-- The ways out are those of `Closed`; a lane of a sound state is fine, so its credit fits.
use Rattle.std.proofs.Common.{sym, ◌∙◌}
use Rattle.std.proofs.lemmas.Result.{err_from_is_err_and}
use Rattle.state.proofs.Soundness.{then_sound, lane_fine}
use Rattle.intake.proofs.Closed.{not_sound, not_open, refuses, closes}
use Rattle.intake.proofs.after_closing.Goals as goal

pub returns-then-is_unsound : goal.returns-then-is_unsound
returns-then-is_unsound c =
    let w = not_sound c.args.s c.args.lane _ c.args.out.now _ c.is_unsound.ensures c.if-is_unsound.true in
    record { value = w.0; out_after = w.1 }

pub returns-then-not-l : goal.returns-then-not-l
returns-then-not-l c =
    let w = not_open c.args.s c.args.lane _ c.args.out.now _ c.is_unsound.ensures c.if-is_unsound.false _ c.lane_at-l.ensures.value c.if-not-l.true in
    record { value = w.0; out_after = w.1 }

pub credit_of-requires : goal.credit_of-requires
credit_of-requires c =
    rw c.lane_at-l.ensures.value (lane_fine c.args.s (then_sound _ _ (sym c.is_unsound.ensures ∙ c.if-is_unsound.false)).0 c.args.lane)

pub returns-in_err-write_record : goal.returns-in_err-write_record
returns-in_err-write_record c =
    let w =
    refuses c.args.s c.args.lane _ c.args.out.now _ c.is_unsound.ensures c.if-is_unsound.false _ c.lane_at-l.ensures.value c.if-not-l.false _ c.credit_of.ensures
    _ c.write_record.ensures.result_value _ c.in_err-write_record.was _ c.write_record.ensures.out_after in
    let p = err_from_is_err_and c.from_residual.result c.from_residual.ensures.1 in
    record { value = rw (p.1, p.2) w.0; out_after = w.1 }

pub returns : goal.returns
returns c =
    let w =
    closes c.args.s c.args.lane _ c.args.out.now _ c.is_unsound.ensures c.if-is_unsound.false _ c.lane_at-l.ensures.value c.if-not-l.false _ c.credit_of.ensures
    _ c.write_record.ensures.result_value _ c.in_ok-write_record.was _ c.write_record.ensures.out_after _ c.release.ensures _ c.with_one.ensures in
    record { value = w.0; out_after = w.1 }
