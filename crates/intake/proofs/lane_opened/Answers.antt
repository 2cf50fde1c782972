-- The ways out are those of `Opened`, in the order of the refusals.
use Rattle.std.proofs.Common.{ap, not, refl}
use Rattle.intake.proofs.Opened.{not_sound, no_lane, is_open, is_illegal, no_promise, opens}
use Rattle.intake.proofs.lane_opened.Goals as goal

pub returns-then-is_unsound : goal.returns-then-is_unsound
returns-then-is_unsound c = not_sound _ _ _ _ _ c.is_unsound.ensures c.if-is_unsound.true

pub returns-then-lane-gt7 : goal.returns-then-lane-gt7
returns-then-lane-gt7 c = no_lane _ _ _ _ _ c.is_unsound.ensures c.if-is_unsound.false c.if-lane-gt7.true

pub returns-then-lane_at : goal.returns-then-lane_at
returns-then-lane_at c =
    is_open c.args.s _ _ _ _ c.is_unsound.ensures c.if-is_unsound.false c.if-lane-gt7.false _ c.lane_at.ensures.value c.if-lane_at.true

pub returns-then-is_illegal : goal.returns-then-is_illegal
returns-then-is_illegal c =
    is_illegal c.args.s _ _ _ _ c.is_unsound.ensures c.if-is_unsound.false c.if-lane-gt7.false _ c.lane_at.ensures.value c.if-lane_at.false
    _ c.is_illegal.ensures c.if-is_illegal.true

pub returns-then-not-is_within : goal.returns-then-not-is_within
returns-then-not-is_within c =
    no_promise c.args.s _ _ _ _ c.is_unsound.ensures c.if-is_unsound.false c.if-lane-gt7.false _ c.lane_at.ensures.value c.if-lane_at.false
    _ c.is_illegal.ensures c.if-is_illegal.false _ c.opened_with-opened.ensures _ c.is_within.ensures (ap not c.if-not-is_within.true)

pub returns : goal.returns
returns c =
    opens c.args.s _ _ _ _ c.is_unsound.ensures c.if-is_unsound.false c.if-lane-gt7.false _ c.lane_at.ensures.value c.if-lane_at.false
    _ c.is_illegal.ensures c.if-is_illegal.false _ c.opened_with-opened.ensures _ c.is_within.ensures (ap not c.if-not-is_within.false) _ refl
