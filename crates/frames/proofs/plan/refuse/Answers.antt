-- The first test that holds gives its number.
use Rattle.std.proofs.Common.{sym, ◌∙◌, lt-ltb, le-ltb}
use Rattle.frames.specs.Frames.{frame_refusal}
use Rattle.frames.proofs.plan.refuse.Goals as goal

pub returns-then-is_wrong : goal.returns-then-is_wrong
unfolding frame_refusal
returns-then-is_wrong c = simp (sym c.is_wrong.ensures ∙ c.if-is_wrong.true)

pub returns-then-room-lt-OUTPUT : goal.returns-then-room-lt-OUTPUT
unfolding frame_refusal
returns-then-room-lt-OUTPUT c = simp (sym c.is_wrong.ensures ∙ c.if-is_wrong.false, lt-ltb _ _ c.if-room-lt-OUTPUT.true)

pub returns : goal.returns
unfolding frame_refusal
returns c = simp (sym c.is_wrong.ensures ∙ c.if-is_wrong.false, le-ltb _ _ c.if-room-lt-OUTPUT.false)
