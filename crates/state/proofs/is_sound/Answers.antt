-- The marks decide where the lanes by themselves are sound (`Soundness`).
use Rattle.std.proofs.Common.{◌∙◌, sym}
use Rattle.state.proofs.Soundness.{marks_decide, lanes_decide}
use Rattle.state.proofs.is_sound.Goals as goal

pub returns-in-Some : goal.returns-in-Some
returns-in-Some c = c.marks_match.ensures ∙ marks_decide c.args.s _ (sym c.in-Some.is ∙ c.held_if_sound.ensures)

pub returns-in-None : goal.returns-in-None
returns-in-None c = lanes_decide c.args.s (sym c.in-None.is ∙ c.held_if_sound.ensures)
