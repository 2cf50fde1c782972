-- The numbers are those of the answer, whichever it is, and the state is the one beside it.
use Rattle.std.proofs.Common.{◌≡◌, sym, ap, ◌∙◌}
use Rattle.lanes.specs.Numbers.{telling, numbered}
use Rattle.lanes.proofs.NumberedFromAnswered.from.Goals as goal
use Rattle.lanes.proofs.NumberedFromAnswered.from.Goals.{in-Ok, in-Err}

pub returns : goal.returns
unfolding numbered
returns c =
    let e : c.match-a.n ≡ telling c.args.a.answer = elim c.match-a.branch [
      | in-Ok w ↦ w.n-is ∙ (w.from-n.ensures ∙ ap telling (sym w.in-Ok.is))
      | in-Err w ↦ w.n-is ∙ (w.from-n-in-Err.ensures ∙ ap telling (sym w.in-Err.is))
    ] in
    rw e
