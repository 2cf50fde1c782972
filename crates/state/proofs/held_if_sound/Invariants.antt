-- What is known of the lanes once i of them are passed.
use Rattle.state.proofs.Turns.{Passed}
use Rattle.state.proofs.held_if_sound.Given as goal

abbrev pub invariant-loop-i : goal.invariant-loop-i
invariant-loop-i l = Passed l.lanes l.i l.held l.total
