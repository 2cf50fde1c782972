-- The line of a run that stopped before its end, if it did, and the end are put one after the other.
use borrow.Author.Tests.{eq-eqb, ne_eqb}
use Rattle.text.proofs.Cut.{after}
use Rattle.telling.specs.Lines.{bad_line, end_line, last_lines}
use Rattle.telling.proofs.put_last.Goals as goal

pub returns-then-at-n : goal.returns-then-at-n
unfolding last_lines
returns-then-at-n c =
    let here = eq-eqb c.args.at c.args.n c.if-at-n.true in
    record { value = simp here c.put_end.ensures.value; text_after = simp here c.put_end.ensures.text_after }

pub returns : goal.returns
unfolding last_lines
returns c =
    let a = c.args in
    let bad = c.put_bad-to.ensures in
    let end = c.put_end-2.ensures in
    let before = ne_eqb a.at a.n c.if-at-n.false in
    let put = after a.text.now a.to (bad_line a.at) (end_line a.at a.calls a.held.now) (bad.value, bad.text_after) (end.value, end.text_after) in
    record { value = simp before put.0; text_after = simp before put.1 }
