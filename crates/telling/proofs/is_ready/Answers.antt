-- The tests are the definition's; the last one is made on the difference, which can't wrap.
use Rattle.std.proofs.Common.{ℕ, ◌≡◌, ◌+◌, ◌-◌, ◌∙◌, leb, sym, arith}
use borrow.Author.Tests.{le-leb, lt-leb, leb-true, leb-false}
use Rattle.octets.proofs.Order.{either}
use Rattle.telling.specs.Lines.{line_room, ready}
use Rattle.telling.proofs.is_ready.Goals as goal

by_difference : (to room : ℕ) → leb line_room (room - to) ≡ leb (to + line_room) room
by_difference to room =
    either (leb (to + line_room) room) (λ t. le-leb line_room (room - to) (omega (arith, leb-true (to + line_room) room t)) ∙ sym t)
    (λ f. lt-leb line_room (room - to) (omega (arith, leb-false (to + line_room) room f)) ∙ sym f)

pub returns : goal.returns
unfolding ready
returns c = rw (← (by_difference c.args.to c.args.room), ← c.saturating_sub.ensures)
