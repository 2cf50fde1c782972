-- The closure gives each place.
use Rattle.std.proofs.Common.{rules, tests}
use Rattle.marks.proofs.table.each_place.Goals as goal

pub returns : goal.returns
returns c = λ k h.
    let made = c.from_fn.ensures.items.at k 0 h in
    let called = made.2 in
    search (rules, tests)
