-- So many places are seen just where each has a block.
use Rattle.std.proofs.Common.{◌∙◌, sym, rules}
use borrow.Author.Tests.{eq-eqb}
use Rattle.marks.proofs.Seeing.{lane_decides, none_asked}
use Rattle.marks.proofs.table.lane_holds.Goals as goal

pub returns-then-n-eq0 : goal.returns-then-n-eq0
returns-then-n-eq0 c = λ marks is. eq-eqb _ _ c.if-n-eq0.true ∙ sym (none_asked marks _ _ c.if-n-eq0.true)

pub returns-else-n-eq0 : goal.returns-else-n-eq0
returns-else-n-eq0 c = λ marks is. rw (c.from.ensures, c.places_seen.ensures) (lane_decides marks c.args.seen.now is _ _ (search rules) (search rules))
