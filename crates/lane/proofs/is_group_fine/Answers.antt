-- No octets need no block and no group (`Parts`).
use Rattle.std.proofs.Common.{◌∙◌}
use borrow.Author.Tests.{eq-eqb}
use Rattle.lane.proofs.Parts.{no_octets}
use Rattle.lane.proofs.is_group_fine.Goals as goal

pub returns-then-l-eq0 : goal.returns-then-l-eq0
returns-then-l-eq0 c = eq-eqb _ _ c.if-l-eq0.true ∙ no_octets c.args.l c.if-l-eq0.true
