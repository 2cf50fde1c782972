-- The subtractions wrap at 65,536, which is a multiple of 16,384.
use Rattle.std.proofs.Common.{arith, eq-eqb, ne_eqb}
use Rattle.grouping.specs.Grouping.{missing_before}
use Rattle.grouping.proofs.grouping.missing_before.Goals as goal

pub returns-then-l-eq0 : goal.returns-then-l-eq0
unfolding missing_before
returns-then-l-eq0 c = simp (eq-eqb _ _ c.if-l-eq0.true)

pub returns-else-l-eq0 : goal.returns-else-l-eq0
unfolding missing_before
returns-else-l-eq0 c =
    simp (ne_eqb _ _ c.if-l-eq0.false) (omega arith)
