-- What is worked out in steps is the rule's: `Grouped` has a law for each way out.
use Rattle.std.proofs.Common.{ap, not}
use Rattle.grouping.proofs.Grouped.{unsegmented, begins, strays, continues, ends}
use Rattle.grouping.proofs.grouping.plan_grouping.Goals as goal

pub returns-then-flags-eq3 : goal.returns-then-flags-eq3
returns-then-flags-eq3 c =
    unsegmented _ _ _ _ _ _ c.missing_before-missing.ensures _ c.does_break-breaks.ensures _ c.joined_octets-octets.ensures _ c.plan_unit.ensures c.if-flags-eq3.true

pub returns-then-flags-eq1 : goal.returns-then-flags-eq1
returns-then-flags-eq1 c =
    begins _ _ _ _ _ _ c.missing_before-missing.ensures _ c.does_break-breaks.ensures _ c.joined_octets-octets.ensures c.if-flags-eq3.false _ c.plan_hold.ensures c.if-flags-eq1.true

pub returns-then-not-joins : goal.returns-then-not-joins
returns-then-not-joins c =
    strays _ _ _ _ _ _ c.missing_before-missing.ensures _ c.does_break-breaks.ensures _ c.joined_octets-octets.ensures c.if-flags-eq3.false c.if-flags-eq1.false (ap not c.if-not-joins.true)

pub returns-then-flags-eq0 : goal.returns-then-flags-eq0
returns-then-flags-eq0 c =
    continues _ _ _ _ _ _ c.missing_before-missing.ensures _ c.does_break-breaks.ensures _ c.joined_octets-octets.ensures c.if-flags-eq3.false c.if-flags-eq1.false (ap not c.if-not-joins.false) _ c.plan_hold-then-flags-eq0.ensures c.if-flags-eq0.true

pub returns : goal.returns
returns c =
    ends _ _ _ _ _ _ c.missing_before-missing.ensures _ c.does_break-breaks.ensures _ c.joined_octets-octets.ensures c.if-flags-eq3.false c.if-flags-eq1.false (ap not c.if-not-joins.false) _ c.plan_unit-2.ensures c.if-flags-eq0.false
