-- Each exit is the first test that holds.
use Rattle.std.proofs.Common.{le-ltb, lt-ltb, eq-eqb, ne_eqb}
use Rattle.grouping.specs.Faults.{space_fault}
use Rattle.grouping.proofs.packets.find_fault.Goals as goal

pub returns-then-packet_type-eq1 : goal.returns-then-packet_type-eq1
unfolding space_fault
returns-then-packet_type-eq1 c = simp (eq-eqb _ _ c.if-packet_type-eq1.true)

pub returns-then-apid-terms : goal.returns-then-apid-terms
unfolding space_fault
returns-then-apid-terms c = simp (ne_eqb _ _ c.if-packet_type-eq1.false, ne_eqb _ _ c.if-apid-terms.true)

pub returns-then-is_misflagged : goal.returns-then-is_misflagged
unfolding space_fault
returns-then-is_misflagged c =
    simp (
      ne_eqb _ _ c.if-packet_type-eq1.false,
      eq-eqb _ _ c.if-apid-terms.false,
      ← c.is_misflagged.ensures,
      c.if-is_misflagged.true,
    )

pub returns-then-size-from : goal.returns-then-size-from
unfolding space_fault
returns-then-size-from c =
    simp (
      ne_eqb _ _ c.if-packet_type-eq1.false,
      eq-eqb _ _ c.if-apid-terms.false,
      ← c.is_misflagged.ensures,
      c.if-is_misflagged.false,
      lt-ltb _ _ (rw c.from.ensures at c.if-size-from.true),
    )

pub returns : goal.returns
unfolding space_fault
returns c =
    simp (
      ne_eqb _ _ c.if-packet_type-eq1.false,
      eq-eqb _ _ c.if-apid-terms.false,
      ← c.is_misflagged.ensures,
      c.if-is_misflagged.false,
      le-ltb _ _ (rw c.from.ensures at c.if-size-from.false),
    )
