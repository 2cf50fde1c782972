-- The ways out are those of `Faulty`; an accepted packet has its secondary octets, so the subtraction is right.
use Rattle.std.proofs.Common.{sym, ◌∙◌}
use Rattle.std.proofs.lemmas.Result.{err_from_is_err_and}
use Rattle.grouping.proofs.Faulty.{not_open, not_read, octets_after, not_space, faulty, fine, long_enough}
use Rattle.grouping.proofs.plan_packet.Goals as goal

pub returns-then-not-l : goal.returns-then-not-l
returns-then-not-l c = not_open _ _ _ c.if-not-l.true

pub returns-in_err-p : goal.returns-in_err-p
returns-in_err-p c =
    let p = err_from_is_err_and c.from_residual.result c.from_residual.ensures.1 in
    rw (p.1, p.2) (not_read _ _ _ c.if-not-l.false _ c.read_packet.ensures _ c.in_err-p.was)

pub returns-then-size_of-octets : goal.returns-then-size_of-octets
returns-then-size_of-octets c =
    octets_after _ _ _ c.if-not-l.false _ c.read_packet.ensures _ c.in_ok-p.was (rw c.size_of.ensures at c.if-size_of-octets.true)

pub returns-in_default : goal.returns-in_default
returns-in_default c =
    not_space _ _ _ c.if-not-l.false _ c.read_packet.ensures _ c.in_ok-p.was (rw c.size_of.ensures at c.if-size_of-octets.false) c.in_default.not-Space

pub returns-in_err-find_fault : goal.returns-in_err-find_fault
returns-in_err-find_fault c =
    let p = err_from_is_err_and c.from_residual-in_err-find_fault.result c.from_residual-in_err-find_fault.ensures.1 in
    rw (p.1, p.2)
    (faulty _ _ _ c.if-not-l.false _ c.read_packet.ensures _ c.in_ok-p.was (rw c.size_of.ensures at c.if-size_of-octets.false) _ _ _ _ _ _ c.in-Space.is _
    (sym c.in_err-find_fault.was ∙ c.find_fault.ensures))

pub overflow_sub-size : goal.overflow_sub-size
overflow_sub-size c = long_enough _ _ _ _ _ (sym c.in_ok-find_fault.was ∙ c.find_fault.ensures)

pub returns : goal.returns
returns c =
    c.plan_accepted.ensures
    ∙ fine _ _ _ c.if-not-l.false _ c.read_packet.ensures _ c.in_ok-p.was (rw c.size_of.ensures at c.if-size_of-octets.false) _ _ _ _ _ _ c.in-Space.is
    (sym c.in_ok-find_fault.was ∙ c.find_fault.ensures)
