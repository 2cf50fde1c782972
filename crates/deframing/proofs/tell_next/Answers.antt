-- There is room for a step, which is taken, or nothing is done.
use Rattle.std.proofs.Common.{sym, ◌∙◌, arith}
use Rattle.deframing.specs.Run.{standing}
use Rattle.deframing.proofs.Steps.{the_same, no_step, a_step}
use Rattle.deframing.proofs.tell_next.Goals as goal

pub returns-then-not-is_ready : goal.returns-then-not-is_ready
returns-then-not-is_ready c =
    let a = c.args in
    let h = no_step a.file.now a.text.now a.to (standing a.progress a.piece.now a.out.now) (sym c.is_ready.ensures ∙ c.if-not-is_ready.true) in
    record { value = h.0; piece_after = h.1.0; out_after = h.1.1.0; text_after = h.1.1.1; octets_in_bounds = (omega arith, λ within. within) }

pub returns : goal.returns
returns c =
    let a = c.args in
    let e = sym c.is_ready.ensures ∙ c.if-not-is_ready.false in
    let h = the_same a.text.now a.to (a_step a.file.now a.text.now a.to (standing a.progress a.piece.now a.out.now) e) c.take_step.ensures.stepped in
    let b = c.take_step.ensures.octets_in_bounds in
    record { value = h.0; piece_after = h.1.0; out_after = h.1.1.0; text_after = h.1.1.1; octets_in_bounds = (b.0, λ _. b.1) }
