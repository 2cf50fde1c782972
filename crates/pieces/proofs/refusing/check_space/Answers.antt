-- Each refusal has its cause, from the tests that led there.
use Rattle.std.proofs.Common.{sym, ap, ◌∙◌, ◌/◌, ◌%◌, arith}
use Rattle.std.proofs.lemmas.Result.{err_from_is_err_and}
use Rattle.refusal.specs.Refusal.{number}
use Rattle.reading.specs.Causes.{SpaceGood, space_header_cut, idle, space_packet, space}
use Rattle.reading.proofs.Exactly.{gives}
use Rattle.reading.proofs.Exits.{idle_read}
use Rattle.pieces.proofs.Announced.{space_size_so, ends}
use Rattle.pieces.proofs.refusing.check_space.Goals as goal

pub returns-in_err-needs : goal.returns-in_err-needs
returns-in_err-needs c =
    let p = err_from_is_err_and c.from_residual.result c.from_residual.ensures.1 in
    rw (p.1, p.2) (ap number c.in_err-needs.ensures.0 ∙ sym (gives (space_header_cut c.requires c.in_err-needs.ensures.1)))

pub returns-then-be16_at-octet_at : goal.returns-then-be16_at-octet_at
returns-then-be16_at-octet_at c =
    let read = idle_read c.args.packet.octets.now (ap (λ k. k % 2048) c.be16_at.ensures) (ap (λ o. o / 8 % 2) c.octet_at.ensures) in
    sym (gives (idle (c.requires, c.in_ok-needs.ensures) (sym read ∙ c.if-be16_at-octet_at.true)))

pub returns : goal.returns
returns c =
    let s = c.args.packet.octets.now in
    let read = idle_read s (ap (λ k. k % 2048) c.be16_at.ensures) (ap (λ o. o / 8 % 2) c.octet_at.ensures) in
    let good : SpaceGood s = ((c.requires, c.in_ok-needs.ensures), sym read ∙ c.if-be16_at-octet_at.false) in
    let size = space_size_so s c.requires c.args.packet.size_announced in
    ends c.needs-2.result c.needs-2.ensures (λ l. space good (omega (arith, l, size))) (λ l. space_packet good (omega (arith, l, size)))
