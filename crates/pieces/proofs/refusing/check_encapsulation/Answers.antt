-- Each refusal has its cause, from the tests that led there (`Announced`).
use Rattle.std.proofs.Common.{sym, ap, ◌∙◌, ◌/◌, ◌%◌, arith}
use Rattle.std.proofs.lemmas.Result.{err_from_is_err_and}
use Rattle.refusal.specs.Refusal.{number}
use Rattle.reading.specs.Causes.{EncapGood, encap_header_cut, names_nothing, less_than_header, over_limit, no_content, encap_packet, encapsulation}
use Rattle.reading.proofs.Exactly.{gives}
use Rattle.reading.proofs.Exits.{empty_read}
use Rattle.pieces.proofs.Announced as announced
use Rattle.pieces.proofs.refusing.check_encapsulation.Goals as goal

pub returns-in_err-needs : goal.returns-in_err-needs
returns-in_err-needs c =
    let p = err_from_is_err_and c.from_residual.result c.from_residual.ensures.1 in
    let h = announced.header_so c.args.packet.octets.now c.requires c.args.packet.header_announced c.args.packet.size_announced in
    rw (p.1, p.2) (ap number c.in_err-needs.ensures.0 ∙ sym (gives (encap_header_cut c.requires (omega (arith, h, c.in_err-needs.ensures.1)))))

pub is_misnamed-requires : goal.is_misnamed-requires
is_misnamed-requires c = announced.header_so c.args.packet.octets.now c.requires c.args.packet.header_announced c.args.packet.size_announced

pub returns-then-is_misnamed : goal.returns-then-is_misnamed
returns-then-is_misnamed c =
    let there = announced.there c.args.packet.octets.now c.requires c.args.packet.header_announced c.args.packet.size_announced c.in_ok-needs.ensures in
    sym (gives (names_nothing there (sym c.is_misnamed.ensures ∙ c.if-is_misnamed.true)))

pub returns-then-size-header : goal.returns-then-size-header
returns-then-size-header c =
    let s = c.args.packet.octets.now in
    let h = announced.header_so s c.requires c.args.packet.header_announced c.args.packet.size_announced in
    let n = announced.size_so s c.requires c.args.packet.header_announced c.args.packet.size_announced in
    let there = announced.there s c.requires c.args.packet.header_announced c.args.packet.size_announced c.in_ok-needs.ensures in
    sym (gives (less_than_header (there, sym c.is_misnamed.ensures ∙ c.if-is_misnamed.false) (omega (arith, h, n, c.if-size-header.true))))

pub returns-then-size-gt-LIMIT : goal.returns-then-size-gt-LIMIT
returns-then-size-gt-LIMIT c =
    let s = c.args.packet.octets.now in
    let n = announced.size_so s c.requires c.args.packet.header_announced c.args.packet.size_announced in
    let long = announced.long s c.requires c.args.packet.header_announced c.args.packet.size_announced c.in_ok-needs.ensures (sym c.is_misnamed.ensures ∙ c.if-is_misnamed.false) c.if-size-header.false in
    sym (gives (over_limit long (omega (arith, n, c.if-size-gt-LIMIT.true))))

pub returns-then-size-header-2 : goal.returns-then-size-header-2
returns-then-size-header-2 c =
    let s = c.args.packet.octets.now in
    let h = announced.header_so s c.requires c.args.packet.header_announced c.args.packet.size_announced in
    let n = announced.size_so s c.requires c.args.packet.header_announced c.args.packet.size_announced in
    let limited = announced.limited s c.requires c.args.packet.header_announced c.args.packet.size_announced c.in_ok-needs.ensures (sym c.is_misnamed.ensures ∙ c.if-is_misnamed.false) c.if-size-header.false c.if-size-gt-LIMIT.false in
    let empty = empty_read s h (ap (λ o. o / 4 % 8) c.octet_at.ensures) n in
    sym (gives (no_content limited (sym empty ∙ c.if-size-header-2.true)))

pub returns : goal.returns
returns c =
    let s = c.args.packet.octets.now in
    let h = announced.header_so s c.requires c.args.packet.header_announced c.args.packet.size_announced in
    let n = announced.size_so s c.requires c.args.packet.header_announced c.args.packet.size_announced in
    let limited = announced.limited s c.requires c.args.packet.header_announced c.args.packet.size_announced c.in_ok-needs.ensures (sym c.is_misnamed.ensures ∙ c.if-is_misnamed.false) c.if-size-header.false c.if-size-gt-LIMIT.false in
    let empty = empty_read s h (ap (λ o. o / 4 % 8) c.octet_at.ensures) n in
    let good : EncapGood s = (limited, sym empty ∙ c.if-size-header-2.false) in
    announced.ends c.needs-2.result c.needs-2.ensures (λ l. encapsulation good (omega (arith, l, n))) (λ l. encap_packet good (omega (arith, l, n)))
