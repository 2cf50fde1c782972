-- Each refusal has its cause, from the tests that led there, and its place; what the tests computed is what the definitions say (`Exits`).
use Rattle.std.proofs.Common.{◌<◌, refl, sym, ap, ◌∙◌, arith}
use Rattle.std.proofs.lemmas.Result.{err_from_is_err_and}
use Rattle.octets.specs.Octets.{octet}
use Rattle.packet.specs.Told.{told}
use Rattle.reading.specs.Places.{fault_at}
use Rattle.reading.specs.Causes.{names_nothing, less_than_header, over_limit, no_content, encap_packet}
use Rattle.reading.proofs.Exits.{empty_read, misnamed_so, named_so, limited_so, good_so, told_at, length_placed, name_placed, encap_told}
use Rattle.reading.proofs.encapsulation.verdict.Goals as goal

pub returns-in_err-check_name : goal.returns-in_err-check_name
returns-in_err-check_name c =
    let s = c.args.s.now in
    let r = c.requires.encap_there in
    let v = c.requires.second_value in
    let w = c.in_err-check_name.ensures in
    let field = c.ccsds_for.ensures in
    let m = misnamed_so s r v.0 field w.0 in
    let small : octet s 3 < 256 = omega (arith, c.type_inv.s 3) in
    let p = err_from_is_err_and c.from_residual.result c.from_residual.ensures.1 in
    rw (p.1, p.2, w.1) (told_at s (names_nothing r.0 m) (name_placed s r.1 r.2 v.0 field small m))

pub returns-then-size-header : goal.returns-then-size-header
returns-then-size-header c =
    let s = c.args.s.now in
    let r = c.requires.encap_there in
    let v = c.requires.second_value in
    let named = named_so s r v.0 c.ccsds_for.ensures c.in_ok-check_name.ensures in
    ap told c.refused.ensures
    ∙ told_at s (less_than_header named (omega (arith, r.1, v.1, c.if-size-header.true))) (c.length_from.ensures ∙ (length_placed s r.1).0)

pub returns-then-size-gt-LIMIT : goal.returns-then-size-gt-LIMIT
returns-then-size-gt-LIMIT c =
    let s = c.args.s.now in
    let r = c.requires.encap_there in
    let v = c.requires.second_value in
    let named = named_so s r v.0 c.ccsds_for.ensures c.in_ok-check_name.ensures in
    ap told c.refused-then-size-gt-LIMIT.ensures
    ∙ told_at s (over_limit (named, omega (arith, r.1, v.1, c.if-size-header.false)) (omega (arith, v.1, c.if-size-gt-LIMIT.true)))
    (c.length_from-then-size-gt-LIMIT.ensures ∙ (length_placed s r.1).1)

pub returns-then-octets-protocol : goal.returns-then-octets-protocol
unfolding fault_at
returns-then-octets-protocol c =
    let s = c.args.s.now in
    let r = c.requires.encap_there in
    let v = c.requires.second_value in
    let limited = limited_so s r v.0 c.ccsds_for.ensures c.in_ok-check_name.ensures v.1 c.if-size-header.false c.if-size-gt-LIMIT.false in
    ap told c.refused-then-octets-protocol.ensures ∙ told_at s (no_content limited (sym (empty_read s r.1 r.2 v.1) ∙ c.if-octets-protocol.true)) refl

pub returns-then-s-size : goal.returns-then-s-size
unfolding fault_at
returns-then-s-size c =
    let s = c.args.s.now in
    let r = c.requires.encap_there in
    let v = c.requires.second_value in
    let good = good_so s r v.0 c.ccsds_for.ensures c.in_ok-check_name.ensures v.1 c.if-size-header.false c.if-size-gt-LIMIT.false c.if-octets-protocol.false in
    ap told c.refused-then-s-size.ensures ∙ told_at s (encap_packet good (omega (arith, v.1, c.if-s-size.true))) refl

pub returns : goal.returns
returns c =
    let s = c.args.s.now in
    let r = c.requires.encap_there in
    let v = c.requires.second_value in
    let good = good_so s r v.0 c.ccsds_for.ensures c.in_ok-check_name.ensures v.1 c.if-size-header.false c.if-size-gt-LIMIT.false c.if-octets-protocol.false in
    encap_told s good (omega (arith, v.1, c.if-s-size.false)) r.2 v.0 r.1 v.1
