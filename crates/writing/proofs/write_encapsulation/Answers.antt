-- Refused, the output stays; else the header and the content are put, whose fields are within their widths by `fine`.
use Rattle.std.proofs.Common.{◌+◌, ◌≤◌, refl, sym, ◌∙◌, length, arith, rules}
use Rattle.octets.proofs.Puts.{Wrote, Fits, then_put}
use Rattle.refusal.proofs.Named.{some as above_0}
use Rattle.octets.proofs.Writers.{accepted, refused}
use Rattle.packet.specs.Encapsulation.{limit}
use Rattle.writing.specs.Encapsulation.{shortest, header_octets, encap_octets_with, encap_octets, encap_refusal}
use Rattle.writing.proofs.Header.{shortest_fits, header_size}
use Rattle.writing.proofs.EncapFine.{fine, refused_told, fine_told, encap_size_lem}
use Rattle.writing.proofs.Answers.{handed_on}
use Rattle.writing.proofs.write_encapsulation.Goals as goal

pub returns-in_err-check : goal.returns-in_err-check
returns-in_err-check c =
    let a = c.args in
    let n = length a.content.now in
    let room = length a.out.now in
    let refusal = c.in_err-check.field-0.0 in
    let settled = c.in_err-check.ensures in
    let some = above_0 refusal in
    let told_so = handed_on c.from_residual.result refusal c.from_residual.ensures.0 c.from_residual.ensures.1 in
    record {
      result_value = told_so ∙ refused_told a.protocol a.user a.extension n room settled (λ z. omega (arith, some));
      out_after = refused (encap_refusal a.protocol a.user a.extension n room) (encap_octets a.protocol a.user a.extension a.content.now) a.out.now (omega (arith, settled, some));
    }

pub put_header-requires : goal.put_header-requires
put_header-requires c =
    let a = c.args in
    let f = fine a.protocol a.user a.extension (length a.content.now) (length a.out.now) (sym c.in_ok-check.ensures) in
    let e = c.shortest_header-header.ensures in
    record {
      protocol_bound = (f.protocol, f.user, f.extension);
      header_value = (e, omega (arith, e, f.limited), omega (arith, e, f.fits));
    }

pub overflow_add-result : goal.overflow_add-result
overflow_add-result c =
    let a = c.args in
    let f = fine a.protocol a.user a.extension (length a.content.now) (length a.out.now) (sym c.in_ok-check.ensures) in
    let small : c.shortest_header-header.result + length a.content.now ≤ limit = omega (arith, c.shortest_header-header.ensures, f.limited) in
    search rules

pub returns : goal.returns
unfolding encap_octets_with
returns c =
    let a = c.args in
    let d = a.out.now in
    let n = length a.content.now in
    let none = sym c.in_ok-check.ensures in
    let f = fine a.protocol a.user a.extension n (length d) none in
    let h = shortest a.protocol a.user n in
    let e = c.shortest_header-header.ensures in
    let header = header_octets h a.protocol a.user a.extension (h + n) in
    let size = header_size (shortest_fits a.protocol a.user n) a.extension (h + n) in
    let put1 : Wrote d 0 header c.put_header.new.out c.shortest_header-header.result = (omega (arith, e, size), rw (← e) c.put_header.ensures) in
    let room : Fits d 0 (encap_octets a.protocol a.user a.extension a.content.now) = omega (arith, encap_size_lem a.protocol a.user a.extension a.content.now, f.fits) in
    let put2 = then_put d 0 header a.content.now room refl put1 c.put_octets.ensures in
    record {
      result_value = rw e (fine_told a.protocol a.user a.extension n (length d) none);
      out_after = put2.1 ∙ accepted (encap_refusal a.protocol a.user a.extension n (length d)) (encap_octets a.protocol a.user a.extension a.content.now) d none;
    }
