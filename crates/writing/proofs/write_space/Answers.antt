-- Refused, the output stays; else the packet is put, whose fields are within their widths by `fine`.
use Rattle.std.proofs.Common.{sym, ◌∙◌, length, arith}
use Rattle.refusal.proofs.Named.{some as above_0}
use Rattle.octets.proofs.Writers.{accepted, refused}
use Rattle.writing.specs.Space.{space_octets, space_refusal}
use Rattle.writing.proofs.SpaceFine.{fine, refused_told, fine_told}
use Rattle.writing.proofs.Answers.{handed_on}
use Rattle.writing.proofs.write_space.Goals as goal

pub returns-in_err-check : goal.returns-in_err-check
returns-in_err-check c =
    let a = c.args in
    let n = length a.field.now in
    let room = length a.out.now in
    let refusal = c.in_err-check.field-0.0 in
    let settled = c.in_err-check.ensures in
    let some = above_0 refusal in
    let told_so = handed_on c.from_residual.result refusal c.from_residual.ensures.0 c.from_residual.ensures.1 in
    record {
      result_value = told_so ∙ refused_told a.packet_type a.secondary a.apid a.flags a.count n room settled (λ z. omega (arith, some));
      out_after = refused (space_refusal a.packet_type a.secondary a.apid a.flags a.count n room) (space_octets a.packet_type a.secondary a.apid a.flags a.count a.field.now) a.out.now (omega (arith, settled, some));
    }

pub put-requires : goal.put-requires
put-requires c =
    let a = c.args in
    let f = fine a.packet_type a.secondary a.apid a.flags a.count (length a.field.now) (length a.out.now) (sym c.in_ok-check.ensures) in
    record {
      packet_type_bound = (f.type_fits, f.secondary, f.apid, f.flags, f.count);
      field_nonzero = (f.some, f.most, f.fits);
    }

pub returns : goal.returns
returns c =
    let a = c.args in
    let n = length a.field.now in
    let room = length a.out.now in
    let none = sym c.in_ok-check.ensures in
    record {
      result_value = fine_told a.packet_type a.secondary a.apid a.flags a.count n room none;
      out_after = c.put.ensures ∙ accepted (space_refusal a.packet_type a.secondary a.apid a.flags a.count n room) (space_octets a.packet_type a.secondary a.apid a.flags a.count a.field.now) a.out.now none;
    }
