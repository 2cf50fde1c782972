-- What the writer told says how it ended.
use Rattle.std.proofs.Common.{length, ◌∙◌}
use Rattle.branmuslin.proofs.Cases.{space_ends}
use Rattle.branmuslin.proofs.branmuslin_write_space.Goals as goal

pub returns : goal.returns
returns c =
    let a = c.args in
    let ends = space_ends a.packet_type a.secondary a.apid a.flags a.count a.field.now (length a.out.now) a.written.now _ c.write_space-octets.ensures.result_value in
    record { value = c.leave.ensures.value ∙ ends.0; out_after = c.write_space-octets.ensures.out_after; written_after = c.leave.ensures.lent_after ∙ ends.1 }
