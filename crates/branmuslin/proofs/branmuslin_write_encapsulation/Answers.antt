-- What the writer told says how it ended.
use Rattle.std.proofs.Common.{length, ◌∙◌}
use Rattle.branmuslin.proofs.Cases.{encap_ends}
use Rattle.branmuslin.proofs.branmuslin_write_encapsulation.Goals as goal

pub returns : goal.returns
returns c =
    let a = c.args in
    let ends = encap_ends a.protocol a.user a.extension a.content.now (length a.out.now) a.written.now _ c.write_encapsulation-octets.ensures.result_value in
    record { value = c.leave.ensures.value ∙ ends.0; out_after = c.write_encapsulation-octets.ensures.out_after; written_after = c.leave.ensures.lent_after ∙ ends.1 }
