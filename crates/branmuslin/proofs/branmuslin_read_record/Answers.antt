-- What the reader told says how it ended.
use Rattle.std.proofs.Common.{◌∙◌}
use Rattle.branmuslin.proofs.Cases.{record_ends}
use Rattle.branmuslin.proofs.branmuslin_read_record.Goals as goal

pub returns : goal.returns
returns c =
    let ends = record_ends c.args.octets.now c.args.numbers.now _ c.read_record.ensures _ c.map-read.ensures.cases in
    record { value = c.leave.ensures.value ∙ ends.0; numbers_after = c.leave.ensures.lent_after ∙ ends.1 }
