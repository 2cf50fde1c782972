-- Zeros in which the first octets lie have the record that these have (`Front`).
use Rattle.std.proofs.Common.{ap, ◌∙◌}
use Rattle.record.specs.Record.{record_in}
use Rattle.record.proofs.Front.{same_in_zeros}
use Rattle.record.proofs.front_record.Goals as goal

pub returns : goal.returns
returns c = c.record_in.ensures ∙ ap record_in c.put_octets.ensures ∙ same_in_zeros c.args.s.now c.min-n.result c.min-n.ensures
