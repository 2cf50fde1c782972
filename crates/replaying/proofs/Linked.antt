-- The crate's code as the table that a program is linked from: wherever it is, and what it calls of other crates is, so is the code of each public function.
use mathlib.Core.Bool.{true}
use prog.Linked.{Tree, World, Holds, in_world}
use prog.LinkedThreads.{HasT}
use Rattle.replaying.proofs.TheLink as Link
use Rattle.adler.proofs.adler32.Symbol as adler_adler32
use Rattle.std.proofs.prelude.U64FromU32.from.Symbol as U64FromU32_from
use Rattle.std.proofs.prelude.U64FromU8.from.Symbol as U64FromU8_from
use Rattle.std.proofs.prelude.U64FromBool.from.Symbol as U64FromBool_from
use Rattle.std.below.core.proofs.int.usize.min.Symbol as usize_min
use Rattle.std.proofs.prelude.OptionFromResidualNoValue.from_residual.Symbol as OptionFromResidualNoValue_from_residual
use Rattle.std.proofs.prelude.OptionTry.branch.Symbol as OptionTry_branch
use Rattle.intake.proofs.close_lane.Symbol as intake_close_lane
use Rattle.intake.proofs.open_lane.Symbol as intake_open_lane
use Rattle.intake.proofs.take_packet.Symbol as intake_take_packet
use Rattle.record.proofs.front_record.Symbol as record_front_record
use Rattle.refusal.proofs.U8FromRefusal.from.Symbol as refusal_U8FromRefusal_from
use Rattle.runfile.proofs.call_in.Symbol as runfile_call_in
use Rattle.telling.proofs.is_ready.Symbol as telling_is_ready
use Rattle.telling.proofs.put_last.Symbol as telling_put_last
use Rattle.telling.proofs.put_line.Symbol as telling_put_line
use Rattle.text.proofs.put.Symbol as text_put
use Rattle.replaying.proofs.replay_some.Symbol as own_replay_some

pub table : Tree
table = Link.table

-- what it calls of other crates
abbrev pub Calls : World → Type 0
Calls W =
    HasT (in_world W) true adler_adler32.code ×
    (HasT (in_world W) true U64FromU32_from.code ×
    (HasT (in_world W) true U64FromU8_from.code ×
    (HasT (in_world W) true U64FromBool_from.code ×
    (HasT (in_world W) true usize_min.code ×
    (HasT (in_world W) true OptionFromResidualNoValue_from_residual.code ×
    (HasT (in_world W) true OptionTry_branch.code ×
    (HasT (in_world W) true intake_close_lane.code ×
    (HasT (in_world W) true intake_open_lane.code ×
    (HasT (in_world W) true intake_take_packet.code ×
    (HasT (in_world W) true record_front_record.code ×
    (HasT (in_world W) true refusal_U8FromRefusal_from.code ×
    (HasT (in_world W) true runfile_call_in.code ×
    (HasT (in_world W) true telling_is_ready.code ×
    (HasT (in_world W) true telling_put_last.code ×
    (HasT (in_world W) true telling_put_line.code ×
    (HasT (in_world W) true text_put.code ×
    Unit {0}))))))))))))))))

pub has_replay_some : (W : World) → Holds W "replaying" table → Calls W → HasT (in_world W) true own_replay_some.code
unfolding table
has_replay_some W here calls = Link.linked-replaying::replay_some W here calls
