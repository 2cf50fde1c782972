-- The crate's code as the table that a program is linked from: wherever it is, and what it calls of other crates is, so is the code of each public function.
use mathlib.Core.Bool.{true}
use prog.Linked.{Tree, World, Holds, in_world}
use prog.LinkedThreads.{HasT}
use Rattle.grouping.proofs.TheLink as Link
use Rattle.std.proofs.prelude.U32FromU8.from.Symbol as U32FromU8_from
use Rattle.std.proofs.prelude.ResultFromResidualErrResidual.from_residual.Symbol as ResultFromResidualErrResidual_from_residual
use Rattle.std.proofs.prelude.ResultTry.branch.Symbol as ResultTry_branch
use Rattle.marks.proofs.blocks_for.Symbol as marks_blocks_for
use Rattle.packet.proofs.size_of.Symbol as packet_size_of
use Rattle.reading.proofs.read_packet.Symbol as reading_read_packet
use Rattle.grouping.proofs.plan_packet.Symbol as own_plan_packet
use Rattle.grouping.proofs.RefusedFromUnread.from.Symbol as own_RefusedFromUnread_from
use Rattle.grouping.proofs.RefusedFromRefusal.from.Symbol as own_RefusedFromRefusal_from

pub table : Tree
table = Link.table

-- what it calls of other crates
abbrev pub Calls : World → Type 0
Calls W =
    HasT (in_world W) true U32FromU8_from.code ×
    (HasT (in_world W) true ResultFromResidualErrResidual_from_residual.code ×
    (HasT (in_world W) true ResultTry_branch.code ×
    (HasT (in_world W) true marks_blocks_for.code ×
    (HasT (in_world W) true packet_size_of.code ×
    (HasT (in_world W) true reading_read_packet.code ×
    Unit {0})))))

pub has_plan_packet : (W : World) → Holds W "grouping" table → Calls W → HasT (in_world W) true own_plan_packet.code
unfolding table
has_plan_packet W here calls = Link.linked-grouping::plan_packet W here calls

pub has_RefusedFromUnread_from : (W : World) → Holds W "grouping" table → Calls W → HasT (in_world W) true own_RefusedFromUnread_from.code
unfolding table
has_RefusedFromUnread_from W here calls = Link.linked-grouping::RefusedFromUnread::from W here calls

pub has_RefusedFromRefusal_from : (W : World) → Holds W "grouping" table → Calls W → HasT (in_world W) true own_RefusedFromRefusal_from.code
unfolding table
has_RefusedFromRefusal_from W here calls = Link.linked-grouping::RefusedFromRefusal::from W here calls
