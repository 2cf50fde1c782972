-- The crate's code as the table that a program is linked from: wherever it is, and what it calls of other crates is, so is the code of each public function.
use mathlib.Core.Bool.{true}
use prog.Linked.{Tree, World, Holds, in_world}
use prog.LinkedThreads.{HasT}
use Rattle.intake.proofs.TheLink as Link
use Rattle.std.below.core.proofs.clone.Clone+copy.clone.Symbol as Clone_clone
use Rattle.std.proofs.prelude.AnyFrom.from.Symbol as AnyFrom_from
use Rattle.std.proofs.prelude.U32FromU16.from.Symbol as U32FromU16_from
use Rattle.std.proofs.prelude.UsizeFromU8.from.Symbol as UsizeFromU8_from
use Rattle.std.proofs.prelude.U32FromBool.from.Symbol as U32FromBool_from
use Rattle.std.below.core.proofs.int.usize.min.Symbol as usize_min
use Rattle.std.proofs.option.Option.unwrap_or.Symbol as Option_unwrap_or
use Rattle.std.below.core.proofs.option.more.Option+ref+T.copied.Symbol as Option_copied
use Rattle.std.proofs.prelude.ResultFromResidualErrResidual.from_residual.Symbol as ResultFromResidualErrResidual_from_residual
use Rattle.std.proofs.prelude.ResultTry.branch.Symbol as ResultTry_branch
use Rattle.std.proofs.prelude.UsizeSliceIndexRefSlice.pick.Symbol as UsizeSliceIndexRefSlice_pick
use Rattle.std.below.core.proofs.slice.slice+T.get.Symbol as slice_get
use Rattle.grouping.proofs.plan_packet.Symbol as grouping_plan_packet
use Rattle.lane.proofs.is_illegal.Symbol as lane_is_illegal
use Rattle.marks.proofs.blocks_for.Symbol as marks_blocks_for
use Rattle.marks.proofs.free_blocks.Symbol as marks_free_blocks
use Rattle.marks.proofs.grant_blocks.Symbol as marks_grant_blocks
use Rattle.pool.proofs.gather_octets.Symbol as pool_gather_octets
use Rattle.pool.proofs.store_octets.Symbol as pool_store_octets
use Rattle.putting.proofs.put_octets.Symbol as putting_put_octets
use Rattle.record.proofs.write_record.Symbol as record_write_record
use Rattle.refusal.proofs.U8FromRefusal.from.Symbol as refusal_U8FromRefusal_from
use Rattle.state.proofs.is_unsound.Symbol as state_is_unsound
use Rattle.state.proofs.is_within.Symbol as state_is_within
use Rattle.intake.proofs.open_lane.Symbol as own_open_lane
use Rattle.intake.proofs.take_packet.Symbol as own_take_packet
use Rattle.intake.proofs.close_lane.Symbol as own_close_lane
use Rattle.intake.proofs.AnswerFromStep.from.Symbol as own_AnswerFromStep_from

pub table : Tree
table = Link.table

-- what it calls of other crates
abbrev pub Calls : World → Type 0
Calls W =
    HasT (in_world W) true Clone_clone.code ×
    (HasT (in_world W) true AnyFrom_from.code ×
    (HasT (in_world W) true U32FromU16_from.code ×
    (HasT (in_world W) true UsizeFromU8_from.code ×
    (HasT (in_world W) true U32FromBool_from.code ×
    (HasT (in_world W) true usize_min.code ×
    (HasT (in_world W) true Option_unwrap_or.code ×
    (HasT (in_world W) true Option_copied.code ×
    (HasT (in_world W) true ResultFromResidualErrResidual_from_residual.code ×
    (HasT (in_world W) true ResultTry_branch.code ×
    (HasT (in_world W) true UsizeSliceIndexRefSlice_pick.code ×
    (HasT (in_world W) true slice_get.code ×
    (HasT (in_world W) true grouping_plan_packet.code ×
    (HasT (in_world W) true lane_is_illegal.code ×
    (HasT (in_world W) true marks_blocks_for.code ×
    (HasT (in_world W) true marks_free_blocks.code ×
    (HasT (in_world W) true marks_grant_blocks.code ×
    (HasT (in_world W) true pool_gather_octets.code ×
    (HasT (in_world W) true pool_store_octets.code ×
    (HasT (in_world W) true putting_put_octets.code ×
    (HasT (in_world W) true record_write_record.code ×
    (HasT (in_world W) true refusal_U8FromRefusal_from.code ×
    (HasT (in_world W) true state_is_unsound.code ×
    (HasT (in_world W) true state_is_within.code ×
    Unit {0})))))))))))))))))))))))

pub has_open_lane : (W : World) → Holds W "intake" table → Calls W → HasT (in_world W) true own_open_lane.code
unfolding table
has_open_lane W here calls = Link.linked-intake::open_lane W here calls

pub has_take_packet : (W : World) → Holds W "intake" table → Calls W → HasT (in_world W) true own_take_packet.code
unfolding table
has_take_packet W here calls = Link.linked-intake::take_packet W here calls

pub has_close_lane : (W : World) → Holds W "intake" table → Calls W → HasT (in_world W) true own_close_lane.code
unfolding table
has_close_lane W here calls = Link.linked-intake::close_lane W here calls

pub has_AnswerFromStep_from : (W : World) → Holds W "intake" table → Calls W → HasT (in_world W) true own_AnswerFromStep_from.code
unfolding table
has_AnswerFromStep_from W here calls = Link.linked-intake::AnswerFromStep::from W here calls
