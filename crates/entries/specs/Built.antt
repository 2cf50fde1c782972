-- A build of the repository, as the toolchain links one: the crates' tables of code are in it, under their names, and so is the code of each function of the
-- standard library that they call, but for ResultPartialEq_eq and ResultDebug_fmt, which no function of `Public` runs. Its own table can't be named here. `linked` is the machine of it.
use Rattle.std.specs.Prelude.{true}
use prog.Linked.{World, Holds, in_world}
use prog.LinkedThreads.{HasT, tie_t}
use prog.Routine.{Env}
use Rattle.std.proofs.prelude.AnyFrom.from.Symbol as AnyFrom_from
use Rattle.std.proofs.prelude.ArrayClone.clone.Symbol as ArrayClone_clone
use Rattle.std.proofs.prelude.BoolClone.clone.Symbol as BoolClone_clone
use Rattle.std.proofs.prelude.BoolDebug.fmt.Symbol as BoolDebug_fmt
use Rattle.std.proofs.prelude.BoolPartialEq.eq.Symbol as BoolPartialEq_eq
use Rattle.std.proofs.prelude.ChunksIterator.next.Symbol as ChunksIterator_next
use Rattle.std.proofs.prelude.ChunksIterator.size_hint.Symbol as ChunksIterator_size_hint
use Rattle.std.below.core.proofs.clone.Clone+copy.clone.Symbol as Clone_clone
use Rattle.std.proofs.prelude.CoreIterIterator.next.Symbol as CoreIterIterator_next
use Rattle.std.proofs.prelude.CoreIterIterator.size_hint.Symbol as CoreIterIterator_size_hint
use Rattle.std.proofs.fmt.Formatter.derived_fields1.Symbol as Formatter_derived_fields1
use Rattle.std.proofs.fmt.Formatter.derived_fields2.Symbol as Formatter_derived_fields2
use Rattle.std.proofs.fmt.Formatter.derived_fields3.Symbol as Formatter_derived_fields3
use Rattle.std.proofs.fmt.Formatter.derived_fields4.Symbol as Formatter_derived_fields4
use Rattle.std.proofs.fmt.Formatter.derived_name.Symbol as Formatter_derived_name
use Rattle.std.proofs.prelude.IteratorIntoIterator.into_iter.Symbol as IteratorIntoIterator_into_iter
use Rattle.std.proofs.iter.Iterator.map.Symbol as Iterator_map
use Rattle.std.proofs.iter.Iterator.position.Symbol as Iterator_position
use Rattle.std.proofs.iter.Iterator.sum.Symbol as Iterator_sum
use Rattle.std.proofs.prelude.MapIterator.next.Symbol as MapIterator_next
use Rattle.std.proofs.prelude.MapIterator.size_hint.Symbol as MapIterator_size_hint
use Rattle.std.proofs.prelude.OptionDebug.fmt.Symbol as OptionDebug_fmt
use Rattle.std.proofs.prelude.OptionFromResidualNoValue.from_residual.Symbol as OptionFromResidualNoValue_from_residual
use Rattle.std.proofs.prelude.OptionPartialEq.eq.Symbol as OptionPartialEq_eq
use Rattle.std.proofs.prelude.OptionTry.branch.Symbol as OptionTry_branch
use Rattle.std.below.core.proofs.option.more.Option+ref+T.copied.Symbol as Option_copied
use Rattle.std.proofs.option.Option.filter.Symbol as Option_filter
use Rattle.std.proofs.option.Option.unwrap_or.Symbol as Option_unwrap_or
use Rattle.std.proofs.cmp.Ordering.and_eq.Symbol as Ordering_and_eq
use Rattle.std.proofs.prelude.RangeToUsizeSliceIndexRefSlice.pick.Symbol as RangeToUsizeSliceIndexRefSlice_pick
use Rattle.std.proofs.prelude.RefArrayTryFromRefSlice.try_from.Symbol as RefArrayTryFromRefSlice_try_from
use Rattle.std.proofs.prelude.ResultFromResidualErrResidual.from_residual.Symbol as ResultFromResidualErrResidual_from_residual
use Rattle.std.proofs.prelude.ResultTry.branch.Symbol as ResultTry_branch
use Rattle.std.proofs.result.Result.map.Symbol as Result_map
use Rattle.std.proofs.result.Result.map_err.Symbol as Result_map_err
use Rattle.std.proofs.prelude.U16Debug.fmt.Symbol as U16Debug_fmt
use Rattle.std.proofs.prelude.U16FromBool.from.Symbol as U16FromBool_from
use Rattle.std.proofs.prelude.U16FromU8.from.Symbol as U16FromU8_from
use Rattle.std.proofs.prelude.U16PartialEq.eq.Symbol as U16PartialEq_eq
use Rattle.std.proofs.prelude.U32Clone.clone.Symbol as U32Clone_clone
use Rattle.std.proofs.prelude.U32Debug.fmt.Symbol as U32Debug_fmt
use Rattle.std.proofs.prelude.U32FromBool.from.Symbol as U32FromBool_from
use Rattle.std.proofs.prelude.U32FromU16.from.Symbol as U32FromU16_from
use Rattle.std.proofs.prelude.U32FromU8.from.Symbol as U32FromU8_from
use Rattle.std.proofs.prelude.U32PartialEq.eq.Symbol as U32PartialEq_eq
use Rattle.std.proofs.prelude.U64FromBool.from.Symbol as U64FromBool_from
use Rattle.std.proofs.prelude.U64FromU16.from.Symbol as U64FromU16_from
use Rattle.std.proofs.prelude.U64FromU32.from.Symbol as U64FromU32_from
use Rattle.std.proofs.prelude.U64FromU8.from.Symbol as U64FromU8_from
use Rattle.std.proofs.prelude.U8Clone.clone.Symbol as U8Clone_clone
use Rattle.std.proofs.prelude.U8Debug.fmt.Symbol as U8Debug_fmt
use Rattle.std.proofs.prelude.U8PartialEq.eq.Symbol as U8PartialEq_eq
use Rattle.std.proofs.prelude.UsizeClone.clone.Symbol as UsizeClone_clone
use Rattle.std.proofs.prelude.UsizeDebug.fmt.Symbol as UsizeDebug_fmt
use Rattle.std.proofs.prelude.UsizeFromBool.from.Symbol as UsizeFromBool_from
use Rattle.std.proofs.prelude.UsizeFromU16.from.Symbol as UsizeFromU16_from
use Rattle.std.proofs.prelude.UsizeFromU8.from.Symbol as UsizeFromU8_from
use Rattle.std.proofs.prelude.UsizePartialEq.eq.Symbol as UsizePartialEq_eq
use Rattle.std.proofs.prelude.UsizeSliceIndexRefSlice.pick.Symbol as UsizeSliceIndexRefSlice_pick
use Rattle.std.proofs.prelude.UsizeSum.sum.Symbol as UsizeSum_sum
use Rattle.std.proofs.array.from_fn.Symbol as array_from_fn
use Rattle.std.below.core.proofs.bool.then_some.Symbol as bool_then_some
use Rattle.std.below.core.proofs.simd.chunks.slice+T.as_chunks.Symbol as slice_as_chunks
use Rattle.std.below.core.proofs.iter.slices.slice+T.chunks.Symbol as slice_chunks
use Rattle.std.below.core.proofs.slice.edits.slice+T.copy_from_slice.Symbol as slice_copy_from_slice
use Rattle.std.below.core.proofs.slice.slice+T.get.Symbol as slice_get
use Rattle.std.below.core.proofs.slice.slice+T.is_empty.Symbol as slice_is_empty
use Rattle.std.below.core.proofs.iter.slices.slice+T.iter.Symbol as slice_iter
use Rattle.std.below.core.proofs.slice.reads.slice+T.split_at.Symbol as slice_split_at
use Rattle.std.below.core.proofs.int.u16.from_be_bytes.Symbol as u16_from_be_bytes
use Rattle.std.below.core.proofs.int.u16.min.Symbol as u16_min
use Rattle.std.below.core.proofs.int.u16.to_be_bytes.Symbol as u16_to_be_bytes
use Rattle.std.below.core.proofs.int.u32.from_be_bytes.Symbol as u32_from_be_bytes
use Rattle.std.below.core.proofs.int.u32.to_be_bytes.Symbol as u32_to_be_bytes
use Rattle.std.below.core.proofs.int.more.u64.ilog10.Symbol as u64_ilog10
use Rattle.std.below.core.proofs.int.u64.max.Symbol as u64_max
use Rattle.std.below.core.proofs.int.usize.div_ceil.Symbol as usize_div_ceil
use Rattle.std.below.core.proofs.int.usize.max.Symbol as usize_max
use Rattle.std.below.core.proofs.int.usize.min.Symbol as usize_min
use Rattle.std.below.core.proofs.int.usize.saturating_sub.Symbol as usize_saturating_sub
use Rattle.octets.proofs.Linked as the_octets
use Rattle.refusal.proofs.Linked as the_refusal
use Rattle.putting.proofs.Linked as the_putting
use Rattle.packet.proofs.Linked as the_packet
use Rattle.reading.proofs.Linked as the_reading
use Rattle.marks.proofs.Linked as the_marks
use Rattle.record.proofs.Linked as the_record
use Rattle.text.proofs.Linked as the_text
use Rattle.adler.proofs.Linked as the_adler
use Rattle.walk.proofs.Linked as the_walk
use Rattle.lane.proofs.Linked as the_lane
use Rattle.pool.proofs.Linked as the_pool
use Rattle.writing.proofs.Linked as the_writing
use Rattle.telling.proofs.Linked as the_telling
use Rattle.state.proofs.Linked as the_state
use Rattle.branmuslin.proofs.Linked as the_branmuslin
use Rattle.grouping.proofs.Linked as the_grouping
use Rattle.listing.proofs.Linked as the_listing
use Rattle.pieces.proofs.Linked as the_pieces
use Rattle.frames.proofs.Linked as the_frames
use Rattle.intake.proofs.Linked as the_intake
use Rattle.runfile.proofs.Linked as the_runfile
use Rattle.lanes.proofs.Linked as the_lanes
use Rattle.deframing.proofs.Linked as the_deframing
use Rattle.replaying.proofs.Linked as the_replaying

pub record Built (W : World) : Type 0 where
  pub octets_table : Holds W "octets" the_octets.table
  pub refusal_table : Holds W "refusal" the_refusal.table
  pub putting_table : Holds W "putting" the_putting.table
  pub packet_table : Holds W "packet" the_packet.table
  pub reading_table : Holds W "reading" the_reading.table
  pub marks_table : Holds W "marks" the_marks.table
  pub record_table : Holds W "record" the_record.table
  pub text_table : Holds W "text" the_text.table
  pub adler_table : Holds W "adler" the_adler.table
  pub walk_table : Holds W "walk" the_walk.table
  pub lane_table : Holds W "lane" the_lane.table
  pub pool_table : Holds W "pool" the_pool.table
  pub writing_table : Holds W "writing" the_writing.table
  pub telling_table : Holds W "telling" the_telling.table
  pub state_table : Holds W "state" the_state.table
  pub branmuslin_table : Holds W "branmuslin" the_branmuslin.table
  pub grouping_table : Holds W "grouping" the_grouping.table
  pub listing_table : Holds W "listing" the_listing.table
  pub pieces_table : Holds W "pieces" the_pieces.table
  pub frames_table : Holds W "frames" the_frames.table
  pub intake_table : Holds W "intake" the_intake.table
  pub runfile_table : Holds W "runfile" the_runfile.table
  pub lanes_table : Holds W "lanes" the_lanes.table
  pub deframing_table : Holds W "deframing" the_deframing.table
  pub replaying_table : Holds W "replaying" the_replaying.table
  pub AnyFrom_from_code : HasT (in_world W) true AnyFrom_from.code
  pub ArrayClone_clone_code : HasT (in_world W) true ArrayClone_clone.code
  pub BoolClone_clone_code : HasT (in_world W) true BoolClone_clone.code
  pub BoolDebug_fmt_code : HasT (in_world W) true BoolDebug_fmt.code
  pub BoolPartialEq_eq_code : HasT (in_world W) true BoolPartialEq_eq.code
  pub ChunksIterator_next_code : HasT (in_world W) true ChunksIterator_next.code
  pub ChunksIterator_size_hint_code : HasT (in_world W) true ChunksIterator_size_hint.code
  pub Clone_clone_code : HasT (in_world W) true Clone_clone.code
  pub CoreIterIterator_next_code : HasT (in_world W) true CoreIterIterator_next.code
  pub CoreIterIterator_size_hint_code : HasT (in_world W) true CoreIterIterator_size_hint.code
  pub Formatter_derived_fields1_code : HasT (in_world W) true Formatter_derived_fields1.code
  pub Formatter_derived_fields2_code : HasT (in_world W) true Formatter_derived_fields2.code
  pub Formatter_derived_fields3_code : HasT (in_world W) true Formatter_derived_fields3.code
  pub Formatter_derived_fields4_code : HasT (in_world W) true Formatter_derived_fields4.code
  pub Formatter_derived_name_code : HasT (in_world W) true Formatter_derived_name.code
  pub IteratorIntoIterator_into_iter_code : HasT (in_world W) true IteratorIntoIterator_into_iter.code
  pub Iterator_map_code : HasT (in_world W) true Iterator_map.code
  pub Iterator_position_code : HasT (in_world W) true Iterator_position.code
  pub Iterator_sum_code : HasT (in_world W) true Iterator_sum.code
  pub MapIterator_next_code : HasT (in_world W) true MapIterator_next.code
  pub MapIterator_size_hint_code : HasT (in_world W) true MapIterator_size_hint.code
  pub OptionDebug_fmt_code : HasT (in_world W) true OptionDebug_fmt.code
  pub OptionFromResidualNoValue_from_residual_code : HasT (in_world W) true OptionFromResidualNoValue_from_residual.code
  pub OptionPartialEq_eq_code : HasT (in_world W) true OptionPartialEq_eq.code
  pub OptionTry_branch_code : HasT (in_world W) true OptionTry_branch.code
  pub Option_copied_code : HasT (in_world W) true Option_copied.code
  pub Option_filter_code : HasT (in_world W) true Option_filter.code
  pub Option_unwrap_or_code : HasT (in_world W) true Option_unwrap_or.code
  pub Ordering_and_eq_code : HasT (in_world W) true Ordering_and_eq.code
  pub RangeToUsizeSliceIndexRefSlice_pick_code : HasT (in_world W) true RangeToUsizeSliceIndexRefSlice_pick.code
  pub RefArrayTryFromRefSlice_try_from_code : HasT (in_world W) true RefArrayTryFromRefSlice_try_from.code
  pub ResultFromResidualErrResidual_from_residual_code : HasT (in_world W) true ResultFromResidualErrResidual_from_residual.code
  pub ResultTry_branch_code : HasT (in_world W) true ResultTry_branch.code
  pub Result_map_code : HasT (in_world W) true Result_map.code
  pub Result_map_err_code : HasT (in_world W) true Result_map_err.code
  pub U16Debug_fmt_code : HasT (in_world W) true U16Debug_fmt.code
  pub U16FromBool_from_code : HasT (in_world W) true U16FromBool_from.code
  pub U16FromU8_from_code : HasT (in_world W) true U16FromU8_from.code
  pub U16PartialEq_eq_code : HasT (in_world W) true U16PartialEq_eq.code
  pub U32Clone_clone_code : HasT (in_world W) true U32Clone_clone.code
  pub U32Debug_fmt_code : HasT (in_world W) true U32Debug_fmt.code
  pub U32FromBool_from_code : HasT (in_world W) true U32FromBool_from.code
  pub U32FromU16_from_code : HasT (in_world W) true U32FromU16_from.code
  pub U32FromU8_from_code : HasT (in_world W) true U32FromU8_from.code
  pub U32PartialEq_eq_code : HasT (in_world W) true U32PartialEq_eq.code
  pub U64FromBool_from_code : HasT (in_world W) true U64FromBool_from.code
  pub U64FromU16_from_code : HasT (in_world W) true U64FromU16_from.code
  pub U64FromU32_from_code : HasT (in_world W) true U64FromU32_from.code
  pub U64FromU8_from_code : HasT (in_world W) true U64FromU8_from.code
  pub U8Clone_clone_code : HasT (in_world W) true U8Clone_clone.code
  pub U8Debug_fmt_code : HasT (in_world W) true U8Debug_fmt.code
  pub U8PartialEq_eq_code : HasT (in_world W) true U8PartialEq_eq.code
  pub UsizeClone_clone_code : HasT (in_world W) true UsizeClone_clone.code
  pub UsizeDebug_fmt_code : HasT (in_world W) true UsizeDebug_fmt.code
  pub UsizeFromBool_from_code : HasT (in_world W) true UsizeFromBool_from.code
  pub UsizeFromU16_from_code : HasT (in_world W) true UsizeFromU16_from.code
  pub UsizeFromU8_from_code : HasT (in_world W) true UsizeFromU8_from.code
  pub UsizePartialEq_eq_code : HasT (in_world W) true UsizePartialEq_eq.code
  pub UsizeSliceIndexRefSlice_pick_code : HasT (in_world W) true UsizeSliceIndexRefSlice_pick.code
  pub UsizeSum_sum_code : HasT (in_world W) true UsizeSum_sum.code
  pub array_from_fn_code : HasT (in_world W) true array_from_fn.code
  pub bool_then_some_code : HasT (in_world W) true bool_then_some.code
  pub slice_as_chunks_code : HasT (in_world W) true slice_as_chunks.code
  pub slice_chunks_code : HasT (in_world W) true slice_chunks.code
  pub slice_copy_from_slice_code : HasT (in_world W) true slice_copy_from_slice.code
  pub slice_get_code : HasT (in_world W) true slice_get.code
  pub slice_is_empty_code : HasT (in_world W) true slice_is_empty.code
  pub slice_iter_code : HasT (in_world W) true slice_iter.code
  pub slice_split_at_code : HasT (in_world W) true slice_split_at.code
  pub u16_from_be_bytes_code : HasT (in_world W) true u16_from_be_bytes.code
  pub u16_min_code : HasT (in_world W) true u16_min.code
  pub u16_to_be_bytes_code : HasT (in_world W) true u16_to_be_bytes.code
  pub u32_from_be_bytes_code : HasT (in_world W) true u32_from_be_bytes.code
  pub u32_to_be_bytes_code : HasT (in_world W) true u32_to_be_bytes.code
  pub u64_ilog10_code : HasT (in_world W) true u64_ilog10.code
  pub u64_max_code : HasT (in_world W) true u64_max.code
  pub usize_div_ceil_code : HasT (in_world W) true usize_div_ceil.code
  pub usize_max_code : HasT (in_world W) true usize_max.code
  pub usize_min_code : HasT (in_world W) true usize_min.code
  pub usize_saturating_sub_code : HasT (in_world W) true usize_saturating_sub.code

-- what each name means in it: its code there
abbrev pub linked : World → Env
linked W = tie_t (in_world W)
