-- In every build of the repository each public function's name means its code: crate by crate, from the lowest.
use mathlib.Core.Bool.{true}
use prog.Linked.{World, in_world}
use prog.LinkedThreads.{HasT, tie_t, tie_t-follows, tie_t-threads, has-wired_t}
use prog.Wired.{Wired}
use Rattle.octets.proofs.Linked as the_octets
use Rattle.refusal.proofs.Linked as the_refusal
use Rattle.putting.proofs.Linked as the_putting
use Rattle.packet.proofs.Linked as the_packet
use Rattle.reading.proofs.Linked as the_reading
use Rattle.marks.proofs.Linked as the_marks
use Rattle.record.proofs.Linked as the_record
use Rattle.text.proofs.Linked as the_text
use Rattle.adler.proofs.Linked as the_adler
use Rattle.walk.proofs.Linked as the_walk
use Rattle.lane.proofs.Linked as the_lane
use Rattle.pool.proofs.Linked as the_pool
use Rattle.writing.proofs.Linked as the_writing
use Rattle.telling.proofs.Linked as the_telling
use Rattle.state.proofs.Linked as the_state
use Rattle.branmuslin.proofs.Linked as the_branmuslin
use Rattle.grouping.proofs.Linked as the_grouping
use Rattle.listing.proofs.Linked as the_listing
use Rattle.pieces.proofs.Linked as the_pieces
use Rattle.frames.proofs.Linked as the_frames
use Rattle.intake.proofs.Linked as the_intake
use Rattle.runfile.proofs.Linked as the_runfile
use Rattle.lanes.proofs.Linked as the_lanes
use Rattle.deframing.proofs.Linked as the_deframing
use Rattle.replaying.proofs.Linked as the_replaying
use Rattle.entries.specs.Exported as name
use Rattle.entries.specs.Exported.{Name}
use Rattle.entries.specs.Functions as public
use Rattle.entries.specs.Functions.{Public, the_entry, function}
use Rattle.entries.specs.Built.{Built}

module _ (W : World) (b : Built W) where
  octets_calls : the_octets.Calls W
  octets_calls = (
    b.U8Clone_clone_code,
    (
      b.Option_unwrap_or_code,
      (
        b.Option_copied_code,
        (
          b.UsizeSliceIndexRefSlice_pick_code,
          (b.slice_get_code, tt),
        ),
      ),
    ),
  )

  refusal_calls : the_refusal.Calls W
  refusal_calls =
      (b.Formatter_derived_name_code, tt)

  putting_calls : the_putting.Calls W
  putting_calls = (
    b.U8Clone_clone_code,
    (
      b.u16_to_be_bytes_code,
      (
        b.u32_to_be_bytes_code,
        (b.slice_copy_from_slice_code, tt),
      ),
    ),
  )

  packet_calls : the_packet.Calls W
  packet_calls = (
    b.Ordering_and_eq_code,
    (
      b.U16PartialEq_eq_code,
      (
        b.U32PartialEq_eq_code,
        (
          b.U8PartialEq_eq_code,
          (
            b.Formatter_derived_fields1_code,
            (
              b.Formatter_derived_fields2_code,
              (
                b.Formatter_derived_fields4_code,
                (
                  b.U16Debug_fmt_code,
                  (
                    b.U32Debug_fmt_code,
                    (
                      b.U8Debug_fmt_code,
                      (
                        the_refusal.has_RefusalDebug_fmt W b.refusal_table refusal_calls,
                        (the_refusal.has_RefusalPartialEq_eq W b.refusal_table refusal_calls, tt),
                      ),
                    ),
                  ),
                ),
              ),
            ),
          ),
        ),
      ),
    ),
  )

  reading_calls : the_reading.Calls W
  reading_calls = (
    b.AnyFrom_from_code,
    (
      b.ResultFromResidualErrResidual_from_residual_code,
      (
        b.ResultTry_branch_code,
        (
          b.slice_is_empty_code,
          (
            the_octets.has_be16_at W b.octets_table octets_calls,
            (
              the_octets.has_be32_at W b.octets_table octets_calls,
              (
                the_octets.has_octet_at W b.octets_table octets_calls,
                (
                  the_packet.has_header_of W b.packet_table packet_calls,
                  (the_packet.has_size_of W b.packet_table packet_calls, tt),
                ),
              ),
            ),
          ),
        ),
      ),
    ),
  )

  marks_calls : the_marks.Calls W
  marks_calls = (
    b.U16FromU8_from_code,
    (
      b.UsizeFromU16_from_code,
      (
        b.UsizeFromU8_from_code,
        (
          b.U16FromBool_from_code,
          (
            b.u16_min_code,
            (
              b.usize_div_ceil_code,
              (
                b.usize_min_code,
                (
                  b.UsizeSum_sum_code,
                  (
                    b.Iterator_map_code,
                    (
                      b.Iterator_position_code,
                      (
                        b.Iterator_sum_code,
                        (
                          b.MapIterator_next_code,
                          (
                            b.MapIterator_size_hint_code,
                            (
                              b.CoreIterIterator_next_code,
                              (
                                b.CoreIterIterator_size_hint_code,
                                (
                                  b.slice_iter_code,
                                  (
                                    b.Option_unwrap_or_code,
                                    (b.array_from_fn_code, tt),
                                  ),
                                ),
                              ),
                            ),
                          ),
                        ),
                      ),
                    ),
                  ),
                ),
              ),
            ),
          ),
        ),
      ),
    ),
  )

  record_calls : the_record.Calls W
  record_calls = (
    b.Ordering_and_eq_code,
    (
      b.U16PartialEq_eq_code,
      (
        b.U32PartialEq_eq_code,
        (
          b.UsizePartialEq_eq_code,
          (
            b.RefArrayTryFromRefSlice_try_from_code,
            (
              b.Formatter_derived_fields1_code,
              (
                b.Formatter_derived_fields2_code,
                (
                  b.Formatter_derived_fields4_code,
                  (
                    b.Formatter_derived_name_code,
                    (
                      b.U16Debug_fmt_code,
                      (
                        b.U32Debug_fmt_code,
                        (
                          b.UsizeDebug_fmt_code,
                          (
                            b.u16_from_be_bytes_code,
                            (
                              b.u32_from_be_bytes_code,
                              (
                                b.usize_min_code,
                                (
                                  b.Iterator_position_code,
                                  (
                                    b.CoreIterIterator_next_code,
                                    (
                                      b.CoreIterIterator_size_hint_code,
                                      (
                                        b.slice_iter_code,
                                        (
                                          b.slice_as_chunks_code,
                                          (
                                            b.slice_is_empty_code,
                                            (
                                              the_putting.has_put_be16 W b.putting_table putting_calls,
                                              (
                                                the_putting.has_put_be32 W b.putting_table putting_calls,
                                                (the_putting.has_put_octets W b.putting_table putting_calls, tt),
                                              ),
                                            ),
                                          ),
                                        ),
                                      ),
                                    ),
                                  ),
                                ),
                              ),
                            ),
                          ),
                        ),
                      ),
                    ),
                  ),
                ),
              ),
            ),
          ),
        ),
      ),
    ),
  )

  text_calls : the_text.Calls W
  text_calls = (
    b.u64_ilog10_code,
    (
      b.u64_max_code,
      (
        b.usize_min_code,
        (
          b.usize_saturating_sub_code,
          (the_putting.has_put_octets W b.putting_table putting_calls, tt),
        ),
      ),
    ),
  )

  adler_calls : the_adler.Calls W
  adler_calls = (
    b.ChunksIterator_next_code,
    (
      b.ChunksIterator_size_hint_code,
      (
        b.slice_chunks_code,
        (b.IteratorIntoIterator_into_iter_code, tt),
      ),
    ),
  )

  walk_calls : the_walk.Calls W
  walk_calls = (
    b.Ordering_and_eq_code,
    (
      b.OptionPartialEq_eq_code,
      (
        b.UsizePartialEq_eq_code,
        (
          b.OptionDebug_fmt_code,
          (
            b.Formatter_derived_fields2_code,
            (
              b.Formatter_derived_fields3_code,
              (
                b.UsizeDebug_fmt_code,
                (
                  the_packet.has_PacketDebug_fmt W b.packet_table packet_calls,
                  (
                    the_packet.has_PacketPartialEq_eq W b.packet_table packet_calls,
                    (
                      the_packet.has_UnreadDebug_fmt W b.packet_table packet_calls,
                      (
                        the_packet.has_UnreadPartialEq_eq W b.packet_table packet_calls,
                        (
                          the_packet.has_size_of W b.packet_table packet_calls,
                          (the_reading.has_read_packet W b.reading_table reading_calls, tt),
                        ),
                      ),
                    ),
                  ),
                ),
              ),
            ),
          ),
        ),
      ),
    ),
  )

  lane_calls : the_lane.Calls W
  lane_calls = (
    b.Ordering_and_eq_code,
    (
      b.BoolPartialEq_eq_code,
      (
        b.U16PartialEq_eq_code,
        (
          b.U32PartialEq_eq_code,
          (
            b.U8PartialEq_eq_code,
            (
              b.U64FromU32_from_code,
              (
                b.UsizeFromU16_from_code,
                (
                  b.UsizeFromU8_from_code,
                  (
                    b.U64FromBool_from_code,
                    (
                      b.BoolDebug_fmt_code,
                      (
                        b.Formatter_derived_fields1_code,
                        (
                          b.Formatter_derived_fields4_code,
                          (
                            b.U16Debug_fmt_code,
                            (
                              b.U32Debug_fmt_code,
                              (
                                b.U8Debug_fmt_code,
                                (
                                  b.usize_max_code,
                                  (
                                    the_marks.has_blocks_for W b.marks_table marks_calls,
                                    (the_record.has_is_possible W b.record_table record_calls, tt),
                                  ),
                                ),
                              ),
                            ),
                          ),
                        ),
                      ),
                    ),
                  ),
                ),
              ),
            ),
          ),
        ),
      ),
    ),
  )

  pool_calls : the_pool.Calls W
  pool_calls = (
    b.U16FromU8_from_code,
    (
      b.UsizeFromU16_from_code,
      (
        b.UsizeFromU8_from_code,
        (
          b.usize_min_code,
          (
            b.slice_split_at_code,
            (
              b.slice_is_empty_code,
              (
                the_marks.has_blocks_for W b.marks_table marks_calls,
                (
                  the_marks.has_find_from W b.marks_table marks_calls,
                  (the_putting.has_put_octets W b.putting_table putting_calls, tt),
                ),
              ),
            ),
          ),
        ),
      ),
    ),
  )

  writing_calls : the_writing.Calls W
  writing_calls = (
    b.AnyFrom_from_code,
    (
      b.ResultFromResidualErrResidual_from_residual_code,
      (
        b.ResultTry_branch_code,
        (
          the_putting.has_put_be16 W b.putting_table putting_calls,
          (
            the_putting.has_put_be32 W b.putting_table putting_calls,
            (
              the_putting.has_put_octet W b.putting_table putting_calls,
              (the_putting.has_put_octets W b.putting_table putting_calls, tt),
            ),
          ),
        ),
      ),
    ),
  )

  telling_calls : the_telling.Calls W
  telling_calls = (
    the_adler.has_adler32 W b.adler_table adler_calls,
    (
      b.BoolClone_clone_code,
      (
        b.UsizeClone_clone_code,
        (
          b.usize_saturating_sub_code,
          (
            the_text.has_put W b.text_table text_calls,
            (
              the_text.has_put_decimal W b.text_table text_calls,
              (the_text.has_put_numbers W b.text_table text_calls, tt),
            ),
          ),
        ),
      ),
    ),
  )

  state_calls : the_state.Calls W
  state_calls = (
    b.bool_then_some_code,
    (
      b.UsizeFromU16_from_code,
      (
        b.UsizeSliceIndexRefSlice_pick_code,
        (
          b.slice_get_code,
          (
            the_lane.has_is_fine W b.lane_table lane_calls,
            (
              the_lane.has_need_of W b.lane_table lane_calls,
              (
                the_marks.has_blocks_for W b.marks_table marks_calls,
                (the_marks.has_marks_match W b.marks_table marks_calls, tt),
              ),
            ),
          ),
        ),
      ),
    ),
  )

  branmuslin_calls : the_branmuslin.Calls W
  branmuslin_calls = (
    b.ArrayClone_clone_code,
    (
      b.U32Clone_clone_code,
      (
        b.UsizeClone_clone_code,
        (
          b.Result_map_code,
          (
            b.Result_map_err_code,
            (
              the_reading.has_read_packet W b.reading_table reading_calls,
              (
                the_record.has_RefusalFromFileFault_from W b.record_table record_calls,
                (
                  the_record.has_read_record W b.record_table record_calls,
                  (
                    the_record.has_read_record_file W b.record_table record_calls,
                    (
                      the_record.has_write_record W b.record_table record_calls,
                      (
                        the_refusal.has_U8FromRefusal_from W b.refusal_table refusal_calls,
                        (
                          the_writing.has_write_encapsulation W b.writing_table writing_calls,
                          (the_writing.has_write_space W b.writing_table writing_calls, tt),
                        ),
                      ),
                    ),
                  ),
                ),
              ),
            ),
          ),
        ),
      ),
    ),
  )

  grouping_calls : the_grouping.Calls W
  grouping_calls = (
    b.U32FromU8_from_code,
    (
      b.ResultFromResidualErrResidual_from_residual_code,
      (
        b.ResultTry_branch_code,
        (
          the_marks.has_blocks_for W b.marks_table marks_calls,
          (
            the_packet.has_size_of W b.packet_table packet_calls,
            (the_reading.has_read_packet W b.reading_table reading_calls, tt),
          ),
        ),
      ),
    ),
  )

  listing_calls : the_listing.Calls W
  listing_calls = (
    b.U64FromU32_from_code,
    (
      b.U64FromU8_from_code,
      (
        b.usize_min_code,
        (
          b.Option_unwrap_or_code,
          (
            the_refusal.has_U8FromRefusal_from W b.refusal_table refusal_calls,
            (
              the_text.has_put W b.text_table text_calls,
              (
                the_text.has_put_decimal W b.text_table text_calls,
                (
                  the_text.has_put_numbers W b.text_table text_calls,
                  (the_walk.has_look_at W b.walk_table walk_calls, tt),
                ),
              ),
            ),
          ),
        ),
      ),
    ),
  )

  pieces_calls : the_pieces.Calls W
  pieces_calls = (
    b.AnyFrom_from_code,
    (
      b.usize_min_code,
      (
        b.ResultFromResidualErrResidual_from_residual_code,
        (
          b.ResultTry_branch_code,
          (
            the_octets.has_be16_at W b.octets_table octets_calls,
            (
              the_octets.has_octet_at W b.octets_table octets_calls,
              (
                the_putting.has_put_octets W b.putting_table putting_calls,
                (
                  the_reading.has_sizes_in W b.reading_table reading_calls,
                  (the_walk.has_walk W b.walk_table walk_calls, tt),
                ),
              ),
            ),
          ),
        ),
      ),
    ),
  )

  frames_calls : the_frames.Calls W
  frames_calls = (
    b.U32FromU8_from_code,
    (
      b.UsizeFromBool_from_code,
      (
        b.usize_min_code,
        (
          b.ResultFromResidualErrResidual_from_residual_code,
          (
            b.ResultTry_branch_code,
            (
              the_pieces.has_judge_joined W b.pieces_table pieces_calls,
              (
                the_pieces.has_read_on W b.pieces_table pieces_calls,
                (
                  the_putting.has_put_octets W b.putting_table putting_calls,
                  (the_refusal.has_U8FromRefusal_from W b.refusal_table refusal_calls, tt),
                ),
              ),
            ),
          ),
        ),
      ),
    ),
  )

  intake_calls : the_intake.Calls W
  intake_calls = (
    b.Clone_clone_code,
    (
      b.AnyFrom_from_code,
      (
        b.U32FromU16_from_code,
        (
          b.UsizeFromU8_from_code,
          (
            b.U32FromBool_from_code,
            (
              b.usize_min_code,
              (
                b.Option_unwrap_or_code,
                (
                  b.Option_copied_code,
                  (
                    b.ResultFromResidualErrResidual_from_residual_code,
                    (
                      b.ResultTry_branch_code,
                      (
                        b.UsizeSliceIndexRefSlice_pick_code,
                        (
                          b.slice_get_code,
                          (
                            the_grouping.has_plan_packet W b.grouping_table grouping_calls,
                            (
                              the_lane.has_is_illegal W b.lane_table lane_calls,
                              (
                                the_marks.has_blocks_for W b.marks_table marks_calls,
                                (
                                  the_marks.has_free_blocks W b.marks_table marks_calls,
                                  (
                                    the_marks.has_grant_blocks W b.marks_table marks_calls,
                                    (
                                      the_pool.has_gather_octets W b.pool_table pool_calls,
                                      (
                                        the_pool.has_store_octets W b.pool_table pool_calls,
                                        (
                                          the_putting.has_put_octets W b.putting_table putting_calls,
                                          (
                                            the_record.has_write_record W b.record_table record_calls,
                                            (
                                              the_refusal.has_U8FromRefusal_from W b.refusal_table refusal_calls,
                                              (
                                                the_state.has_is_unsound W b.state_table state_calls,
                                                (the_state.has_is_within W b.state_table state_calls, tt),
                                              ),
                                            ),
                                          ),
                                        ),
                                      ),
                                    ),
                                  ),
                                ),
                              ),
                            ),
                          ),
                        ),
                      ),
                    ),
                  ),
                ),
              ),
            ),
          ),
        ),
      ),
    ),
  )

  runfile_calls : the_runfile.Calls W
  runfile_calls = (
    b.Ordering_and_eq_code,
    (
      b.U32PartialEq_eq_code,
      (
        b.U8PartialEq_eq_code,
        (
          b.Formatter_derived_fields2_code,
          (
            b.Formatter_derived_fields3_code,
            (
              b.U32Debug_fmt_code,
              (
                b.U8Debug_fmt_code,
                (
                  b.Option_filter_code,
                  (
                    the_lane.has_SettingsDebug_fmt W b.lane_table lane_calls,
                    (
                      the_lane.has_SettingsPartialEq_eq W b.lane_table lane_calls,
                      (
                        the_octets.has_be16_at W b.octets_table octets_calls,
                        (
                          the_octets.has_be32_at W b.octets_table octets_calls,
                          (
                            the_octets.has_octet_at W b.octets_table octets_calls,
                            (the_state.has_fresh_start W b.state_table state_calls, tt),
                          ),
                        ),
                      ),
                    ),
                  ),
                ),
              ),
            ),
          ),
        ),
      ),
    ),
  )

  lanes_calls : the_lanes.Calls W
  lanes_calls = (
    the_intake.has_close_lane W b.intake_table intake_calls,
    (
      the_intake.has_open_lane W b.intake_table intake_calls,
      (
        the_intake.has_take_packet W b.intake_table intake_calls,
        (
          the_refusal.has_U8FromRefusal_from W b.refusal_table refusal_calls,
          (
            the_state.has_fresh_start W b.state_table state_calls,
            (the_state.has_is_sound W b.state_table state_calls, tt),
          ),
        ),
      ),
    ),
  )

  deframing_calls : the_deframing.Calls W
  deframing_calls = (
    the_adler.has_adler32 W b.adler_table adler_calls,
    (
      b.U32FromU16_from_code,
      (
        b.U64FromU16_from_code,
        (
          b.U64FromU32_from_code,
          (
            b.U64FromU8_from_code,
            (
              b.UsizeFromU16_from_code,
              (
                b.U64FromBool_from_code,
                (
                  b.RangeToUsizeSliceIndexRefSlice_pick_code,
                  (
                    b.slice_get_code,
                    (
                      the_frames.has_branmuslin_take_frame W b.frames_table frames_calls,
                      (
                        the_octets.has_be16_at W b.octets_table octets_calls,
                        (
                          the_telling.has_is_ready W b.telling_table telling_calls,
                          (
                            the_telling.has_put_last W b.telling_table telling_calls,
                            (
                              the_telling.has_put_line W b.telling_table telling_calls,
                              (the_text.has_put W b.text_table text_calls, tt),
                            ),
                          ),
                        ),
                      ),
                    ),
                  ),
                ),
              ),
            ),
          ),
        ),
      ),
    ),
  )

  replaying_calls : the_replaying.Calls W
  replaying_calls = (
    the_adler.has_adler32 W b.adler_table adler_calls,
    (
      b.U64FromU32_from_code,
      (
        b.U64FromU8_from_code,
        (
          b.U64FromBool_from_code,
          (
            b.usize_min_code,
            (
              b.OptionFromResidualNoValue_from_residual_code,
              (
                b.OptionTry_branch_code,
                (
                  the_intake.has_close_lane W b.intake_table intake_calls,
                  (
                    the_intake.has_open_lane W b.intake_table intake_calls,
                    (
                      the_intake.has_take_packet W b.intake_table intake_calls,
                      (
                        the_record.has_front_record W b.record_table record_calls,
                        (
                          the_refusal.has_U8FromRefusal_from W b.refusal_table refusal_calls,
                          (
                            the_runfile.has_call_in W b.runfile_table runfile_calls,
                            (
                              the_telling.has_is_ready W b.telling_table telling_calls,
                              (
                                the_telling.has_put_last W b.telling_table telling_calls,
                                (
                                  the_telling.has_put_line W b.telling_table telling_calls,
                                  (the_text.has_put W b.text_table text_calls, tt),
                                ),
                              ),
                            ),
                          ),
                        ),
                      ),
                    ),
                  ),
                ),
              ),
            ),
          ),
        ),
      ),
    ),
  )

  of_entry : (n : Name) → HasT (in_world W) true (function (the_entry n)).code
  of_entry name.read_packet = the_reading.has_read_packet W b.reading_table reading_calls
  of_entry name.data_of = the_reading.has_data_of W b.reading_table reading_calls
  of_entry name.look_at = the_walk.has_look_at W b.walk_table walk_calls
  of_entry name.walk = the_walk.has_walk W b.walk_table walk_calls
  of_entry name.write_space = the_writing.has_write_space W b.writing_table writing_calls
  of_entry name.write_encapsulation = the_writing.has_write_encapsulation W b.writing_table writing_calls
  of_entry name.read_record = the_record.has_read_record W b.record_table record_calls
  of_entry name.read_record_file = the_record.has_read_record_file W b.record_table record_calls
  of_entry name.write_record = the_record.has_write_record W b.record_table record_calls
  of_entry name.fresh_start = the_state.has_fresh_start W b.state_table state_calls
  of_entry name.is_sound = the_state.has_is_sound W b.state_table state_calls
  of_entry name.open_lane = the_intake.has_open_lane W b.intake_table intake_calls
  of_entry name.take_packet = the_intake.has_take_packet W b.intake_table intake_calls
  of_entry name.close_lane = the_intake.has_close_lane W b.intake_table intake_calls
  of_entry name.list = the_listing.has_list W b.listing_table listing_calls
  of_entry name.list_recording = the_listing.has_list_recording W b.listing_table listing_calls
  of_entry name.branmuslin_read_packet = the_branmuslin.has_branmuslin_read_packet W b.branmuslin_table branmuslin_calls
  of_entry name.branmuslin_write_space = the_branmuslin.has_branmuslin_write_space W b.branmuslin_table branmuslin_calls
  of_entry name.branmuslin_write_encapsulation = the_branmuslin.has_branmuslin_write_encapsulation W b.branmuslin_table branmuslin_calls
  of_entry name.branmuslin_read_record = the_branmuslin.has_branmuslin_read_record W b.branmuslin_table branmuslin_calls
  of_entry name.branmuslin_read_record_file = the_branmuslin.has_branmuslin_read_record_file W b.branmuslin_table branmuslin_calls
  of_entry name.branmuslin_write_record = the_branmuslin.has_branmuslin_write_record W b.branmuslin_table branmuslin_calls
  of_entry name.branmuslin_fresh_start = the_lanes.has_branmuslin_fresh_start W b.lanes_table lanes_calls
  of_entry name.branmuslin_is_sound = the_lanes.has_branmuslin_is_sound W b.lanes_table lanes_calls
  of_entry name.branmuslin_open_lane = the_lanes.has_branmuslin_open_lane W b.lanes_table lanes_calls
  of_entry name.branmuslin_take_packet = the_lanes.has_branmuslin_take_packet W b.lanes_table lanes_calls
  of_entry name.branmuslin_close_lane = the_lanes.has_branmuslin_close_lane W b.lanes_table lanes_calls
  of_entry name.branmuslin_fresh_frames = the_frames.has_branmuslin_fresh_frames W b.frames_table frames_calls
  of_entry name.branmuslin_take_frame = the_frames.has_branmuslin_take_frame W b.frames_table frames_calls

  has : (p : Public) → HasT (in_world W) true (function p).code
  has (the_entry n) = of_entry n
  has public.octet_at = the_octets.has_octet_at W b.octets_table octets_calls
  has public.be16_at = the_octets.has_be16_at W b.octets_table octets_calls
  has public.be32_at = the_octets.has_be32_at W b.octets_table octets_calls
  has public.put_octets = the_putting.has_put_octets W b.putting_table putting_calls
  has public.put_octet = the_putting.has_put_octet W b.putting_table putting_calls
  has public.put_be16 = the_putting.has_put_be16 W b.putting_table putting_calls
  has public.put_be32 = the_putting.has_put_be32 W b.putting_table putting_calls
  has public.header_of = the_packet.has_header_of W b.packet_table packet_calls
  has public.size_of = the_packet.has_size_of W b.packet_table packet_calls
  has public.sizes_in = the_reading.has_sizes_in W b.reading_table reading_calls
  has public.judge_joined = the_pieces.has_judge_joined W b.pieces_table pieces_calls
  has public.read_on = the_pieces.has_read_on W b.pieces_table pieces_calls
  has public.is_possible = the_record.has_is_possible W b.record_table record_calls
  has public.front_record = the_record.has_front_record W b.record_table record_calls
  has public.blocks_for = the_marks.has_blocks_for W b.marks_table marks_calls
  has public.find_from = the_marks.has_find_from W b.marks_table marks_calls
  has public.grant_blocks = the_marks.has_grant_blocks W b.marks_table marks_calls
  has public.free_blocks = the_marks.has_free_blocks W b.marks_table marks_calls
  has public.marks_match = the_marks.has_marks_match W b.marks_table marks_calls
  has public.store_octets = the_pool.has_store_octets W b.pool_table pool_calls
  has public.gather_octets = the_pool.has_gather_octets W b.pool_table pool_calls
  has public.need_of = the_lane.has_need_of W b.lane_table lane_calls
  has public.is_illegal = the_lane.has_is_illegal W b.lane_table lane_calls
  has public.is_fine = the_lane.has_is_fine W b.lane_table lane_calls
  has public.plan_packet = the_grouping.has_plan_packet W b.grouping_table grouping_calls
  has public.is_within = the_state.has_is_within W b.state_table state_calls
  has public.is_unsound = the_state.has_is_unsound W b.state_table state_calls
  has public.put = the_text.has_put W b.text_table text_calls
  has public.put_decimal = the_text.has_put_decimal W b.text_table text_calls
  has public.put_numbers = the_text.has_put_numbers W b.text_table text_calls
  has public.written = the_listing.has_written W b.listing_table listing_calls
  has public.is_ready = the_telling.has_is_ready W b.telling_table telling_calls
  has public.put_line = the_telling.has_put_line W b.telling_table telling_calls
  has public.put_bad = the_telling.has_put_bad W b.telling_table telling_calls
  has public.put_last = the_telling.has_put_last W b.telling_table telling_calls
  has public.adler32 = the_adler.has_adler32 W b.adler_table adler_calls
  has public.begin = the_runfile.has_begin W b.runfile_table runfile_calls
  has public.call_in = the_runfile.has_call_in W b.runfile_table runfile_calls
  has public.replay_some = the_replaying.has_replay_some W b.replaying_table replaying_calls
  has public.tell_next = the_deframing.has_tell_next W b.deframing_table deframing_calls
  has public.u8_from_refusal = the_refusal.has_U8FromRefusal_from W b.refusal_table refusal_calls
  has public.refusal_from_file_fault = the_record.has_RefusalFromFileFault_from W b.record_table record_calls
  has public.refused_from_unread = the_grouping.has_RefusedFromUnread_from W b.grouping_table grouping_calls
  has public.refused_from_refusal = the_grouping.has_RefusedFromRefusal_from W b.grouping_table grouping_calls
  has public.answer_from_step = the_intake.has_AnswerFromStep_from W b.intake_table intake_calls
  has public.numbered_from_answered = the_lanes.has_NumberedFromAnswered_from W b.lanes_table lanes_calls

  pub there : (p : Public) → Wired (tie_t (in_world W)) (function p).code
  there p = has-wired_t (in_world W) (tie_t (in_world W)) (tie_t-follows (in_world W)) (tie_t-threads (in_world W)) (function p).code (has p)
