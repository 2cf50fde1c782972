-- The crate's code as the table that a program is linked from: wherever it is, and what it calls of other crates is, so is the code of each public function.
use mathlib.Core.Bool.{true}
use prog.Linked.{Tree, World, Holds, in_world}
use prog.LinkedThreads.{HasT}
use Rattle.deframing.proofs.TheLink as Link
use Rattle.adler.proofs.adler32.Symbol as adler_adler32
use Rattle.std.proofs.prelude.U32FromU16.from.Symbol as U32FromU16_from
use Rattle.std.proofs.prelude.U64FromU16.from.Symbol as U64FromU16_from
use Rattle.std.proofs.prelude.U64FromU32.from.Symbol as U64FromU32_from
use Rattle.std.proofs.prelude.U64FromU8.from.Symbol as U64FromU8_from
use Rattle.std.proofs.prelude.UsizeFromU16.from.Symbol as UsizeFromU16_from
use Rattle.std.proofs.prelude.U64FromBool.from.Symbol as U64FromBool_from
use Rattle.std.proofs.prelude.RangeToUsizeSliceIndexRefSlice.pick.Symbol as RangeToUsizeSliceIndexRefSlice_pick
use Rattle.std.below.core.proofs.slice.slice+T.get.Symbol as slice_get
use Rattle.frames.proofs.branmuslin_take_frame.Symbol as frames_branmuslin_take_frame
use Rattle.octets.proofs.be16_at.Symbol as octets_be16_at
use Rattle.telling.proofs.is_ready.Symbol as telling_is_ready
use Rattle.telling.proofs.put_last.Symbol as telling_put_last
use Rattle.telling.proofs.put_line.Symbol as telling_put_line
use Rattle.text.proofs.put.Symbol as text_put
use Rattle.deframing.proofs.tell_next.Symbol as own_tell_next

pub table : Tree
table = Link.table

-- what it calls of other crates
abbrev pub Calls : World → Type 0
Calls W =
    HasT (in_world W) true adler_adler32.code ×
    (HasT (in_world W) true U32FromU16_from.code ×
    (HasT (in_world W) true U64FromU16_from.code ×
    (HasT (in_world W) true U64FromU32_from.code ×
    (HasT (in_world W) true U64FromU8_from.code ×
    (HasT (in_world W) true UsizeFromU16_from.code ×
    (HasT (in_world W) true U64FromBool_from.code ×
    (HasT (in_world W) true RangeToUsizeSliceIndexRefSlice_pick.code ×
    (HasT (in_world W) true slice_get.code ×
    (HasT (in_world W) true frames_branmuslin_take_frame.code ×
    (HasT (in_world W) true octets_be16_at.code ×
    (HasT (in_world W) true telling_is_ready.code ×
    (HasT (in_world W) true telling_put_last.code ×
    (HasT (in_world W) true telling_put_line.code ×
    (HasT (in_world W) true text_put.code ×
    Unit {0}))))))))))))))

pub has_tell_next : (W : World) → Holds W "deframing" table → Calls W → HasT (in_world W) true own_tell_next.code
unfolding table
has_tell_next W here calls = Link.linked-deframing::tell_next W here calls
