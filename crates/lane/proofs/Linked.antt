-- The crate's code as the table that a program is linked from: wherever it is, and what it calls of other crates is, so is the code of each public function.
use mathlib.Core.Bool.{true}
use prog.Linked.{Tree, World, Holds, in_world}
use prog.LinkedThreads.{HasT}
use Rattle.lane.proofs.TheLink as Link
use Rattle.std.proofs.cmp.Ordering.and_eq.Symbol as Ordering_and_eq
use Rattle.std.proofs.prelude.BoolPartialEq.eq.Symbol as BoolPartialEq_eq
use Rattle.std.proofs.prelude.U16PartialEq.eq.Symbol as U16PartialEq_eq
use Rattle.std.proofs.prelude.U32PartialEq.eq.Symbol as U32PartialEq_eq
use Rattle.std.proofs.prelude.U8PartialEq.eq.Symbol as U8PartialEq_eq
use Rattle.std.proofs.prelude.U64FromU32.from.Symbol as U64FromU32_from
use Rattle.std.proofs.prelude.UsizeFromU16.from.Symbol as UsizeFromU16_from
use Rattle.std.proofs.prelude.UsizeFromU8.from.Symbol as UsizeFromU8_from
use Rattle.std.proofs.prelude.U64FromBool.from.Symbol as U64FromBool_from
use Rattle.std.proofs.prelude.BoolDebug.fmt.Symbol as BoolDebug_fmt
use Rattle.std.proofs.fmt.Formatter.derived_fields1.Symbol as Formatter_derived_fields1
use Rattle.std.proofs.fmt.Formatter.derived_fields4.Symbol as Formatter_derived_fields4
use Rattle.std.proofs.prelude.U16Debug.fmt.Symbol as U16Debug_fmt
use Rattle.std.proofs.prelude.U32Debug.fmt.Symbol as U32Debug_fmt
use Rattle.std.proofs.prelude.U8Debug.fmt.Symbol as U8Debug_fmt
use Rattle.std.below.core.proofs.int.usize.max.Symbol as usize_max
use Rattle.marks.proofs.blocks_for.Symbol as marks_blocks_for
use Rattle.record.proofs.is_possible.Symbol as record_is_possible
use Rattle.lane.proofs.need_of.Symbol as own_need_of
use Rattle.lane.proofs.is_illegal.Symbol as own_is_illegal
use Rattle.lane.proofs.is_fine.Symbol as own_is_fine
use Rattle.lane.proofs.SettingsDebug.fmt.Symbol as own_SettingsDebug_fmt
use Rattle.lane.proofs.SettingsPartialEq.eq.Symbol as own_SettingsPartialEq_eq

pub table : Tree
table = Link.table

-- what it calls of other crates
abbrev pub Calls : World → Type 0
Calls W =
    HasT (in_world W) true Ordering_and_eq.code ×
    (HasT (in_world W) true BoolPartialEq_eq.code ×
    (HasT (in_world W) true U16PartialEq_eq.code ×
    (HasT (in_world W) true U32PartialEq_eq.code ×
    (HasT (in_world W) true U8PartialEq_eq.code ×
    (HasT (in_world W) true U64FromU32_from.code ×
    (HasT (in_world W) true UsizeFromU16_from.code ×
    (HasT (in_world W) true UsizeFromU8_from.code ×
    (HasT (in_world W) true U64FromBool_from.code ×
    (HasT (in_world W) true BoolDebug_fmt.code ×
    (HasT (in_world W) true Formatter_derived_fields1.code ×
    (HasT (in_world W) true Formatter_derived_fields4.code ×
    (HasT (in_world W) true U16Debug_fmt.code ×
    (HasT (in_world W) true U32Debug_fmt.code ×
    (HasT (in_world W) true U8Debug_fmt.code ×
    (HasT (in_world W) true usize_max.code ×
    (HasT (in_world W) true marks_blocks_for.code ×
    (HasT (in_world W) true record_is_possible.code ×
    Unit {0})))))))))))))))))

pub has_need_of : (W : World) → Holds W "lane" table → Calls W → HasT (in_world W) true own_need_of.code
unfolding table
has_need_of W here calls = Link.linked-lane::need_of W here calls

pub has_is_illegal : (W : World) → Holds W "lane" table → Calls W → HasT (in_world W) true own_is_illegal.code
unfolding table
has_is_illegal W here calls = Link.linked-lane::is_illegal W here calls

pub has_is_fine : (W : World) → Holds W "lane" table → Calls W → HasT (in_world W) true own_is_fine.code
unfolding table
has_is_fine W here calls = Link.linked-lane::is_fine W here calls

pub has_SettingsDebug_fmt : (W : World) → Holds W "lane" table → Calls W → HasT (in_world W) true own_SettingsDebug_fmt.code
unfolding table
has_SettingsDebug_fmt W here calls = Link.linked-lane::SettingsDebug::fmt W here calls

pub has_SettingsPartialEq_eq : (W : World) → Holds W "lane" table → Calls W → HasT (in_world W) true own_SettingsPartialEq_eq.code
unfolding table
has_SettingsPartialEq_eq W here calls = Link.linked-lane::SettingsPartialEq::eq W here calls
