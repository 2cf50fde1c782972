-- The crate's code as the table that a program is linked from: wherever it is, and what it calls of other crates is, so is the code of each public function.
use mathlib.Core.Bool.{true}
use prog.Linked.{Tree, World, Holds, in_world}
use prog.LinkedThreads.{HasT}
use Rattle.packet.proofs.TheLink as Link
use Rattle.std.proofs.cmp.Ordering.and_eq.Symbol as Ordering_and_eq
use Rattle.std.proofs.prelude.U16PartialEq.eq.Symbol as U16PartialEq_eq
use Rattle.std.proofs.prelude.U32PartialEq.eq.Symbol as U32PartialEq_eq
use Rattle.std.proofs.prelude.U8PartialEq.eq.Symbol as U8PartialEq_eq
use Rattle.std.proofs.fmt.Formatter.derived_fields1.Symbol as Formatter_derived_fields1
use Rattle.std.proofs.fmt.Formatter.derived_fields2.Symbol as Formatter_derived_fields2
use Rattle.std.proofs.fmt.Formatter.derived_fields4.Symbol as Formatter_derived_fields4
use Rattle.std.proofs.prelude.U16Debug.fmt.Symbol as U16Debug_fmt
use Rattle.std.proofs.prelude.U32Debug.fmt.Symbol as U32Debug_fmt
use Rattle.std.proofs.prelude.U8Debug.fmt.Symbol as U8Debug_fmt
use Rattle.refusal.proofs.RefusalDebug.fmt.Symbol as refusal_RefusalDebug_fmt
use Rattle.refusal.proofs.RefusalPartialEq.eq.Symbol as refusal_RefusalPartialEq_eq
use Rattle.packet.proofs.header_of.Symbol as own_header_of
use Rattle.packet.proofs.size_of.Symbol as own_size_of
use Rattle.packet.proofs.PacketDebug.fmt.Symbol as own_PacketDebug_fmt
use Rattle.packet.proofs.PacketPartialEq.eq.Symbol as own_PacketPartialEq_eq
use Rattle.packet.proofs.UnreadDebug.fmt.Symbol as own_UnreadDebug_fmt
use Rattle.packet.proofs.UnreadPartialEq.eq.Symbol as own_UnreadPartialEq_eq

pub table : Tree
table = Link.table

-- what it calls of other crates
abbrev pub Calls : World → Type 0
Calls W =
    HasT (in_world W) true Ordering_and_eq.code ×
    (HasT (in_world W) true U16PartialEq_eq.code ×
    (HasT (in_world W) true U32PartialEq_eq.code ×
    (HasT (in_world W) true U8PartialEq_eq.code ×
    (HasT (in_world W) true Formatter_derived_fields1.code ×
    (HasT (in_world W) true Formatter_derived_fields2.code ×
    (HasT (in_world W) true Formatter_derived_fields4.code ×
    (HasT (in_world W) true U16Debug_fmt.code ×
    (HasT (in_world W) true U32Debug_fmt.code ×
    (HasT (in_world W) true U8Debug_fmt.code ×
    (HasT (in_world W) true refusal_RefusalDebug_fmt.code ×
    (HasT (in_world W) true refusal_RefusalPartialEq_eq.code ×
    Unit {0})))))))))))

pub has_header_of : (W : World) → Holds W "packet" table → Calls W → HasT (in_world W) true own_header_of.code
unfolding table
has_header_of W here calls = Link.linked-packet::header_of W here calls

pub has_size_of : (W : World) → Holds W "packet" table → Calls W → HasT (in_world W) true own_size_of.code
unfolding table
has_size_of W here calls = Link.linked-packet::size_of W here calls

pub has_PacketDebug_fmt : (W : World) → Holds W "packet" table → Calls W → HasT (in_world W) true own_PacketDebug_fmt.code
unfolding table
has_PacketDebug_fmt W here calls = Link.linked-packet::PacketDebug::fmt W here calls

pub has_PacketPartialEq_eq : (W : World) → Holds W "packet" table → Calls W → HasT (in_world W) true own_PacketPartialEq_eq.code
unfolding table
has_PacketPartialEq_eq W here calls = Link.linked-packet::PacketPartialEq::eq W here calls

pub has_UnreadDebug_fmt : (W : World) → Holds W "packet" table → Calls W → HasT (in_world W) true own_UnreadDebug_fmt.code
unfolding table
has_UnreadDebug_fmt W here calls = Link.linked-packet::UnreadDebug::fmt W here calls

pub has_UnreadPartialEq_eq : (W : World) → Holds W "packet" table → Calls W → HasT (in_world W) true own_UnreadPartialEq_eq.code
unfolding table
has_UnreadPartialEq_eq W here calls = Link.linked-packet::UnreadPartialEq::eq W here calls
