-- The crate's code as the table that a program is linked from: wherever it is, and what it calls of other crates is, so is the code of each public function.
use mathlib.Core.Bool.{true}
use prog.Linked.{Tree, World, Holds, in_world}
use prog.LinkedThreads.{HasT}
use Rattle.walk.proofs.TheLink as Link
use Rattle.walk.proofs.look_at.TheLink as of_look_at
use Rattle.walk.proofs.walk.TheLink as of_walk
use Rattle.std.proofs.cmp.Ordering.and_eq.Symbol as Ordering_and_eq
use Rattle.std.proofs.prelude.OptionPartialEq.eq.Symbol as OptionPartialEq_eq
use Rattle.std.proofs.prelude.UsizePartialEq.eq.Symbol as UsizePartialEq_eq
use Rattle.std.proofs.prelude.OptionDebug.fmt.Symbol as OptionDebug_fmt
use Rattle.std.proofs.fmt.Formatter.derived_fields2.Symbol as Formatter_derived_fields2
use Rattle.std.proofs.fmt.Formatter.derived_fields3.Symbol as Formatter_derived_fields3
use Rattle.std.proofs.prelude.UsizeDebug.fmt.Symbol as UsizeDebug_fmt
use Rattle.packet.proofs.PacketDebug.fmt.Symbol as packet_PacketDebug_fmt
use Rattle.packet.proofs.PacketPartialEq.eq.Symbol as packet_PacketPartialEq_eq
use Rattle.packet.proofs.UnreadDebug.fmt.Symbol as packet_UnreadDebug_fmt
use Rattle.packet.proofs.UnreadPartialEq.eq.Symbol as packet_UnreadPartialEq_eq
use Rattle.packet.proofs.size_of.Symbol as packet_size_of
use Rattle.reading.proofs.read_packet.Symbol as reading_read_packet
use Rattle.walk.proofs.look_at.Symbol as own_look_at
use Rattle.walk.proofs.walk.Symbol as own_walk

pub table : Tree
table = Link.table

-- what it calls of other crates, but for ResultPartialEq_eq and ResultDebug_fmt, which no function of `Public` runs
abbrev pub Calls : World → Type 0
Calls W =
    HasT (in_world W) true Ordering_and_eq.code ×
    (HasT (in_world W) true OptionPartialEq_eq.code ×
    (HasT (in_world W) true UsizePartialEq_eq.code ×
    (HasT (in_world W) true OptionDebug_fmt.code ×
    (HasT (in_world W) true Formatter_derived_fields2.code ×
    (HasT (in_world W) true Formatter_derived_fields3.code ×
    (HasT (in_world W) true UsizeDebug_fmt.code ×
    (HasT (in_world W) true packet_PacketDebug_fmt.code ×
    (HasT (in_world W) true packet_PacketPartialEq_eq.code ×
    (HasT (in_world W) true packet_UnreadDebug_fmt.code ×
    (HasT (in_world W) true packet_UnreadPartialEq_eq.code ×
    (HasT (in_world W) true packet_size_of.code ×
    (HasT (in_world W) true reading_read_packet.code ×
    Unit {0}))))))))))))

pub has_look_at : (W : World) → Holds W "walk" table → Calls W → HasT (in_world W) true own_look_at.code
unfolding table
has_look_at W here calls = of_look_at.has (in_world W) true (Link.found-walk::look_at W here) calls.1.1.1.1.1.1.1.1.1.1.1.0 calls.1.1.1.1.1.1.1.1.1.1.1.1.0

pub has_walk : (W : World) → Holds W "walk" table → Calls W → HasT (in_world W) true own_walk.code
unfolding table
has_walk W here calls = of_walk.has (in_world W) true (Link.found-walk::walk W here) (has_look_at W here calls)
