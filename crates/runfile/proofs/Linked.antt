-- The crate's code as the table that a program is linked from: wherever it is, and what it calls of other crates is, so is the code of each public function.
use mathlib.Core.Bool.{true}
use prog.Linked.{Tree, World, Holds, in_world}
use prog.LinkedThreads.{HasT}
use Rattle.runfile.proofs.TheLink as Link
use Rattle.std.proofs.cmp.Ordering.and_eq.Symbol as Ordering_and_eq
use Rattle.std.proofs.prelude.U32PartialEq.eq.Symbol as U32PartialEq_eq
use Rattle.std.proofs.prelude.U8PartialEq.eq.Symbol as U8PartialEq_eq
use Rattle.std.proofs.fmt.Formatter.derived_fields2.Symbol as Formatter_derived_fields2
use Rattle.std.proofs.fmt.Formatter.derived_fields3.Symbol as Formatter_derived_fields3
use Rattle.std.proofs.prelude.U32Debug.fmt.Symbol as U32Debug_fmt
use Rattle.std.proofs.prelude.U8Debug.fmt.Symbol as U8Debug_fmt
use Rattle.std.proofs.option.Option.filter.Symbol as Option_filter
use Rattle.lane.proofs.SettingsDebug.fmt.Symbol as lane_SettingsDebug_fmt
use Rattle.lane.proofs.SettingsPartialEq.eq.Symbol as lane_SettingsPartialEq_eq
use Rattle.octets.proofs.be16_at.Symbol as octets_be16_at
use Rattle.octets.proofs.be32_at.Symbol as octets_be32_at
use Rattle.octets.proofs.octet_at.Symbol as octets_octet_at
use Rattle.state.proofs.fresh_start.Symbol as state_fresh_start
use Rattle.runfile.proofs.begin.Symbol as own_begin
use Rattle.runfile.proofs.call_in.Symbol as own_call_in

pub table : Tree
table = Link.table

-- what it calls of other crates
abbrev pub Calls : World → Type 0
Calls W =
    HasT (in_world W) true Ordering_and_eq.code ×
    (HasT (in_world W) true U32PartialEq_eq.code ×
    (HasT (in_world W) true U8PartialEq_eq.code ×
    (HasT (in_world W) true Formatter_derived_fields2.code ×
    (HasT (in_world W) true Formatter_derived_fields3.code ×
    (HasT (in_world W) true U32Debug_fmt.code ×
    (HasT (in_world W) true U8Debug_fmt.code ×
    (HasT (in_world W) true Option_filter.code ×
    (HasT (in_world W) true lane_SettingsDebug_fmt.code ×
    (HasT (in_world W) true lane_SettingsPartialEq_eq.code ×
    (HasT (in_world W) true octets_be16_at.code ×
    (HasT (in_world W) true octets_be32_at.code ×
    (HasT (in_world W) true octets_octet_at.code ×
    (HasT (in_world W) true state_fresh_start.code ×
    Unit {0})))))))))))))

pub has_begin : (W : World) → Holds W "runfile" table → Calls W → HasT (in_world W) true own_begin.code
unfolding table
has_begin W here calls = Link.linked-runfile::begin W here calls

pub has_call_in : (W : World) → Holds W "runfile" table → Calls W → HasT (in_world W) true own_call_in.code
unfolding table
has_call_in W here calls = Link.linked-runfile::call_in W here calls
