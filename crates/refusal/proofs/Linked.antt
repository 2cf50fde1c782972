-- The crate's code as the table that a program is linked from: wherever it is, and what it calls of other crates is, so is the code of each public function.
use mathlib.Core.Bool.{true}
use prog.Linked.{Tree, World, Holds, in_world}
use prog.LinkedThreads.{HasT}
use Rattle.refusal.proofs.TheLink as Link
use Rattle.std.proofs.fmt.Formatter.derived_name.Symbol as Formatter_derived_name
use Rattle.refusal.proofs.U8FromRefusal.from.Symbol as own_U8FromRefusal_from
use Rattle.refusal.proofs.RefusalDebug.fmt.Symbol as own_RefusalDebug_fmt
use Rattle.refusal.proofs.RefusalPartialEq.eq.Symbol as own_RefusalPartialEq_eq

pub table : Tree
table = Link.table

-- what it calls of other crates
abbrev pub Calls : World → Type 0
Calls W =
    HasT (in_world W) true Formatter_derived_name.code ×
    Unit {0}

pub has_U8FromRefusal_from : (W : World) → Holds W "refusal" table → Calls W → HasT (in_world W) true own_U8FromRefusal_from.code
unfolding table
has_U8FromRefusal_from W here calls = Link.linked-refusal::U8FromRefusal::from W here calls

pub has_RefusalDebug_fmt : (W : World) → Holds W "refusal" table → Calls W → HasT (in_world W) true own_RefusalDebug_fmt.code
unfolding table
has_RefusalDebug_fmt W here calls = Link.linked-refusal::RefusalDebug::fmt W here calls

pub has_RefusalPartialEq_eq : (W : World) → Holds W "refusal" table → Calls W → HasT (in_world W) true own_RefusalPartialEq_eq.code
unfolding table
has_RefusalPartialEq_eq W here calls = Link.linked-refusal::RefusalPartialEq::eq W here calls
