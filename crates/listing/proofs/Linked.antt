-- The crate's code as the table that a program is linked from: wherever it is, and what it calls of other crates is, so is the code of each public function.
use mathlib.Core.Bool.{true}
use prog.Linked.{Tree, World, Holds, in_world}
use prog.LinkedThreads.{HasT}
use Rattle.listing.proofs.TheLink as Link
use Rattle.std.proofs.prelude.U64FromU32.from.Symbol as U64FromU32_from
use Rattle.std.proofs.prelude.U64FromU8.from.Symbol as U64FromU8_from
use Rattle.std.below.core.proofs.int.usize.min.Symbol as usize_min
use Rattle.std.proofs.option.Option.unwrap_or.Symbol as Option_unwrap_or
use Rattle.refusal.proofs.U8FromRefusal.from.Symbol as refusal_U8FromRefusal_from
use Rattle.text.proofs.put.Symbol as text_put
use Rattle.text.proofs.put_decimal.Symbol as text_put_decimal
use Rattle.text.proofs.put_numbers.Symbol as text_put_numbers
use Rattle.walk.proofs.look_at.Symbol as walk_look_at
use Rattle.listing.proofs.list.Symbol as own_list
use Rattle.listing.proofs.list_recording.Symbol as own_list_recording
use Rattle.listing.proofs.written.Symbol as own_written

pub table : Tree
table = Link.table

-- what it calls of other crates
abbrev pub Calls : World → Type 0
Calls W =
    HasT (in_world W) true U64FromU32_from.code ×
    (HasT (in_world W) true U64FromU8_from.code ×
    (HasT (in_world W) true usize_min.code ×
    (HasT (in_world W) true Option_unwrap_or.code ×
    (HasT (in_world W) true refusal_U8FromRefusal_from.code ×
    (HasT (in_world W) true text_put.code ×
    (HasT (in_world W) true text_put_decimal.code ×
    (HasT (in_world W) true text_put_numbers.code ×
    (HasT (in_world W) true walk_look_at.code ×
    Unit {0}))))))))

pub has_list : (W : World) → Holds W "listing" table → Calls W → HasT (in_world W) true own_list.code
unfolding table
has_list W here calls = Link.linked-listing::list W here calls

pub has_list_recording : (W : World) → Holds W "listing" table → Calls W → HasT (in_world W) true own_list_recording.code
unfolding table
has_list_recording W here calls = Link.linked-listing::list_recording W here calls

pub has_written : (W : World) → Holds W "listing" table → Calls W → HasT (in_world W) true own_written.code
unfolding table
has_written W here calls = Link.linked-listing::written W here calls
