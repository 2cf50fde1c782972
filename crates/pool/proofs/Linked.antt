-- The crate's code as the table that a program is linked from: wherever it is, and what it calls of other crates is, so is the code of each public function.
use mathlib.Core.Bool.{true}
use prog.Linked.{Tree, World, Holds, in_world}
use prog.LinkedThreads.{HasT}
use Rattle.pool.proofs.TheLink as Link
use Rattle.std.proofs.prelude.U16FromU8.from.Symbol as U16FromU8_from
use Rattle.std.proofs.prelude.UsizeFromU16.from.Symbol as UsizeFromU16_from
use Rattle.std.proofs.prelude.UsizeFromU8.from.Symbol as UsizeFromU8_from
use Rattle.std.below.core.proofs.int.usize.min.Symbol as usize_min
use Rattle.std.below.core.proofs.slice.reads.slice+T.split_at.Symbol as slice_split_at
use Rattle.std.below.core.proofs.slice.slice+T.is_empty.Symbol as slice_is_empty
use Rattle.marks.proofs.blocks_for.Symbol as marks_blocks_for
use Rattle.marks.proofs.find_from.Symbol as marks_find_from
use Rattle.putting.proofs.put_octets.Symbol as putting_put_octets
use Rattle.pool.proofs.store_octets.Symbol as own_store_octets
use Rattle.pool.proofs.gather_octets.Symbol as own_gather_octets

pub table : Tree
table = Link.table

-- what it calls of other crates
abbrev pub Calls : World → Type 0
Calls W =
    HasT (in_world W) true U16FromU8_from.code ×
    (HasT (in_world W) true UsizeFromU16_from.code ×
    (HasT (in_world W) true UsizeFromU8_from.code ×
    (HasT (in_world W) true usize_min.code ×
    (HasT (in_world W) true slice_split_at.code ×
    (HasT (in_world W) true slice_is_empty.code ×
    (HasT (in_world W) true marks_blocks_for.code ×
    (HasT (in_world W) true marks_find_from.code ×
    (HasT (in_world W) true putting_put_octets.code ×
    Unit {0}))))))))

pub has_store_octets : (W : World) → Holds W "pool" table → Calls W → HasT (in_world W) true own_store_octets.code
unfolding table
has_store_octets W here calls = Link.linked-pool::store_octets W here calls

pub has_gather_octets : (W : World) → Holds W "pool" table → Calls W → HasT (in_world W) true own_gather_octets.code
unfolding table
has_gather_octets W here calls = Link.linked-pool::gather_octets W here calls
