-- The crate's code as the table that a program is linked from: wherever it is, and what it calls of other crates is, so is the code of each public function.
use mathlib.Core.Bool.{true}
use prog.Linked.{Tree, World, Holds, in_world}
use prog.LinkedThreads.{HasT}
use Rattle.putting.proofs.TheLink as Link
use Rattle.std.proofs.prelude.U8Clone.clone.Symbol as U8Clone_clone
use Rattle.std.below.core.proofs.int.u16.to_be_bytes.Symbol as u16_to_be_bytes
use Rattle.std.below.core.proofs.int.u32.to_be_bytes.Symbol as u32_to_be_bytes
use Rattle.std.below.core.proofs.slice.edits.slice+T.copy_from_slice.Symbol as slice_copy_from_slice
use Rattle.putting.proofs.put_octets.Symbol as own_put_octets
use Rattle.putting.proofs.put_octet.Symbol as own_put_octet
use Rattle.putting.proofs.put_be16.Symbol as own_put_be16
use Rattle.putting.proofs.put_be32.Symbol as own_put_be32

pub table : Tree
table = Link.table

-- what it calls of other crates
abbrev pub Calls : World → Type 0
Calls W =
    HasT (in_world W) true U8Clone_clone.code ×
    (HasT (in_world W) true u16_to_be_bytes.code ×
    (HasT (in_world W) true u32_to_be_bytes.code ×
    (HasT (in_world W) true slice_copy_from_slice.code ×
    Unit {0})))

pub has_put_octets : (W : World) → Holds W "putting" table → Calls W → HasT (in_world W) true own_put_octets.code
unfolding table
has_put_octets W here calls = Link.linked-putting::put_octets W here calls

pub has_put_octet : (W : World) → Holds W "putting" table → Calls W → HasT (in_world W) true own_put_octet.code
unfolding table
has_put_octet W here calls = Link.linked-putting::put_octet W here calls

pub has_put_be16 : (W : World) → Holds W "putting" table → Calls W → HasT (in_world W) true own_put_be16.code
unfolding table
has_put_be16 W here calls = Link.linked-putting::put_be16 W here calls

pub has_put_be32 : (W : World) → Holds W "putting" table → Calls W → HasT (in_world W) true own_put_be32.code
unfolding table
has_put_be32 W here calls = Link.linked-putting::put_be32 W here calls
