-- The crate's code as the table that a program is linked from: wherever it is, and what it calls of other crates is, so is the code of each public function.
use mathlib.Core.Bool.{true}
use prog.Linked.{Tree, World, Holds, in_world}
use prog.LinkedThreads.{HasT}
use Rattle.octets.proofs.TheLink as Link
use Rattle.std.proofs.prelude.U8Clone.clone.Symbol as U8Clone_clone
use Rattle.std.proofs.option.Option.unwrap_or.Symbol as Option_unwrap_or
use Rattle.std.below.core.proofs.option.more.Option+ref+T.copied.Symbol as Option_copied
use Rattle.std.proofs.prelude.UsizeSliceIndexRefSlice.pick.Symbol as UsizeSliceIndexRefSlice_pick
use Rattle.std.below.core.proofs.slice.slice+T.get.Symbol as slice_get
use Rattle.octets.proofs.octet_at.Symbol as own_octet_at
use Rattle.octets.proofs.be16_at.Symbol as own_be16_at
use Rattle.octets.proofs.be32_at.Symbol as own_be32_at

pub table : Tree
table = Link.table

-- what it calls of other crates
abbrev pub Calls : World → Type 0
Calls W =
    HasT (in_world W) true U8Clone_clone.code ×
    (HasT (in_world W) true Option_unwrap_or.code ×
    (HasT (in_world W) true Option_copied.code ×
    (HasT (in_world W) true UsizeSliceIndexRefSlice_pick.code ×
    (HasT (in_world W) true slice_get.code ×
    Unit {0}))))

pub has_octet_at : (W : World) → Holds W "octets" table → Calls W → HasT (in_world W) true own_octet_at.code
unfolding table
has_octet_at W here calls = Link.linked-octets::octet_at W here calls

pub has_be16_at : (W : World) → Holds W "octets" table → Calls W → HasT (in_world W) true own_be16_at.code
unfolding table
has_be16_at W here calls = Link.linked-octets::be16_at W here calls

pub has_be32_at : (W : World) → Holds W "octets" table → Calls W → HasT (in_world W) true own_be32_at.code
unfolding table
has_be32_at W here calls = Link.linked-octets::be32_at W here calls
