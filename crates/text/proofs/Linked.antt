-- The crate's code as the table that a program is linked from: wherever it is, and what it calls of other crates is, so is the code of each public function.
use mathlib.Core.Bool.{true}
use prog.Linked.{Tree, World, Holds, in_world}
use prog.LinkedThreads.{HasT}
use Rattle.text.proofs.TheLink as Link
use Rattle.std.below.core.proofs.int.more.u64.ilog10.Symbol as u64_ilog10
use Rattle.std.below.core.proofs.int.u64.max.Symbol as u64_max
use Rattle.std.below.core.proofs.int.usize.min.Symbol as usize_min
use Rattle.std.below.core.proofs.int.usize.saturating_sub.Symbol as usize_saturating_sub
use Rattle.putting.proofs.put_octets.Symbol as putting_put_octets
use Rattle.text.proofs.put.Symbol as own_put
use Rattle.text.proofs.put_decimal.Symbol as own_put_decimal
use Rattle.text.proofs.put_numbers.Symbol as own_put_numbers

pub table : Tree
table = Link.table

-- what it calls of other crates
abbrev pub Calls : World → Type 0
Calls W =
    HasT (in_world W) true u64_ilog10.code ×
    (HasT (in_world W) true u64_max.code ×
    (HasT (in_world W) true usize_min.code ×
    (HasT (in_world W) true usize_saturating_sub.code ×
    (HasT (in_world W) true putting_put_octets.code ×
    Unit {0}))))

pub has_put : (W : World) → Holds W "text" table → Calls W → HasT (in_world W) true own_put.code
unfolding table
has_put W here calls = Link.linked-text::put W here calls

pub has_put_decimal : (W : World) → Holds W "text" table → Calls W → HasT (in_world W) true own_put_decimal.code
unfolding table
has_put_decimal W here calls = Link.linked-text::put_decimal W here calls

pub has_put_numbers : (W : World) → Holds W "text" table → Calls W → HasT (in_world W) true own_put_numbers.code
unfolding table
has_put_numbers W here calls = Link.linked-text::put_numbers W here calls
