-- The crate's code as the table that a program is linked from: wherever it is, and what it calls of other crates is, so is the code of each public function.
use mathlib.Core.Bool.{true}
use prog.Linked.{Tree, World, Holds, in_world}
use prog.LinkedThreads.{HasT}
use Rattle.telling.proofs.TheLink as Link
use Rattle.adler.proofs.adler32.Symbol as adler_adler32
use Rattle.std.proofs.prelude.BoolClone.clone.Symbol as BoolClone_clone
use Rattle.std.proofs.prelude.UsizeClone.clone.Symbol as UsizeClone_clone
use Rattle.std.below.core.proofs.int.usize.saturating_sub.Symbol as usize_saturating_sub
use Rattle.text.proofs.put.Symbol as text_put
use Rattle.text.proofs.put_decimal.Symbol as text_put_decimal
use Rattle.text.proofs.put_numbers.Symbol as text_put_numbers
use Rattle.telling.proofs.is_ready.Symbol as own_is_ready
use Rattle.telling.proofs.put_line.Symbol as own_put_line
use Rattle.telling.proofs.put_bad.Symbol as own_put_bad
use Rattle.telling.proofs.put_last.Symbol as own_put_last

pub table : Tree
table = Link.table

-- what it calls of other crates
abbrev pub Calls : World → Type 0
Calls W =
    HasT (in_world W) true adler_adler32.code ×
    (HasT (in_world W) true BoolClone_clone.code ×
    (HasT (in_world W) true UsizeClone_clone.code ×
    (HasT (in_world W) true usize_saturating_sub.code ×
    (HasT (in_world W) true text_put.code ×
    (HasT (in_world W) true text_put_decimal.code ×
    (HasT (in_world W) true text_put_numbers.code ×
    Unit {0}))))))

pub has_is_ready : (W : World) → Holds W "telling" table → Calls W → HasT (in_world W) true own_is_ready.code
unfolding table
has_is_ready W here calls = Link.linked-telling::is_ready W here calls

pub has_put_line : (W : World) → Holds W "telling" table → Calls W → HasT (in_world W) true own_put_line.code
unfolding table
has_put_line W here calls = Link.linked-telling::put_line W here calls

pub has_put_bad : (W : World) → Holds W "telling" table → Calls W → HasT (in_world W) true own_put_bad.code
unfolding table
has_put_bad W here calls = Link.linked-telling::put_bad W here calls

pub has_put_last : (W : World) → Holds W "telling" table → Calls W → HasT (in_world W) true own_put_last.code
unfolding table
has_put_last W here calls = Link.linked-telling::put_last W here calls
