-- The crate's code as the table that a program is linked from: wherever it is, and what it calls of other crates is, so is the code of each public function.
use mathlib.Core.Bool.{true}
use prog.Linked.{Tree, World, Holds, in_world}
use prog.LinkedThreads.{HasT}
use Rattle.writing.proofs.TheLink as Link
use Rattle.std.proofs.prelude.AnyFrom.from.Symbol as AnyFrom_from
use Rattle.std.proofs.prelude.ResultFromResidualErrResidual.from_residual.Symbol as ResultFromResidualErrResidual_from_residual
use Rattle.std.proofs.prelude.ResultTry.branch.Symbol as ResultTry_branch
use Rattle.putting.proofs.put_be16.Symbol as putting_put_be16
use Rattle.putting.proofs.put_be32.Symbol as putting_put_be32
use Rattle.putting.proofs.put_octet.Symbol as putting_put_octet
use Rattle.putting.proofs.put_octets.Symbol as putting_put_octets
use Rattle.writing.proofs.write_space.Symbol as own_write_space
use Rattle.writing.proofs.write_encapsulation.Symbol as own_write_encapsulation

pub table : Tree
table = Link.table

-- what it calls of other crates
abbrev pub Calls : World → Type 0
Calls W =
    HasT (in_world W) true AnyFrom_from.code ×
    (HasT (in_world W) true ResultFromResidualErrResidual_from_residual.code ×
    (HasT (in_world W) true ResultTry_branch.code ×
    (HasT (in_world W) true putting_put_be16.code ×
    (HasT (in_world W) true putting_put_be32.code ×
    (HasT (in_world W) true putting_put_octet.code ×
    (HasT (in_world W) true putting_put_octets.code ×
    Unit {0}))))))

pub has_write_space : (W : World) → Holds W "writing" table → Calls W → HasT (in_world W) true own_write_space.code
unfolding table
has_write_space W here calls = Link.linked-writing::write_space W here calls

pub has_write_encapsulation : (W : World) → Holds W "writing" table → Calls W → HasT (in_world W) true own_write_encapsulation.code
unfolding table
has_write_encapsulation W here calls = Link.linked-writing::write_encapsulation W here calls
