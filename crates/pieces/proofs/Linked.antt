-- The crate's code as the table that a program is linked from: wherever it is, and what it calls of other crates is, so is the code of each public function.
use mathlib.Core.Bool.{true}
use prog.Linked.{Tree, World, Holds, in_world}
use prog.LinkedThreads.{HasT}
use Rattle.pieces.proofs.TheLink as Link
use Rattle.std.proofs.prelude.AnyFrom.from.Symbol as AnyFrom_from
use Rattle.std.below.core.proofs.int.usize.min.Symbol as usize_min
use Rattle.std.proofs.prelude.ResultFromResidualErrResidual.from_residual.Symbol as ResultFromResidualErrResidual_from_residual
use Rattle.std.proofs.prelude.ResultTry.branch.Symbol as ResultTry_branch
use Rattle.octets.proofs.be16_at.Symbol as octets_be16_at
use Rattle.octets.proofs.octet_at.Symbol as octets_octet_at
use Rattle.putting.proofs.put_octets.Symbol as putting_put_octets
use Rattle.reading.proofs.sizes_in.Symbol as reading_sizes_in
use Rattle.walk.proofs.walk.Symbol as walk_walk
use Rattle.pieces.proofs.judge_joined.Symbol as own_judge_joined
use Rattle.pieces.proofs.read_on.Symbol as own_read_on

pub table : Tree
table = Link.table

-- what it calls of other crates
abbrev pub Calls : World → Type 0
Calls W =
    HasT (in_world W) true AnyFrom_from.code ×
    (HasT (in_world W) true usize_min.code ×
    (HasT (in_world W) true ResultFromResidualErrResidual_from_residual.code ×
    (HasT (in_world W) true ResultTry_branch.code ×
    (HasT (in_world W) true octets_be16_at.code ×
    (HasT (in_world W) true octets_octet_at.code ×
    (HasT (in_world W) true putting_put_octets.code ×
    (HasT (in_world W) true reading_sizes_in.code ×
    (HasT (in_world W) true walk_walk.code ×
    Unit {0}))))))))

pub has_judge_joined : (W : World) → Holds W "pieces" table → Calls W → HasT (in_world W) true own_judge_joined.code
unfolding table
has_judge_joined W here calls = Link.linked-pieces::judge_joined W here calls

pub has_read_on : (W : World) → Holds W "pieces" table → Calls W → HasT (in_world W) true own_read_on.code
unfolding table
has_read_on W here calls = Link.linked-pieces::read_on W here calls
