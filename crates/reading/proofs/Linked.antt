-- The crate's code as the table that a program is linked from: wherever it is, and what it calls of other crates is, so is the code of each public function.
use mathlib.Core.Bool.{true}
use prog.Linked.{Tree, World, Holds, in_world}
use prog.LinkedThreads.{HasT}
use Rattle.reading.proofs.TheLink as Link
use Rattle.std.proofs.prelude.AnyFrom.from.Symbol as AnyFrom_from
use Rattle.std.proofs.prelude.ResultFromResidualErrResidual.from_residual.Symbol as ResultFromResidualErrResidual_from_residual
use Rattle.std.proofs.prelude.ResultTry.branch.Symbol as ResultTry_branch
use Rattle.std.below.core.proofs.slice.slice+T.is_empty.Symbol as slice_is_empty
use Rattle.octets.proofs.be16_at.Symbol as octets_be16_at
use Rattle.octets.proofs.be32_at.Symbol as octets_be32_at
use Rattle.octets.proofs.octet_at.Symbol as octets_octet_at
use Rattle.packet.proofs.header_of.Symbol as packet_header_of
use Rattle.packet.proofs.size_of.Symbol as packet_size_of
use Rattle.reading.proofs.read_packet.Symbol as own_read_packet
use Rattle.reading.proofs.data_of.Symbol as own_data_of
use Rattle.reading.proofs.sizes_in.Symbol as own_sizes_in

pub table : Tree
table = Link.table

-- what it calls of other crates
abbrev pub Calls : World → Type 0
Calls W =
    HasT (in_world W) true AnyFrom_from.code ×
    (HasT (in_world W) true ResultFromResidualErrResidual_from_residual.code ×
    (HasT (in_world W) true ResultTry_branch.code ×
    (HasT (in_world W) true slice_is_empty.code ×
    (HasT (in_world W) true octets_be16_at.code ×
    (HasT (in_world W) true octets_be32_at.code ×
    (HasT (in_world W) true octets_octet_at.code ×
    (HasT (in_world W) true packet_header_of.code ×
    (HasT (in_world W) true packet_size_of.code ×
    Unit {0}))))))))

pub has_read_packet : (W : World) → Holds W "reading" table → Calls W → HasT (in_world W) true own_read_packet.code
unfolding table
has_read_packet W here calls = Link.linked-reading::read_packet W here calls

pub has_data_of : (W : World) → Holds W "reading" table → Calls W → HasT (in_world W) true own_data_of.code
unfolding table
has_data_of W here calls = Link.linked-reading::data_of W here calls

pub has_sizes_in : (W : World) → Holds W "reading" table → Calls W → HasT (in_world W) true own_sizes_in.code
unfolding table
has_sizes_in W here calls = Link.linked-reading::sizes_in W here calls
