-- The crate's code as the table that a program is linked from: wherever it is, and what it calls of other crates is, so is the code of each public function.
use mathlib.Core.Bool.{true}
use prog.Linked.{Tree, World, Holds, in_world}
use prog.LinkedThreads.{HasT}
use Rattle.branmuslin.proofs.TheLink as Link
use Rattle.std.proofs.prelude.ArrayClone.clone.Symbol as ArrayClone_clone
use Rattle.std.proofs.prelude.U32Clone.clone.Symbol as U32Clone_clone
use Rattle.std.proofs.prelude.UsizeClone.clone.Symbol as UsizeClone_clone
use Rattle.std.proofs.result.Result.map.Symbol as Result_map
use Rattle.std.proofs.result.Result.map_err.Symbol as Result_map_err
use Rattle.reading.proofs.read_packet.Symbol as reading_read_packet
use Rattle.record.proofs.RefusalFromFileFault.from.Symbol as record_RefusalFromFileFault_from
use Rattle.record.proofs.read_record.Symbol as record_read_record
use Rattle.record.proofs.read_record_file.Symbol as record_read_record_file
use Rattle.record.proofs.write_record.Symbol as record_write_record
use Rattle.refusal.proofs.U8FromRefusal.from.Symbol as refusal_U8FromRefusal_from
use Rattle.writing.proofs.write_encapsulation.Symbol as writing_write_encapsulation
use Rattle.writing.proofs.write_space.Symbol as writing_write_space
use Rattle.branmuslin.proofs.branmuslin_read_packet.Symbol as own_branmuslin_read_packet
use Rattle.branmuslin.proofs.branmuslin_write_space.Symbol as own_branmuslin_write_space
use Rattle.branmuslin.proofs.branmuslin_write_encapsulation.Symbol as own_branmuslin_write_encapsulation
use Rattle.branmuslin.proofs.branmuslin_read_record.Symbol as own_branmuslin_read_record
use Rattle.branmuslin.proofs.branmuslin_read_record_file.Symbol as own_branmuslin_read_record_file
use Rattle.branmuslin.proofs.branmuslin_write_record.Symbol as own_branmuslin_write_record

pub table : Tree
table = Link.table

-- what it calls of other crates
abbrev pub Calls : World → Type 0
Calls W =
    HasT (in_world W) true ArrayClone_clone.code ×
    (HasT (in_world W) true U32Clone_clone.code ×
    (HasT (in_world W) true UsizeClone_clone.code ×
    (HasT (in_world W) true Result_map.code ×
    (HasT (in_world W) true Result_map_err.code ×
    (HasT (in_world W) true reading_read_packet.code ×
    (HasT (in_world W) true record_RefusalFromFileFault_from.code ×
    (HasT (in_world W) true record_read_record.code ×
    (HasT (in_world W) true record_read_record_file.code ×
    (HasT (in_world W) true record_write_record.code ×
    (HasT (in_world W) true refusal_U8FromRefusal_from.code ×
    (HasT (in_world W) true writing_write_encapsulation.code ×
    (HasT (in_world W) true writing_write_space.code ×
    Unit {0}))))))))))))

pub has_branmuslin_read_packet : (W : World) → Holds W "branmuslin" table → Calls W → HasT (in_world W) true own_branmuslin_read_packet.code
unfolding table
has_branmuslin_read_packet W here calls = Link.linked-branmuslin::branmuslin_read_packet W here calls

pub has_branmuslin_write_space : (W : World) → Holds W "branmuslin" table → Calls W → HasT (in_world W) true own_branmuslin_write_space.code
unfolding table
has_branmuslin_write_space W here calls = Link.linked-branmuslin::branmuslin_write_space W here calls

pub has_branmuslin_write_encapsulation : (W : World) → Holds W "branmuslin" table → Calls W → HasT (in_world W) true own_branmuslin_write_encapsulation.code
unfolding table
has_branmuslin_write_encapsulation W here calls = Link.linked-branmuslin::branmuslin_write_encapsulation W here calls

pub has_branmuslin_read_record : (W : World) → Holds W "branmuslin" table → Calls W → HasT (in_world W) true own_branmuslin_read_record.code
unfolding table
has_branmuslin_read_record W here calls = Link.linked-branmuslin::branmuslin_read_record W here calls

pub has_branmuslin_read_record_file : (W : World) → Holds W "branmuslin" table → Calls W → HasT (in_world W) true own_branmuslin_read_record_file.code
unfolding table
has_branmuslin_read_record_file W here calls = Link.linked-branmuslin::branmuslin_read_record_file W here calls

pub has_branmuslin_write_record : (W : World) → Holds W "branmuslin" table → Calls W → HasT (in_world W) true own_branmuslin_write_record.code
unfolding table
has_branmuslin_write_record W here calls = Link.linked-branmuslin::branmuslin_write_record W here calls
