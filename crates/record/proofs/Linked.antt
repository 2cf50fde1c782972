-- The crate's code as the table that a program is linked from: wherever it is, and what it calls of other crates is, so is the code of each public function.
use mathlib.Core.Bool.{true}
use prog.Linked.{Tree, World, Holds, in_world}
use prog.LinkedThreads.{HasT}
use Rattle.record.proofs.TheLink as Link
use Rattle.std.proofs.cmp.Ordering.and_eq.Symbol as Ordering_and_eq
use Rattle.std.proofs.prelude.U16PartialEq.eq.Symbol as U16PartialEq_eq
use Rattle.std.proofs.prelude.U32PartialEq.eq.Symbol as U32PartialEq_eq
use Rattle.std.proofs.prelude.UsizePartialEq.eq.Symbol as UsizePartialEq_eq
use Rattle.std.proofs.prelude.RefArrayTryFromRefSlice.try_from.Symbol as RefArrayTryFromRefSlice_try_from
use Rattle.std.proofs.fmt.Formatter.derived_fields1.Symbol as Formatter_derived_fields1
use Rattle.std.proofs.fmt.Formatter.derived_fields2.Symbol as Formatter_derived_fields2
use Rattle.std.proofs.fmt.Formatter.derived_fields4.Symbol as Formatter_derived_fields4
use Rattle.std.proofs.fmt.Formatter.derived_name.Symbol as Formatter_derived_name
use Rattle.std.proofs.prelude.U16Debug.fmt.Symbol as U16Debug_fmt
use Rattle.std.proofs.prelude.U32Debug.fmt.Symbol as U32Debug_fmt
use Rattle.std.proofs.prelude.UsizeDebug.fmt.Symbol as UsizeDebug_fmt
use Rattle.std.below.core.proofs.int.u16.from_be_bytes.Symbol as u16_from_be_bytes
use Rattle.std.below.core.proofs.int.u32.from_be_bytes.Symbol as u32_from_be_bytes
use Rattle.std.below.core.proofs.int.usize.min.Symbol as usize_min
use Rattle.std.proofs.iter.Iterator.position.Symbol as Iterator_position
use Rattle.std.proofs.prelude.CoreIterIterator.next.Symbol as CoreIterIterator_next
use Rattle.std.proofs.prelude.CoreIterIterator.size_hint.Symbol as CoreIterIterator_size_hint
use Rattle.std.below.core.proofs.iter.slices.slice+T.iter.Symbol as slice_iter
use Rattle.std.below.core.proofs.simd.chunks.slice+T.as_chunks.Symbol as slice_as_chunks
use Rattle.std.below.core.proofs.slice.slice+T.is_empty.Symbol as slice_is_empty
use Rattle.putting.proofs.put_be16.Symbol as putting_put_be16
use Rattle.putting.proofs.put_be32.Symbol as putting_put_be32
use Rattle.putting.proofs.put_octets.Symbol as putting_put_octets
use Rattle.record.proofs.read_record.Symbol as own_read_record
use Rattle.record.proofs.read_record_file.Symbol as own_read_record_file
use Rattle.record.proofs.write_record.Symbol as own_write_record
use Rattle.record.proofs.is_possible.Symbol as own_is_possible
use Rattle.record.proofs.front_record.Symbol as own_front_record
use Rattle.record.proofs.RefusalFromFileFault.from.Symbol as own_RefusalFromFileFault_from

pub table : Tree
table = Link.table

-- what it calls of other crates
abbrev pub Calls : World → Type 0
Calls W =
    HasT (in_world W) true Ordering_and_eq.code ×
    (HasT (in_world W) true U16PartialEq_eq.code ×
    (HasT (in_world W) true U32PartialEq_eq.code ×
    (HasT (in_world W) true UsizePartialEq_eq.code ×
    (HasT (in_world W) true RefArrayTryFromRefSlice_try_from.code ×
    (HasT (in_world W) true Formatter_derived_fields1.code ×
    (HasT (in_world W) true Formatter_derived_fields2.code ×
    (HasT (in_world W) true Formatter_derived_fields4.code ×
    (HasT (in_world W) true Formatter_derived_name.code ×
    (HasT (in_world W) true U16Debug_fmt.code ×
    (HasT (in_world W) true U32Debug_fmt.code ×
    (HasT (in_world W) true UsizeDebug_fmt.code ×
    (HasT (in_world W) true u16_from_be_bytes.code ×
    (HasT (in_world W) true u32_from_be_bytes.code ×
    (HasT (in_world W) true usize_min.code ×
    (HasT (in_world W) true Iterator_position.code ×
    (HasT (in_world W) true CoreIterIterator_next.code ×
    (HasT (in_world W) true CoreIterIterator_size_hint.code ×
    (HasT (in_world W) true slice_iter.code ×
    (HasT (in_world W) true slice_as_chunks.code ×
    (HasT (in_world W) true slice_is_empty.code ×
    (HasT (in_world W) true putting_put_be16.code ×
    (HasT (in_world W) true putting_put_be32.code ×
    (HasT (in_world W) true putting_put_octets.code ×
    Unit {0})))))))))))))))))))))))

pub has_read_record : (W : World) → Holds W "record" table → Calls W → HasT (in_world W) true own_read_record.code
unfolding table
has_read_record W here calls = Link.linked-record::read_record W here calls

pub has_read_record_file : (W : World) → Holds W "record" table → Calls W → HasT (in_world W) true own_read_record_file.code
unfolding table
has_read_record_file W here calls = Link.linked-record::read_record_file W here calls

pub has_write_record : (W : World) → Holds W "record" table → Calls W → HasT (in_world W) true own_write_record.code
unfolding table
has_write_record W here calls = Link.linked-record::write_record W here calls

pub has_is_possible : (W : World) → Holds W "record" table → Calls W → HasT (in_world W) true own_is_possible.code
unfolding table
has_is_possible W here calls = Link.linked-record::is_possible W here calls

pub has_front_record : (W : World) → Holds W "record" table → Calls W → HasT (in_world W) true own_front_record.code
unfolding table
has_front_record W here calls = Link.linked-record::front_record W here calls

pub has_RefusalFromFileFault_from : (W : World) → Holds W "record" table → Calls W → HasT (in_world W) true own_RefusalFromFileFault_from.code
unfolding table
has_RefusalFromFileFault_from W here calls = Link.linked-record::RefusalFromFileFault::from W here calls
