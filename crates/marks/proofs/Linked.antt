-- The crate's code as the table that a program is linked from: wherever it is, and what it calls of other crates is, so is the code of each public function.
use mathlib.Core.Bool.{true}
use prog.Linked.{Tree, World, Holds, in_world}
use prog.LinkedThreads.{HasT}
use Rattle.marks.proofs.TheLink as Link
use Rattle.std.proofs.prelude.U16FromU8.from.Symbol as U16FromU8_from
use Rattle.std.proofs.prelude.UsizeFromU16.from.Symbol as UsizeFromU16_from
use Rattle.std.proofs.prelude.UsizeFromU8.from.Symbol as UsizeFromU8_from
use Rattle.std.proofs.prelude.U16FromBool.from.Symbol as U16FromBool_from
use Rattle.std.below.core.proofs.int.u16.min.Symbol as u16_min
use Rattle.std.below.core.proofs.int.usize.div_ceil.Symbol as usize_div_ceil
use Rattle.std.below.core.proofs.int.usize.min.Symbol as usize_min
use Rattle.std.proofs.prelude.UsizeSum.sum.Symbol as UsizeSum_sum
use Rattle.std.proofs.iter.Iterator.map.Symbol as Iterator_map
use Rattle.std.proofs.iter.Iterator.position.Symbol as Iterator_position
use Rattle.std.proofs.iter.Iterator.sum.Symbol as Iterator_sum
use Rattle.std.proofs.prelude.MapIterator.next.Symbol as MapIterator_next
use Rattle.std.proofs.prelude.MapIterator.size_hint.Symbol as MapIterator_size_hint
use Rattle.std.proofs.prelude.CoreIterIterator.next.Symbol as CoreIterIterator_next
use Rattle.std.proofs.prelude.CoreIterIterator.size_hint.Symbol as CoreIterIterator_size_hint
use Rattle.std.below.core.proofs.iter.slices.slice+T.iter.Symbol as slice_iter
use Rattle.std.proofs.option.Option.unwrap_or.Symbol as Option_unwrap_or
use Rattle.std.proofs.array.from_fn.Symbol as array_from_fn
use Rattle.marks.proofs.blocks_for.Symbol as own_blocks_for
use Rattle.marks.proofs.find_from.Symbol as own_find_from
use Rattle.marks.proofs.grant_blocks.Symbol as own_grant_blocks
use Rattle.marks.proofs.free_blocks.Symbol as own_free_blocks
use Rattle.marks.proofs.marks_match.Symbol as own_marks_match

pub table : Tree
table = Link.table

-- what it calls of other crates
abbrev pub Calls : World → Type 0
Calls W =
    HasT (in_world W) true U16FromU8_from.code ×
    (HasT (in_world W) true UsizeFromU16_from.code ×
    (HasT (in_world W) true UsizeFromU8_from.code ×
    (HasT (in_world W) true U16FromBool_from.code ×
    (HasT (in_world W) true u16_min.code ×
    (HasT (in_world W) true usize_div_ceil.code ×
    (HasT (in_world W) true usize_min.code ×
    (HasT (in_world W) true UsizeSum_sum.code ×
    (HasT (in_world W) true Iterator_map.code ×
    (HasT (in_world W) true Iterator_position.code ×
    (HasT (in_world W) true Iterator_sum.code ×
    (HasT (in_world W) true MapIterator_next.code ×
    (HasT (in_world W) true MapIterator_size_hint.code ×
    (HasT (in_world W) true CoreIterIterator_next.code ×
    (HasT (in_world W) true CoreIterIterator_size_hint.code ×
    (HasT (in_world W) true slice_iter.code ×
    (HasT (in_world W) true Option_unwrap_or.code ×
    (HasT (in_world W) true array_from_fn.code ×
    Unit {0})))))))))))))))))

pub has_blocks_for : (W : World) → Holds W "marks" table → Calls W → HasT (in_world W) true own_blocks_for.code
unfolding table
has_blocks_for W here calls = Link.linked-marks::blocks_for W here calls

pub has_find_from : (W : World) → Holds W "marks" table → Calls W → HasT (in_world W) true own_find_from.code
unfolding table
has_find_from W here calls = Link.linked-marks::find_from W here calls

pub has_grant_blocks : (W : World) → Holds W "marks" table → Calls W → HasT (in_world W) true own_grant_blocks.code
unfolding table
has_grant_blocks W here calls = Link.linked-marks::grant_blocks W here calls

pub has_free_blocks : (W : World) → Holds W "marks" table → Calls W → HasT (in_world W) true own_free_blocks.code
unfolding table
has_free_blocks W here calls = Link.linked-marks::free_blocks W here calls

pub has_marks_match : (W : World) → Holds W "marks" table → Calls W → HasT (in_world W) true own_marks_match.code
unfolding table
has_marks_match W here calls = Link.linked-marks::marks_match W here calls
