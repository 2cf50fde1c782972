-- The crate's code as the table that a program is linked from: wherever it is, and what it calls of other crates is, so is the code of each public function.
use mathlib.Core.Bool.{true}
use prog.Linked.{Tree, World, Holds, in_world}
use prog.LinkedThreads.{HasT}
use Rattle.adler.proofs.TheLink as Link
use Rattle.std.proofs.prelude.ChunksIterator.next.Symbol as ChunksIterator_next
use Rattle.std.proofs.prelude.ChunksIterator.size_hint.Symbol as ChunksIterator_size_hint
use Rattle.std.below.core.proofs.iter.slices.slice+T.chunks.Symbol as slice_chunks
use Rattle.std.proofs.prelude.IteratorIntoIterator.into_iter.Symbol as IteratorIntoIterator_into_iter
use Rattle.adler.proofs.adler32.Symbol as own_adler32

pub table : Tree
table = Link.table

-- what it calls of other crates
abbrev pub Calls : World → Type 0
Calls W =
    HasT (in_world W) true ChunksIterator_next.code ×
    (HasT (in_world W) true ChunksIterator_size_hint.code ×
    (HasT (in_world W) true slice_chunks.code ×
    (HasT (in_world W) true IteratorIntoIterator_into_iter.code ×
    Unit {0})))

pub has_adler32 : (W : World) → Holds W "adler" table → Calls W → HasT (in_world W) true own_adler32.code
unfolding table
has_adler32 W here calls = Link.linked-adler::adler32 W here calls
