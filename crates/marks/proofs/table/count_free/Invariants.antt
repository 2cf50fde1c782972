-- So many of the blocks that were passed are free.
use Rattle.std.proofs.Common.{◌≡◌, ◌≤◌, take}
use Rattle.std.specs.List.{count_by}
use Rattle.marks.specs.Matching.{is_free}
use Rattle.marks.proofs.table.count_free.Given as goal

abbrev pub invariant-loop-mark : goal.invariant-loop-mark
invariant-loop-mark l = (l.n ≤ l.mark-index) × (l.n ≡ count_by is_free (take l.mark-index l.marks))
