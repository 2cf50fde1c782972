-- The lanes that are left decide; `Looking` has the two turns.
use Rattle.std.proofs.Common.{◌≡◌, List, ℕ, drop}
use Rattle.marks.specs.Blocks.{blocks}
use Rattle.marks.specs.Seen.{Seen}
use Rattle.marks.specs.Matching.{each_holds}
use Rattle.marks.proofs.table.each_holds.Given as goal

abbrev pub invariant-loop-lane : goal.invariant-loop-lane
invariant-loop-lane l = (marks : List ℕ) → Seen blocks l.seen marks → each_holds marks 0 l.held ≡ each_holds marks l.lane (drop l.lane l.held)
