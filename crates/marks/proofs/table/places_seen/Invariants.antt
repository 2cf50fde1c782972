-- What was counted and what is left are the whole; `Seeing` has the turn.
use Rattle.std.proofs.Common.{◌≡◌, ◌+◌, ◌-◌, ◌≤◌}
use Rattle.marks.specs.Blocks.{mark}
use Rattle.marks.specs.Seen.{seen_from}
use Rattle.marks.proofs.table.places_seen.Given as goal

abbrev pub invariant-loop-at : goal.invariant-loop-at
invariant-loop-at l = (l.count ≤ l.at) × (seen_from l.seen (mark l.lane 0) l.n ≡ l.count + seen_from l.seen (mark l.lane l.at) (l.n - l.at))
