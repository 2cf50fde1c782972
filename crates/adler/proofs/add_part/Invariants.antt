-- The sums so far, reduced, lead from here to where those at the start lead, and are small, as there are few octets.
use Rattle.std.proofs.Common.{◌≡◌, List, ◌++◌, ℕ, ◌≤◌, ◌+◌, ◌*◌, ◌%◌, drop}
use Rattle.adler.specs.Adler.{base, adler_from}
use Rattle.adler.proofs.add_part.Given as goal

abbrev pub invariant-loop-octet : goal.invariant-loop-octet
invariant-loop-octet l =
    (l.first ≤ 65520 + 255 * l.octet-index) × (l.second ≤ 65520 + 587760 * l.octet-index)
    × ((rest : List ℕ) → adler_from l.fn.from.first l.fn.from.second (l.s ++ rest) ≡ adler_from (l.first % base) (l.second % base) (drop l.octet-index l.s ++ rest))
