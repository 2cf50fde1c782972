-- A table that the code makes of the marks that are seen. Only functions within the crate promise it.
use Rattle.std.specs.Prelude.{ℕ, zero, suc, ◌+◌, ◌≤◌, ◌<◌, ◌≡◌, List, get_or, ltb}
use Rattle.octets.specs.Octets.{one}
use Rattle.marks.specs.Blocks.{blocks, free, find}

-- at each mark of a lane stands 1 where one of the first n blocks bears it, else 0
abbrev pub Seen : ℕ → List ℕ → List ℕ → Type 0
Seen n seen marks = (m : ℕ) → m < free → get_or seen m 0 ≡ one (ltb (find marks m) n)

-- what such a table is, whatever the marks: each entry of a lane's mark is 1 or 0
abbrev pub Flags : List ℕ → Type 0
Flags seen = (m : ℕ) → m < free → get_or seen m 0 ≤ 1

-- at each place of a lane stands the place
abbrev pub Places : List ℕ → Type 0
Places places = (k : ℕ) → k < blocks → get_or places k 0 ≡ k

-- how many of the marks m, m + 1, .., n of them, are seen
unfoldable pub seen_from : List ℕ → ℕ → ℕ → ℕ
seen_from seen m zero = 0
seen_from seen m (suc n) = get_or seen m 0 + seen_from seen (m + 1) n
