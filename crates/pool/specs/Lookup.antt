-- The tables that the code makes of a lane's blocks. Only functions within the crate promise them.
use Rattle.std.specs.Prelude.{ℕ, ◌≤◌, ◌<◌, ◌≡◌, List, get_or}
use Rattle.marks.specs.Blocks.{mark, find}

-- at each of a lane's places from `from` up to `to` stands the block where its mark is found
abbrev pub ListsLane : ℕ → ℕ → ℕ → List ℕ → List ℕ → Type 0
ListsLane lane from to table marks = (q : ℕ) → from ≤ q → q < to → get_or table q 0 ≡ find marks (mark lane q)
