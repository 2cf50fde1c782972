-- The pool: 64 blocks of 256 octets. Each block bears a mark: 512 if it is free, else lane x 64 + place, where place counts the lane's blocks
-- from 0 as taken. So a block never belongs to two.
use Rattle.std.specs.Prelude.{ℕ, zero, suc, ◌+◌, ◌-◌, ◌*◌, ◌/◌, cond, List, [], ◌∷◌, map, set, eqb}

abbrev pub blocks : ℕ
blocks = 64

abbrev pub block_octets : ℕ
block_octets = 256

abbrev pub lanes : ℕ
lanes = 8

-- a lane can hold every block, so it has as many places
abbrev pub mark : ℕ → ℕ → ℕ
mark lane place = lane * blocks + place

-- the mark of a free block is no lane's
abbrev pub free : ℕ
free = lanes * blocks

-- a group of n octets holds n/256 blocks, rounded up
unfoldable pub blocks_for : ℕ → ℕ
blocks_for n = (n + (block_octets - 1)) / block_octets

-- the lowest-numbered block with the mark m, or the number of blocks if none has it
unfoldable pub find : List ℕ → ℕ → ℕ
find [] m = 0
find (o ∷ os) m = cond (eqb o m) 0 (suc (find os m))

-- the n lowest-numbered free blocks, or all of them where fewer are free, get the marks m, m + 1, .. in rising order
unfoldable pub granted : List ℕ → ℕ → ℕ → List ℕ
granted marks m zero = marks
granted marks m (suc n) = granted (set marks (find marks free) m) (m + 1) n

-- a lane's blocks are freed
unfoldable pub freed_mark : ℕ → ℕ → ℕ
freed_mark lane o = cond (eqb (o / blocks) lane) free o

abbrev pub freed : List ℕ → ℕ → List ℕ
freed marks lane = map (freed_mark lane) marks
