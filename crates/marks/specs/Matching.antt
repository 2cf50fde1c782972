-- When the marks match what the lanes hold: every place that a lane holds has its block, and the free blocks and the held ones are 64 in all.
-- Places are different marks, so they lie on different blocks; with the free ones these are all 64, so no block is held twice or by no lane.
use Rattle.std.specs.Prelude.{ℕ, zero, suc, ◌+◌, Bool, true, ◌&&◌, List, [], ◌∷◌, eqb, leb, ltb}
use Rattle.octets.specs.Octets.{one}
use Rattle.marks.specs.Blocks.{blocks, free, mark, find}

-- each of the marks m, m + 1, .., n of them, is on one of the 64 blocks
unfoldable pub found : List ℕ → ℕ → ℕ → Bool
found marks m zero = true
found marks m (suc n) = ltb (find marks m) blocks && found marks (m + 1) n

-- a lane has a block for each of the n places that it holds, which are at most 64
unfoldable pub holds : List ℕ → ℕ → ℕ → Bool
holds marks lane n = leb n blocks && found marks (mark lane 0) n

-- the same for the lanes from `lane` on, which hold held
unfoldable pub each_holds : List ℕ → ℕ → List ℕ → Bool
each_holds marks lane [] = true
each_holds marks lane (n ∷ held) = holds marks lane n && each_holds marks (lane + 1) held

-- how many marks pass a test
unfoldable pub count : (ℕ → Bool) → List ℕ → ℕ
count p [] = 0
count p (o ∷ os) = one (p o) + count p os

abbrev pub is_free : ℕ → Bool
is_free o = eqb o free

unfoldable pub sum : List ℕ → ℕ
sum [] = 0
sum (n ∷ ns) = n + sum ns

unfoldable pub matching : List ℕ → List ℕ → Bool
matching marks held = each_holds marks 0 held && eqb (count is_free marks + sum held) blocks
