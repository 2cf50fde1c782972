-- Eight lanes and one pool: the state, and when it is sound.
use Rattle.std.specs.Prelude.{ℕ, ◌+◌, Bool, true, not, ◌&&◌, List, [], ◌∷◌, map, get_or, replicate, eqb, leb}
use Rattle.marks.specs.Blocks.{blocks, free}
use Rattle.marks.specs.Matching.{matching}
use Rattle.pool.specs.Octets.{pool_octets}
use Rattle.lane.specs.declared.Lane.{Lane}
use Rattle.lane.specs.Lane.{closed, held, need, fine}
use Rattle.state.specs.declared.State.{State}

-- A fresh start takes nothing and gives eight closed lanes.
unfoldable pub fresh_state : State
fresh_state = record { lanes = replicate 8 closed; marks = replicate blocks free }

-- a lane by its number; a number over 7 is no open lane's
abbrev pub lane_at : State → ℕ → Lane
lane_at s i = get_or s.lanes i closed

-- the sum over the open lanes of what each holds or its share, the larger
unfoldable pub total : List Lane → ℕ
total [] = 0
total (l ∷ ls) = need l + total ls

-- what the lanes hold or are promised fits the pool
unfoldable pub within : List Lane → Bool
within ls = leb (total ls) blocks

unfoldable pub every : (Lane → Bool) → List Lane → Bool
every p [] = true
every p (l ∷ ls) = p l && every p ls

-- A state is sound when each lane by itself is (an open lane's settings are legal, the blocks of its octets are within its cap, a closed lane
-- holds nothing, last is at most 16,383, and the tallies, counting an open group as broken, form a possible record), that sum is within the pool,
-- and each lane's blocks match its octets with no block held twice.
unfoldable pub sound : State → Bool
sound s = every fine s.lanes && within s.lanes && matching s.marks (map held s.lanes)

-- 24: state not sound, or a lent pool not 16,384 octets
unfoldable pub unsound : State → ℕ → Bool
unsound s size = not (sound s && eqb size pool_octets)
