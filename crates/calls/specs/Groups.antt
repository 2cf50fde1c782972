-- A lane's group as the octets that the pool has of it, and the places of its blocks.
use Rattle.std.specs.Prelude.{ℕ, ◌<◌, ◌≡◌, List}
use Rattle.marks.specs.Blocks.{mark}
use Rattle.pool.specs.Octets.{gathered}
use Rattle.lane.specs.Lane.{held}
use Rattle.state.specs.declared.State.{State}
use Rattle.state.specs.State.{lane_at}

abbrev pub group_in : State → List ℕ → ℕ → List ℕ
group_in s pool j = gathered s.marks j pool 0 (lane_at s j).octets

-- the later state and pool have lane j and its group as they were
pub record Leaves (j : ℕ) (s : State) (pool : List ℕ) (later : State) (laterPool : List ℕ) : Type 0 where
  pub lane : lane_at later j ≡ lane_at s j
  pub group : group_in later laterPool j ≡ group_in s pool j

-- the mark of a place that a lane holds
pub record HeldPlace (s : State) (m : ℕ) : Type 0 where
  pub lane : ℕ
  pub place : ℕ
  pub small : lane < 8
  pub holds : place < held (lane_at s lane)
  pub bears : m ≡ mark lane place
