-- What is known of a step when it is carried out. Only functions within the crate ask for it; it follows from the test for 24 and the plan.
use Rattle.std.specs.Prelude.{ℕ, ◌+◌, ◌≤◌, ◌<◌, ◌≡◌, Bool, true, false, cond, Ok, Err}
use Prim.{Unit}
use Rattle.pool.specs.Octets.{pool_octets}
use Rattle.lane.specs.declared.Lane.{Lane}
use Rattle.grouping.specs.declared.Added.{Added}
use Rattle.grouping.specs.declared.Step.TheVariants as step
use Rattle.lane.specs.Lane.{fine}
use Rattle.grouping.specs.Steps.{Outcome, counted}

-- the lane by its number is one of eight, and is fine after the packet is counted
abbrev pub Counts : ℕ → Lane → Added → ℕ → Bool → ℕ → Type 0
Counts i l a units grouped octets = (i < 8) × (fine (counted l a units grouped octets) ≡ true)

-- n octets are those of the group that goes on and of the user data, and the pool has 16,384
abbrev pub Holds : ℕ → Lane → Added → Bool → ℕ → ℕ → ℕ → Type 0
Holds i l a on n user pool =
    Counts i l a 0 true n × (n ≡ cond on l.octets 0 + user) × (n ≤ pool_octets) × (l.octets ≤ pool_octets) × (pool ≡ pool_octets)

abbrev pub Ends : ℕ → Lane → Added → Bool → ℕ → ℕ → ℕ → Type 0
Ends i l a on n user room = Counts i l a 1 false 0 × (n ≡ cond on l.octets 0 + user) × (n ≤ room) × (l.octets ≤ pool_octets)

abbrev pub Ready : ℕ → Lane → Outcome → ℕ → ℕ → ℕ → Type 0
Ready i l (Err r) user pool room = Unit {0}
Ready i l (Ok step.Repeat) user pool room = Unit {0}
Ready i l (Ok (step.Stray a)) user pool room = Counts i l a 0 false 0
Ready i l (Ok (step.Hold a on n)) user pool room = Holds i l a on n user pool
Ready i l (Ok (step.Unit a on n)) user pool room = Ends i l a on n user room
