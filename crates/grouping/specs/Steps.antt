-- What comes of a packet, and its lane after it.
use Rattle.std.specs.Prelude.{ℕ, ◌+◌, Bool, true, false, Result, Ok, Err}
use Rattle.lane.specs.declared.Lane.{Lane}
use Rattle.grouping.specs.declared.Added.{Added}
use Rattle.grouping.specs.declared.Step.{Step}
use Rattle.grouping.specs.declared.Step.TheVariants.{Repeat, Stray, Hold, Unit}
use Rattle.grouping.specs.declared.Refused.{Refused}
use Rattle.octets.specs.Octets.{one}

-- The packet tally grows by 1, missing is added, broken and units grow where a group is given up and for a unit, last becomes the count; and
-- then the group
abbrev pub counted : Lane → Added → ℕ → Bool → ℕ → Lane
counted l a units grouped octets =
    record { opened = l.opened; settings = l.settings; units = l.units + units; packets = l.packets + 1; missing = l.missing + a.missing; broken = l.broken + one a.given_up; last = a.count; grouped = grouped; octets = octets }

-- what comes of a packet: a step, or why it is refused
abbrev pub Outcome : Type 0
Outcome = Result Step Refused

unfoldable pub lane_after : Lane → Outcome → Lane
lane_after l (Err r) = l
lane_after l (Ok Repeat) = l
lane_after l (Ok (Stray a)) = counted l a 0 false 0
lane_after l (Ok (Hold a on n)) = counted l a 0 true n
lane_after l (Ok (Unit a on n)) = counted l a 1 false 0
