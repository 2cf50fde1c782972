-- The grouping rule, for a packet of flags f and count c that comes to lane l.
use Rattle.std.specs.Prelude.{ℕ, ◌+◌, ◌-◌, ◌%◌, Bool, cond, not, ◌&&◌, ◌||◌, ◌==◌, nat_lt}
use Rattle.packet.specs.Space.{counts}
use Rattle.lane.specs.declared.Lane.{Lane}
use Rattle.grouping.specs.declared.Added.{Added}

-- If the count equals that of the last accepted packet, the answer is Repeat. No packet was accepted while the packet tally is 0
unfoldable pub repeats : Lane → ℕ → Bool
repeats l c = not (l.packets == 0) && c == l.last

-- missing = (count - last - 1) mod 16,384, or 0 for the first packet; 65,536 is a multiple of 16,384
unfoldable pub missing_before : Lane → ℕ → ℕ
missing_before l c = cond (l.packets == 0) 0 ((c + 65536 - (l.last + 1)) % counts)

-- An open group is given up if missing is above 0, or if the flags are 1 or 3
unfoldable pub breaks : ℕ → ℕ → Bool
breaks m f = nat_lt 0 m || f == 1 || f == 3

-- the packet finds an open group, which is given up; or which goes on
unfoldable pub gives_up : Lane → ℕ → ℕ → Bool
gives_up l f c = l.grouped && breaks (missing_before l c) f

unfoldable pub goes_on : Lane → ℕ → ℕ → Bool
goes_on l f c = l.grouped && not (breaks (missing_before l c) f)

-- what the packet adds to the tallies
abbrev pub added_from : Lane → ℕ → ℕ → Added
added_from l f c = record { missing = missing_before l c; given_up = gives_up l f c; count = c }
