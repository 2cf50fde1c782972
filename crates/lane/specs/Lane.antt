-- A lane: its settings, its tallies, the count of the last accepted packet (last), and its open group, if it has one, of some octets.
use Rattle.std.specs.Prelude.{ℕ, ◌+◌, max, Bool, true, false, cond, not, ◌&&◌, ◌||◌, eqb, ltb, leb}
use Rattle.octets.specs.Octets.{one}
use Rattle.packet.specs.Space.{counts}
use Rattle.marks.specs.Blocks.{blocks, blocks_for}
use Rattle.record.specs.Record.{most_apid, possible}
use Rattle.record.specs.declared.Record.{Record}
use Rattle.lane.specs.declared.Settings.{Settings}
use Rattle.lane.specs.declared.Lane.{Lane}

abbrev pub unset : Settings
unset = record { station = 0; apid = 0; secondary = 0; share = 0; cap = 0 }

-- a lane as at the fresh start
abbrev pub closed : Lane
closed = record { opened = false; settings = unset; units = 0; packets = 0; missing = 0; broken = 0; last = 0; grouped = false; octets = 0 }

-- A lane with an open group of n octets holds n/256 blocks, rounded up; else none: a fine lane without a group has no octets
abbrev pub held : Lane → ℕ
held l = blocks_for l.octets

-- what a lane counts for in the pool: what it holds or its share, the larger; nothing if it is closed
unfoldable pub need : Lane → ℕ
need l = cond l.opened (max (held l) l.settings.share) 0

-- the lane with an open group of n octets
abbrev pub holding : Lane → ℕ → Lane
holding l n =
    record { opened = l.opened; settings = l.settings; units = l.units; packets = l.packets; missing = l.missing; broken = l.broken; last = l.last; grouped = true; octets = n }

-- the octets of the longest secondary header
abbrev pub most_secondary : ℕ
most_secondary = 63

-- APID over 2046, secondary length over 63, share over cap, or cap over 64
unfoldable pub illegal : Settings → Bool
illegal s = ltb most_apid s.apid || ltb most_secondary s.secondary || ltb s.cap s.share || ltb blocks s.cap

abbrev pub broken_with_group : Lane → ℕ
broken_with_group l = l.broken + one l.grouped

-- what the lane's station is credited with: the tallies, counting an open group as broken
abbrev pub credit_of : Lane → Record
credit_of l =
    record { station = l.settings.station; apid = l.settings.apid; units = l.units; packets = l.packets; missing = l.missing; broken = broken_with_group l }

-- they form a possible record
unfoldable pub tallies_possible : Lane → Bool
tallies_possible l = possible (credit_of l)

-- what a sound state asks of each lane by itself: an open lane's settings are legal, what it holds is within its cap and nothing is held without
-- a group, a closed lane has none, last is at most 16,383, and the tallies are possible
unfoldable pub fine : Lane → Bool
fine l =
    (not l.opened || not (illegal l.settings))
    && leb (held l) l.settings.cap
    && (l.grouped || eqb l.octets 0)
    && (l.opened || not l.grouped)
    && ltb l.last counts
    && tallies_possible l
