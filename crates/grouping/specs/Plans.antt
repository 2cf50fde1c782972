-- What a packet does to its lane, decided from that lane alone. Only whether there is room beside the other lanes is left to ask.
use Rattle.std.specs.Prelude.{ℕ, ◌+◌, Bool, true, false, not, List, [], ◌∷◌, ◌==◌, nat_eq, nat_le, nat_lt, Result, Ok, Err}
use Rattle.octets.specs.Order.{◌gives◌, first}
use Rattle.packet.specs.Space.{flags, count}
use Rattle.refusal.specs.Refusal.{named}
use Rattle.packet.specs.declared.Unread.{Unread}
use Rattle.reading.specs.Reading.{refusal, place}
use Rattle.record.specs.Record.{most_packets}
use Rattle.marks.specs.Blocks.{blocks_for}
use Rattle.lane.specs.declared.Settings.{Settings}
use Rattle.lane.specs.declared.Lane.{Lane}
use Rattle.grouping.specs.declared.Added.{Added}
use Rattle.grouping.specs.declared.Refused.{Refused}
use Rattle.grouping.specs.declared.Refused.TheVariants as refused
use Rattle.grouping.specs.declared.Step.TheVariants.{Repeat, Stray, Hold, Unit}
use Rattle.grouping.specs.declared.Plan.{Plan}
use Rattle.grouping.specs.declared.Plan.TheVariants.{Sure, Ask}
use Rattle.grouping.specs.Packets.{terms_of, fault, user_octets}
use Rattle.grouping.specs.Grouping.{repeats, goes_on, added_from}

-- refused by a number; and by the reader, with its place
abbrev pub refusing : ℕ → Result Plan Refused
refusing number = Err (refused.Untaken (named number))

abbrev pub unread : List ℕ → Unread
unread s = record { refusal = named (refusal s); place = place s }

-- a group of n octets: 19 where its blocks exceed the cap; then 27 unless there is room for the lane that holds it
unfoldable pub hold_plan : Settings → Added → Bool → ℕ → Result Plan Refused
hold_plan s t on n =
    first (Ok (Ask n (named 27) (Hold t on n)))
    ((nat_lt s.cap (blocks_for n) gives refusing 19) ∷ [])

-- a unit of n octets: 20 where the output is shorter
unfoldable pub unit_plan : ℕ → Added → Bool → ℕ → Result Plan Refused
unit_plan room t on n =
    first (Ok (Sure (Unit t on n)))
    ((nat_lt room n gives refusing 20) ∷ [])

-- Flags 3: the user data is a unit. Flags 1: it opens a group. Flags 0 or 2 without an open group: Stray. Flags 0: added. Flags 2: group and
-- user data together are a unit
unfoldable pub grouping_plan : Lane → ℕ → ℕ → ℕ → ℕ → Result Plan Refused
grouping_plan l f c n room =
    first (unit_plan room (added_from l f c) true (l.octets + n))
    ((nat_eq f 3 gives unit_plan room (added_from l f c) false n)
    ∷ (nat_eq f 1 gives hold_plan l.settings (added_from l f c) false n)
    ∷ (not (goes_on l f c) gives Ok (Sure (Stray (added_from l f c))))
    ∷ (nat_eq f 0 gives hold_plan l.settings (added_from l f c) true (l.octets + n))
    ∷ [])

-- the repeat test, 18, then the grouping rule with 19, 27 and 20: of flags f, count c and n octets of user data
unfoldable pub accepted_plan : Lane → ℕ → ℕ → ℕ → ℕ → Result Plan Refused
accepted_plan l f c n room =
    first (grouping_plan l f c n room)
    ((repeats l c gives Ok (Sure Repeat))
    ∷ (nat_le most_packets l.packets gives refusing 18)
    ∷ [])

-- Packet to a lane: 11, reading, 12, 13, 14, 15, 16, 17, the repeat test, 18, 19, 27, 20
unfoldable pub packet_plan : Lane → List ℕ → ℕ → Result Plan Refused
packet_plan l s room =
    first (accepted_plan l (flags s) (count s) (user_octets l.settings s) room)
    ((not l.opened gives refusing 11)
    ∷ (not (refusal s == 0) gives Err (refused.Unread (unread s)))
    ∷ (not (fault (terms_of l) s == 0) gives refusing (fault (terms_of l) s))
    ∷ [])
