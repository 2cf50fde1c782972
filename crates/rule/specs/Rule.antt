-- The grouping rule, as a function of the packets that a lane has accepted since its opening: their flags, counts and user data, the newest first.
use Rattle.std.specs.Prelude.{ℕ, ◌+◌, ◌-◌, ◌%◌, Bool, true, false, cond, ◌&&◌, ◌||◌, List, [], ◌∷◌, ◌++◌, length, eqb, ltb}
use Rattle.std.proofs.Math.Option.{Option, none, some}
use Rattle.octets.specs.Octets.{one}
use Rattle.octets.specs.Order.{◌gives◌, first}
use Rattle.octets.specs.Output.{put}
use Rattle.packet.specs.Space as space
use Rattle.packet.specs.Space.{counts}
use Rattle.record.specs.declared.Record.{Record}
use Rattle.lane.specs.declared.Settings.{Settings}
use Rattle.lane.specs.declared.Lane.{Lane}
use Rattle.grouping.specs.Packets.{user_data}
use Rattle.intake.specs.declared.Answer.{Answer}
use Rattle.intake.specs.declared.Answer.TheVariants.{Stray, Held, Unit}

-- a packet as the rule sees it
pub record Taken : Type 0 where
  pub flags : ℕ
  pub count : ℕ
  pub user : List ℕ

abbrev pub taken_of : Settings → List ℕ → Taken
taken_of settings packet = record { flags = space.flags packet; count = space.count packet; user = user_data settings packet }

-- ---- some octets, or none: an open group and its user data, a unit that is made
abbrev pub present : Option (List ℕ) → Bool
present none = false
present (some octets) = true

abbrev pub octets_in : Option (List ℕ) → List ℕ
octets_in none = []
octets_in (some octets) = octets

abbrev pub joined : Option (List ℕ) → List ℕ → Option (List ℕ)
joined none user = none
joined (some octets) user = some (octets ++ user)

-- ---- a packet p that comes after the accepted packets `before`
-- If the count equals that of the last accepted packet, the answer is Repeat: nothing changes
unfoldable pub repeats : List Taken → Taken → Bool
repeats [] p = false
repeats (last ∷ before) p = eqb p.count last.count

-- of all packets that were not refused, the newest first, those that are accepted: all but the repeats
unfoldable pub accepted : List Taken → List Taken
accepted [] = []
accepted (p ∷ before) = cond (repeats (accepted before) p) (accepted before) (p ∷ accepted before)

-- missing = (count - last - 1) mod 16,384, or 0 for the first packet
unfoldable pub missing : List Taken → Taken → ℕ
missing [] p = 0
missing (last ∷ before) p = (p.count + counts - last.count - 1) % counts

-- 1. An open group is given up if missing is above 0, or if the flags are 1 or 3
unfoldable pub breaks : List Taken → Taken → Bool
breaks before p = ltb 0 (missing before p) || eqb p.flags 1 || eqb p.flags 3

-- the open group after the packets: its user data so far; none if none is open.
-- 2. Flags 1: it opens a group with its user data. Flags 0: added to the group that is left
unfoldable pub group : List Taken → Option (List ℕ)
group [] = none
group (p ∷ before) =
    first none
    ((eqb p.flags 1 gives some p.user)
    ∷ (eqb p.flags 0 gives joined (cond (breaks before p) none (group before)) p.user)
    ∷ [])

-- the unit that the packet makes; none if it makes none. Flags 3: the user data is a unit. Flags 2: the group that is left and user data together are one
unfoldable pub unit : List Taken → Taken → Option (List ℕ)
unit before p =
    first none
    ((eqb p.flags 3 gives some p.user)
    ∷ (eqb p.flags 2 gives joined (cond (breaks before p) none (group before)) p.user)
    ∷ [])

-- whether the packet finds an open group and gives it up (broken + 1)
unfoldable pub gives_up : List Taken → Taken → Bool
gives_up before p = present (group before) && breaks before p

-- The answer is Stray, Held or Unit with its length, and tells missing and whether a group was given up
abbrev pub answer_with : Option (List ℕ) → Option (List ℕ) → ℕ → Bool → Answer
answer_with (some octets) held m givenUp = Unit (length octets) m givenUp
answer_with none (some octets) m givenUp = Held m givenUp
answer_with none none m givenUp = Stray m givenUp

unfoldable pub answer_to : List Taken → Taken → Answer
answer_to before p = answer_with (unit before p) (group (p ∷ before)) (missing before p) (gives_up before p)

-- A unit is written at the front of the output; other answers leave the output alone
abbrev pub with_unit : List ℕ → Option (List ℕ) → List ℕ
with_unit out none = out
with_unit out (some octets) = put out 0 octets

-- ---- 3. the tallies after all the packets: the packet tally is their number
-- the packets that each end a unit, and how many these are
unfoldable pub endings : List Taken → List Taken
endings [] = []
endings (p ∷ before) = cond (present (unit before p)) (p ∷ endings before) (endings before)

abbrev pub units : List Taken → ℕ
units packets = length (endings packets)

unfoldable pub missing_in_all : List Taken → ℕ
missing_in_all [] = 0
missing_in_all (p ∷ before) = missing_in_all before + missing before p

unfoldable pub broken : List Taken → ℕ
broken [] = 0
broken (p ∷ before) = broken before + one (gives_up before p)

-- last becomes the count; it starts at 0
unfoldable pub last_count : List Taken → ℕ
last_count [] = 0
last_count (p ∷ before) = p.count

-- Closing gives up an open group (broken + 1) and writes the credit record
abbrev pub credit : Settings → List Taken → Record
credit s packets =
    record { station = s.station; apid = s.apid; units = units packets; packets = length packets; missing = missing_in_all packets; broken = broken packets + one (present (group packets)) }

-- the lane that has accepted the packets since it was opened with these settings
abbrev pub lane_with : Settings → List Taken → Lane
lane_with settings packets =
    record { opened = true; settings = settings; units = units packets; packets = length packets; missing = missing_in_all packets; broken = broken packets; last = last_count packets; grouped = present (group packets); octets = length (octets_in (group packets)) }
