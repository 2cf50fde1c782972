-- The whole order of a packet's refusals, as one list of tests.
use Rattle.std.specs.Prelude.{ℕ, ◌+◌, not, ◌&&◌, List, [], ◌∷◌, ◌++◌, get_or, set, eqb, ltb, leb}
use Rattle.octets.specs.Order.{Test, ◌gives◌, first}
use Rattle.packet.specs.Space.{flags, count}
use Rattle.reading.specs.Reading.{reading_tests}
use Rattle.record.specs.Record.{most_packets}
use Rattle.marks.specs.Blocks.{blocks_for}
use Rattle.lane.specs.declared.Lane.{Lane}
use Rattle.lane.specs.Lane.{closed, holding}
use Rattle.grouping.specs.Steps.{Outcome}
use Rattle.std.specs.Prelude.{Ok, Err}
use Rattle.refusal.specs.Refusal.{number}
use Rattle.grouping.specs.declared.Refused.TheVariants.{Unread, Untaken}
use Rattle.grouping.specs.declared.Step.TheVariants.{Repeat, Stray, Hold, Unit}
use Rattle.grouping.specs.Packets.{terms_of, lane_tests, user_octets}
use Rattle.grouping.specs.Grouping.{repeats, goes_on}
use Rattle.state.specs.declared.State.{State}
use Rattle.state.specs.State.{within, unsound}

-- a packet's refusal, and 0 for none
abbrev pub refusal_of : Outcome → ℕ
refusal_of (Err (Unread u)) = number u.refusal
refusal_of (Err (Untaken r)) = number r
refusal_of (Ok Repeat) = 0
refusal_of (Ok (Stray a)) = 0
refusal_of (Ok (Hold a on n)) = 0
refusal_of (Ok (Unit a on n)) = 0

-- the octets of the group that packet p begins or adds to, and 0 where the answer isn't Held
unfoldable pub would_group : Lane → List ℕ → ℕ
would_group l p =
    first 0
    ((eqb (flags p) 1 gives user_octets l.settings p)
    ∷ (eqb (flags p) 0 && goes_on l (flags p) (count p) gives l.octets + user_octets l.settings p)
    ∷ [])

-- A lane that would hold h: the blocks of that group
abbrev pub would_hold : Lane → List ℕ → ℕ
would_hold l p = blocks_for (would_group l p)

-- the lanes as they would be with that group
abbrev pub lanes_with : List Lane → ℕ → List ℕ → List Lane
lanes_with lanes i p = set lanes i (holding (get_or lanes i closed) (would_group (get_or lanes i closed) p))

-- the finished unit's octets, and 0 where the answer isn't Unit
unfoldable pub would_write : Lane → List ℕ → ℕ
would_write l p =
    first 0
    ((eqb (flags p) 3 gives user_octets l.settings p)
    ∷ (eqb (flags p) 2 && goes_on l (flags p) (count p) gives l.octets + user_octets l.settings p)
    ∷ [])

-- Packet to a lane, after 24: 11, reading, 12, 13, 14, 15, 16, 17, the repeat test, 18, 19, 27, 20, judged on the lanes. A Repeat is no refusal, and no later
-- test is asked. A lane that would hold h is refused 19 exactly when h exceeds its cap, and else 27 exactly when the lanes would not be within the pool: h or its
-- share, the larger, plus the same for every other open lane, would exceed 64
abbrev pub packet_causes : List Lane → ℕ → List ℕ → ℕ → List (Test (List ℕ))
packet_causes lanes i p room =
    (not (get_or lanes i closed).opened gives (11 ∷ []))
    ∷ (reading_tests p
    ++ lane_tests (terms_of (get_or lanes i closed)) p
    ++ (repeats (get_or lanes i closed) (count p) gives (0 ∷ []))
    ∷ (leb most_packets (get_or lanes i closed).packets gives (18 ∷ []))
    ∷ (ltb (get_or lanes i closed).settings.cap (would_hold (get_or lanes i closed) p) gives (19 ∷ []))
    ∷ (not (within (lanes_with lanes i p)) gives (27 ∷ []))
    ∷ (ltb room (would_write (get_or lanes i closed) p) gives (20 ∷ []))
    ∷ [])

-- Packet to a lane: 24, then these
abbrev pub packet_tests : State → ℕ → List ℕ → ℕ → ℕ → List (Test (List ℕ))
packet_tests s i p size room = (unsound s size gives (24 ∷ [])) ∷ packet_causes s.lanes i p room
