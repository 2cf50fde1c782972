-- Runs that show what the demands are about. Each is written out with what it is replied, by the paper; that the definitions reply so is computed
-- (proofs/Examples.antt).
use Rattle.std.specs.Prelude.{ℕ, ◌≤◌, ◌<◌, ◌≡◌, true, false, List, [], ◌∷◌, ◌++◌, length, get_or, replicate, Result, Ok, Err}
use Rattle.std.proofs.lemmas.List.{length-replicate}
use Rattle.octets.specs.Octets.{octet}
use Rattle.writing.specs.Space.{space_octets}
use Rattle.pool.specs.Octets.{pool_octets}
use Rattle.marks.specs.Blocks.{free}
use Rattle.marks.specs.Matching.{count, is_free}
use Rattle.lane.specs.declared.Settings.{Settings}
use Rattle.lane.specs.declared.Lane.{Lane}
use Rattle.rule.specs.Rule.{taken_of, repeats}
use Rattle.state.specs.declared.State.{State}
use Rattle.refusal.specs.Refusal.{named}
use Rattle.grouping.specs.declared.Refused.{Refused}
use Rattle.grouping.specs.declared.Refused.TheVariants.{Unread, Untaken}
use Rattle.intake.specs.declared.Answer.{Answer}
use Rattle.intake.specs.declared.Answer.TheVariants.{Repeat, Stray, Held, Unit}
use Rattle.demands.specs.Runs.{ours, Handed, Start, begun, Call, opens, takes, closes, Reply, to_opening, to_packet, to_closing, after, run, replies, own, replies_to}
use Rattle.calls.specs.Order.{would_hold}
use Rattle.demands.specs.Past.{accepted_in, lane_from, lanes_from, past_of}
use Rattle.demands.specs.Demand3.{StaysInShare, NoneUnpromised, NothingAmiss, HasRoom, Belongs, marks_for, place_for}
use Rattle.demands.specs.WhoseFault.{packet_number, OthersClosed}
use Rattle.demands.specs.WhichOctet.{RefusedAt}
use Rattle.places.specs.AtFault.{head}

-- a packet is refused by a number, and by the reader's with its place
abbrev pub refused : ℕ → Result Answer Refused
refused number = Err (Untaken (named number))

abbrev pub unread : ℕ → ℕ → Result Answer Refused
unread number place = Err (Unread (record { refusal = named number; place = place }))

-- two starts, with different content in the pool: one octet all over
abbrev filled : ℕ → Start
filled octet = record { pool = replicate pool_octets octet; whole = length-replicate pool_octets octet }

abbrev pub zeros : Start
zeros = filled 0

abbrev pub ones : Start
ones = filled 255

-- settings of station 7, APID 42 and no secondary header
abbrev pub settings : ℕ → ℕ → Settings
settings share cap = record { station = 7; apid = 42; secondary = 0; share = share; cap = cap }

-- a telemetry packet of APID 42, by its flags, count and user data
abbrev packet : ℕ → ℕ → List ℕ → List ℕ
packet flags count user = space_octets 0 0 42 flags count user

-- of flags 0, 1, 2 and 3
abbrev going_on : ℕ → List ℕ → List ℕ
going_on count user = packet 0 count user

abbrev pub beginning : ℕ → List ℕ → List ℕ
beginning count user = packet 1 count user

abbrev ending : ℕ → List ℕ → List ℕ
ending count user = packet 2 count user

abbrev pub unsegmented : ℕ → List ℕ → List ℕ
unsegmented count user = packet 3 count user

-- an output of n octets that are 9
abbrev pub room : ℕ → List ℕ
room n = replicate n 9

-- lane i's calls of a run are replied so in company, and so alone, with another pool
pub record Told (i : ℕ) (calls : List Call) (shared single : List Reply) : Type 0 where
  pub in_company : replies_to ours i (begun zeros) calls ≡ shared
  pub alone : replies ours (begun ones) (own i calls) ≡ single

-- ---- two lanes interleave, in their shares
-- lane 1 is another station's: APID 43, one octet of secondary header, 0xE0
abbrev other_settings : Settings
other_settings = record { station = 8; apid = 43; secondary = 1; share = 2; cap = 4 }

abbrev other : ℕ → ℕ → List ℕ → List ℕ
other flags count user = space_octets 0 1 43 flags count (0xE0 ∷ user)

abbrev pub interleaved : List Call
interleaved =
    opens 0 (settings 1 2)
    ∷ opens 1 other_settings
    ∷ takes 0 (beginning 16382 (1 ∷ 2 ∷ [])) (room 6)
    ∷ takes 1 (other 1 100 (50 ∷ [])) (room 3)
    ∷ takes 0 (going_on 16383 (3 ∷ [])) (room 6)
    ∷ takes 1 (other 2 101 (51 ∷ [])) (room 3)
    ∷ takes 0 (going_on 16383 (3 ∷ [])) (room 6)
    ∷ closes 1 (room 20)
    ∷ takes 0 (ending 0 (4 ∷ 5 ∷ [])) (room 4)
    ∷ opens 1 other_settings
    ∷ takes 0 (ending 0 (4 ∷ 5 ∷ [])) (room 6)
    ∷ takes 1 (other 3 7 (60 ∷ 61 ∷ [])) (room 3)
    ∷ takes 0 (beginning 1 (6 ∷ [])) (room 6)
    ∷ takes 1 (other 1 8 []) (room 3)
    ∷ takes 0 (ending 5 (7 ∷ [])) (room 6)
    ∷ takes 1 (other 2 9 (62 ∷ [])) (room 3)
    ∷ takes 0 (beginning 6 (8 ∷ [])) (room 6)
    ∷ closes 0 (room 21)
    ∷ takes 1 (other 0 12 (63 ∷ [])) (room 3)
    ∷ closes 1 (room 20)
    ∷ []

-- lane 0: counts 16,382, 16,383, 0 are one unit of five octets, refused where there is room for four. From 1 to 5 three are missing, and the group
-- that 1 began is given up; the one that 6 began is given up by the closing. Credit: 1 unit, 6 packets, 3 missing, 2 broken
abbrev pub told_lane0 : List Reply
told_lane0 =
    to_opening 0
    ∷ to_packet (Ok (Held 0 false)) (room 6)
    ∷ to_packet (Ok (Held 0 false)) (room 6)
    ∷ to_packet (Ok Repeat) (room 6)
    ∷ to_packet (refused 20) (room 4)
    ∷ to_packet (Ok (Unit 5 0 false)) (1 ∷ 2 ∷ 3 ∷ 4 ∷ 5 ∷ 9 ∷ [])
    ∷ to_packet (Ok (Held 0 false)) (room 6)
    ∷ to_packet (Ok (Stray 3 true)) (room 6)
    ∷ to_packet (Ok (Held 0 false)) (room 6)
    ∷ to_closing 0 (0 ∷ 7 ∷ 0 ∷ 42 ∷ 0 ∷ 0 ∷ 0 ∷ 1 ∷ 0 ∷ 0 ∷ 0 ∷ 6 ∷ 0 ∷ 0 ∷ 0 ∷ 3 ∷ 0 ∷ 0 ∷ 0 ∷ 2 ∷ 9 ∷ [])
    ∷ []

-- lane 1: a unit of two octets, and credit for it: 1 unit, 2 packets. After the second opening 7 is the first packet; then two units, one from an
-- empty first packet, and a continuation with no group, 2 missing. Credit: 2 units, 4 packets, 2 missing
abbrev pub told_lane1 : List Reply
told_lane1 =
    to_opening 0
    ∷ to_packet (Ok (Held 0 false)) (room 3)
    ∷ to_packet (Ok (Unit 2 0 false)) (50 ∷ 51 ∷ 9 ∷ [])
    ∷ to_closing 0 (0 ∷ 8 ∷ 0 ∷ 43 ∷ 0 ∷ 0 ∷ 0 ∷ 1 ∷ 0 ∷ 0 ∷ 0 ∷ 2 ∷ 0 ∷ 0 ∷ 0 ∷ 0 ∷ 0 ∷ 0 ∷ 0 ∷ 0 ∷ [])
    ∷ to_opening 0
    ∷ to_packet (Ok (Unit 2 0 false)) (60 ∷ 61 ∷ 9 ∷ [])
    ∷ to_packet (Ok (Held 0 false)) (room 3)
    ∷ to_packet (Ok (Unit 1 0 false)) (62 ∷ 9 ∷ 9 ∷ [])
    ∷ to_packet (Ok (Stray 2 false)) (room 3)
    ∷ to_closing 0 (0 ∷ 8 ∷ 0 ∷ 43 ∷ 0 ∷ 0 ∷ 0 ∷ 2 ∷ 0 ∷ 0 ∷ 0 ∷ 4 ∷ 0 ∷ 0 ∷ 0 ∷ 2 ∷ 0 ∷ 0 ∷ 0 ∷ 0 ∷ [])
    ∷ []

-- ---- a lane above its share is refused room in company and not alone: it would hold 2 blocks, and 63 are promised to lane 1
abbrev pub crowded : List Call
crowded =
    opens 1 (settings 63 64)
    ∷ opens 0 (settings 1 64)
    ∷ takes 0 (beginning 0 (replicate 257 1)) []
    ∷ []

abbrev pub told_crowded : List Reply
told_crowded = to_opening 0 ∷ to_packet (refused 27) [] ∷ []

abbrev pub told_uncrowded : List Reply
told_uncrowded = to_opening 0 ∷ to_packet (Ok (Held 0 false)) [] ∷ []

-- ---- an opening is refused for want of a promisable share in company and not alone: all 64 blocks are promised to lane 1
abbrev pub unpromised : List Call
unpromised =
    opens 1 (settings 64 64)
    ∷ opens 0 (settings 1 64)
    ∷ []

-- AsAlone (specs/Demand3.antt) without its one hypothesis, and without the other. Neither holds
abbrev pub EvenAboveShare : Type 0
EvenAboveShare =
    (i : ℕ) (calls : List Call) (shared alone : Start)
    → NoneUnpromised ours i shared calls
    → replies_to ours i (begun shared) calls ≡ replies ours (begun alone) (own i calls)

abbrev pub EvenUnpromised : Type 0
EvenUnpromised =
    (i : ℕ) (calls : List Call) (shared alone : Start)
    → StaysInShare ours i alone (own i calls)
    → replies_to ours i (begun shared) calls ≡ replies ours (begun alone) (own i calls)

-- ---- all 64 blocks are used, freed and used again: by a lane that is closed, and by one that gives up its group for an unsegmented packet. Meanwhile
-- there is no room for a single octet
abbrev pub all64 : List Call
all64 =
    opens 0 (settings 0 64)
    ∷ opens 1 (settings 0 64)
    ∷ takes 0 (beginning 0 (replicate pool_octets 1)) []
    ∷ takes 1 (beginning 0 (2 ∷ [])) []
    ∷ closes 0 (room 20)
    ∷ takes 1 (beginning 0 (replicate pool_octets 2)) []
    ∷ takes 1 (unsegmented 1 (3 ∷ [])) (room 2)
    ∷ []

abbrev pub told_all64 : List Reply
told_all64 =
    to_opening 0
    ∷ to_opening 0
    ∷ to_packet (Ok (Held 0 false)) []
    ∷ to_packet (refused 27) []
    ∷ to_closing 0 (0 ∷ 7 ∷ 0 ∷ 42 ∷ 0 ∷ 0 ∷ 0 ∷ 0 ∷ 0 ∷ 0 ∷ 0 ∷ 1 ∷ 0 ∷ 0 ∷ 0 ∷ 0 ∷ 0 ∷ 0 ∷ 0 ∷ 1 ∷ [])
    ∷ to_packet (Ok (Held 0 false)) []
    ∷ to_packet (Ok (Unit 1 0 true)) (3 ∷ 9 ∷ [])
    ∷ []

-- how many blocks are free before the calls and after each
abbrev pub free_blocks : State → ℕ
free_blocks s = count is_free s.marks

unfoldable pub free_around : Handed → List Call → List ℕ
free_around x [] = free_blocks x.state ∷ []
free_around x (c ∷ calls) = free_blocks x.state ∷ free_around (after x c) calls

abbrev pub free_all64 : List ℕ
free_all64 = 64 ∷ 64 ∷ 64 ∷ 0 ∷ 0 ∷ 64 ∷ 0 ∷ 64 ∷ []

-- ---- the paper's case: lane 0 has share 20 and cap 40, lane 1 share 20 and cap 64. Lane 1 may hold 44 blocks, not 45; meanwhile lane 0 may hold 20, not 21
abbrev pub shares20 : List Call
shares20 =
    opens 0 (settings 20 40)
    ∷ opens 1 (settings 20 64)
    ∷ takes 1 (beginning 0 (replicate 11265 1)) []
    ∷ takes 1 (beginning 0 (replicate 11264 1)) []
    ∷ takes 0 (beginning 0 (replicate 5121 1)) []
    ∷ takes 0 (beginning 0 (replicate 5120 1)) []
    ∷ []

abbrev pub told_shares20 : List Reply
told_shares20 =
    to_opening 0
    ∷ to_opening 0
    ∷ to_packet (refused 27) []
    ∷ to_packet (Ok (Held 0 false)) []
    ∷ to_packet (refused 27) []
    ∷ to_packet (Ok (Held 0 false)) []
    ∷ []

-- ---- packets that meet the hypotheses of RoomInShare, GetsRoom and UsedAgain
-- a lane of share 1 and cap 2 is opened; a first packet of one octet is in its share, and one of 257 octets, which needs two blocks, has the room
abbrev pub opened : List Call
opened = opens 0 (settings 1 2) ∷ []

abbrev pub one_octet : List ℕ
one_octet = beginning 0 (1 ∷ [])

abbrev pub two_blocks : List ℕ
two_blocks = beginning 0 (replicate 257 1)

abbrev pub lane_after_run : ℕ → List Call → Lane
lane_after_run i calls = lane_from (past_of ours i zeros calls)

abbrev pub lanes_after_run : List Call → List Lane
lanes_after_run calls = lanes_from (λ i. past_of ours i zeros calls)

abbrev pub state_after_run : List Call → State
state_after_run calls = (run ours (begun zeros) calls).state

-- lane 0 takes block 0 and is closed; lane 1, which is opened then, needs it
abbrev pub taken : List Call
taken = opens 0 (settings 1 2) ∷ takes 0 one_octet [] ∷ []

abbrev pub freed_again : List Call
freed_again = opens 0 (settings 1 2) ∷ takes 0 one_octet [] ∷ closes 0 (room 20) ∷ opens 1 (settings 1 2) ∷ []

pub record MeetsUsedAgain : Type 0 where
  pub was_held : Belongs (state_after_run taken) 0 0
  pub block_is_free : get_or (marks_for (state_after_run freed_again) 1 one_octet) 0 0 ≡ free
  pub nothing_amiss : NothingAmiss (lane_after_run 1 freed_again) one_octet []
  pub new : repeats (accepted_in (past_of ours 1 zeros freed_again)) (taken_of (settings 1 2) one_octet) ≡ false
  pub has_room : HasRoom (lanes_after_run freed_again) 1 one_octet
  pub is_due : place_for (state_after_run freed_again) 1 one_octet 0 < would_hold (lane_after_run 1 freed_again) one_octet

-- ---- whose fault no room is: lane 1 has share 1 and cap 2, and 63 blocks are promised to lane 0. Three blocks are above its cap, whatever lane 0 does; two are not,
-- and are held once lane 0 is closed
abbrev pub beside63 : List Call
beside63 = opens 0 (settings 63 63) ∷ opens 1 (settings 1 2) ∷ []

abbrev pub three_blocks : List ℕ
three_blocks = beginning 0 (replicate 513 1)

abbrev pub whose_fault : List Call
whose_fault =
    beside63
    ++ (takes 1 three_blocks []
    ∷ takes 1 two_blocks []
    ∷ closes 0 (room 20)
    ∷ takes 1 three_blocks []
    ∷ takes 1 two_blocks []
    ∷ [])

abbrev pub told_whose_fault : List Reply
told_whose_fault =
    to_opening 0
    ∷ to_opening 0
    ∷ to_packet (refused 19) []
    ∷ to_packet (refused 27) []
    ∷ to_closing 0 (0 ∷ 7 ∷ 0 ∷ 42 ∷ 0 ∷ 0 ∷ 0 ∷ 0 ∷ 0 ∷ 0 ∷ 0 ∷ 0 ∷ 0 ∷ 0 ∷ 0 ∷ 0 ∷ 0 ∷ 0 ∷ 0 ∷ 0 ∷ [])
    ∷ to_packet (refused 19) []
    ∷ to_packet (Ok (Held 0 false)) []
    ∷ []

-- so the hypotheses of NoOtherDecides, HeldIfOthersClosed and Never27BesideClosed are met
abbrev pub lane0_closed : List Call
lane0_closed = beside63 ++ (closes 0 (room 20) ∷ [])

pub record MeetsWhoseFault : Type 0 where
  pub is_19 : packet_number (run ours (begun zeros) beside63) 1 three_blocks [] ≡ 19
  pub is_27 : packet_number (run ours (begun zeros) beside63) 1 two_blocks [] ≡ 27
  pub same_lane : lane_after_run 1 beside63 ≡ lane_after_run 1 lane0_closed
  pub others_closed : OthersClosed 1 (λ j. past_of ours j zeros lane0_closed)

-- ---- which octet is wrong: a packet of two octets; a length of 3 in a header of 4; an extension with protocol ID 2 where the CCSDS field is wrong too. An idle
-- Encapsulation Packet is well-formed, and a lane that is closed reads nothing: these are refused with no place
abbrev pub extended_wrongly : List ℕ
extended_wrongly = 0xEB ∷ 0x03 ∷ 0x00 ∷ 0x01 ∷ 0x00 ∷ 0x00 ∷ 0x00 ∷ 0x09 ∷ 0x55 ∷ []

abbrev pub which_octet : List Call
which_octet =
    opens 0 (settings 1 2)
    ∷ takes 0 (0x00 ∷ 0x2A ∷ []) []
    ∷ takes 0 (0xEA ∷ 0x00 ∷ 0x00 ∷ 0x03 ∷ []) []
    ∷ takes 0 extended_wrongly []
    ∷ takes 0 (0xE0 ∷ []) []
    ∷ takes 1 (0x00 ∷ 0x2A ∷ []) []
    ∷ []

abbrev pub told_which_octet : List Reply
told_which_octet =
    to_opening 0
    ∷ to_packet (unread 1 2) []
    ∷ to_packet (unread 4 2) []
    ∷ to_packet (unread 7 1) []
    ∷ to_packet (refused 13) []
    ∷ to_packet (refused 11) []
    ∷ []

-- so the hypotheses of EachIsHonest, HeaderDecides and PassedOn are met; its content is another in the second
abbrev pub other_content : List ℕ
other_content = 0xEB ∷ 0x03 ∷ 0x00 ∷ 0x01 ∷ 0x00 ∷ 0x00 ∷ 0x00 ∷ 0x09 ∷ 0x66 ∷ []

pub record MeetsWhichOctet : Type 0 where
  pub is_refused : RefusedAt ours extended_wrongly 7 1
  pub is_open : (lane_after_run 0 opened).opened ≡ true
  pub another : extended_wrongly ≡ other_content → ⊥
  pub same_length : length other_content ≡ length extended_wrongly
  pub same_header : (k : ℕ) → k < head extended_wrongly → octet other_content k ≡ octet extended_wrongly k

-- ---- all that is computed
pub record Examples : Type 0 where
  -- each lane is replied in company what it is alone, and the hypotheses of AsAlone hold
  pub lane0 : Told 0 interleaved told_lane0 told_lane0
  pub lane0_in_share : StaysInShare ours 0 ones (own 0 interleaved)
  pub lane0_promised : NoneUnpromised ours 0 zeros interleaved
  pub lane1 : Told 1 interleaved told_lane1 told_lane1
  pub lane1_in_share : StaysInShare ours 1 ones (own 1 interleaved)
  pub lane1_promised : NoneUnpromised ours 1 zeros interleaved
  -- and neither hypothesis is idle
  pub crowded_differs : Told 0 crowded told_crowded told_uncrowded
  pub share_is_needed : EvenAboveShare → ⊥
  pub unpromised_differs : Told 0 unpromised (to_opening 23 ∷ []) (to_opening 0 ∷ [])
  pub promise_is_needed : EvenUnpromised → ⊥
  -- whatever lies in the pool
  pub all64_told : (start : Start) → replies ours (begun start) all64 ≡ told_all64
  pub all64_free : (start : Start) → free_around (begun start) all64 ≡ free_all64
  pub shares20_told : (start : Start) → replies ours (begun start) shares20 ≡ told_shares20
  pub whose_fault_told : (start : Start) → replies ours (begun start) whose_fault ≡ told_whose_fault
  pub which_octet_told : (start : Start) → replies ours (begun start) which_octet ≡ told_which_octet
  -- and the hypotheses of the other statements can be met
  pub in_share : NothingAmiss (lane_after_run 0 opened) one_octet [] × (would_hold (lane_after_run 0 opened) one_octet ≤ (lane_after_run 0 opened).settings.share)
  pub above_share : NothingAmiss (lane_after_run 0 opened) two_blocks [] × HasRoom (lanes_after_run opened) 0 two_blocks
  pub used_again : MeetsUsedAgain
  pub whose_fault : MeetsWhoseFault
  pub which_octet : MeetsWhichOctet
