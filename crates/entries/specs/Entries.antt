-- The public entries: readers, walk, writers, records, the state, opening, packet, closing, listing, frames. Each has the promise that its contract has, to which
-- `EachEntry` (Demand1.antt) ties it. A state has eight lanes, so a number over 7 is a closed lane's (`lane_at`), and one test for 11 serves a packet and a closing.
use Rattle.std.specs.Prelude.{ℕ, ◌+◌, List, [], ◌∷◌, Bool, length, drop, eqb, ltb}
use Prim.{Unit}
use Rattle.octets.specs.Octets.{one}
use Rattle.octets.specs.Order.{Test, ◌gives◌}
use Rattle.octets.specs.Output.{leading, output_after}
use Rattle.packet.specs.Told as PacketTold
use Rattle.reading.specs.Reading.{reading_tests, reading, refusal, content, content_at}
use Rattle.walk.specs.declared.Found.{Found}
use Rattle.walk.specs.declared.Walked.{Walked}
use Rattle.walk.specs.Walk.{next_or_here, end, walked, number_stopped, place_stopped}
use Rattle.writing.specs.Space.{space_octets, space_tests, space_told}
use Rattle.writing.specs.Encapsulation.{encap_octets, encap_tests, encap_told}
use Rattle.writing.specs.Told as WritingTold
use Rattle.record.specs.declared.Record.{Record}
use Rattle.record.specs.Record.{record_octets}
use Rattle.record.specs.Reading.{record_tests, record_reading, file_tests, file_reading}
use Rattle.record.specs.Writing.{writing_tests, record_told}
use Rattle.record.specs.Told.{told_read, told_written, told_file}
use Rattle.lane.specs.declared.Settings.{Settings}
use Rattle.state.specs.declared.State.{State}
use Rattle.state.specs.State.{fresh_state, sound}
use Rattle.intake.specs.declared.Changed.{Changed}
use Rattle.intake.specs.declared.Answered.{Answered}
use Rattle.intake.specs.Calls.{opening_tests, closing_tests, packet_step}
use Rattle.intake.specs.After.{opening, closing, closing_out, taking, taking_pool, taking_out}
use Rattle.intake.specs.Told as IntakeTold
use Rattle.frames.specs.declared.Frames.{Frames}
use Rattle.frames.specs.declared.Framed.{Framed}
use Rattle.frames.specs.Frames.{fresh_frames, frame_tests, framed, buffer_after, out_after}
use Rattle.listing.specs.Listing.{listing, recording_text}
use Rattle.listing.specs.Told as ListingTold
use Rattle.state.specs.Clauses.{Shaped}
use Rattle.calls.specs.Order.{packet_tests}
use Rattle.entries.specs.Entry.{Entry}

-- an entry, from what an answer tells, the tests of its refusals and what its promise tells; then, of what it may change, as it is given and as it is left
module _ {Given Answer : Type 0} (told : Answer → List ℕ) (tests : Given → List (Test (List ℕ))) (tells : Given → List ℕ) where
  abbrev pub changes : {Lent : Type 0} (before leaves : Given → Lent) → Entry
  changes {Lent} before leaves = record { Given = Given; Answer = Answer; Lent = Lent; before = before; told = told; tests = tests; tells = tells; leaves = leaves }

  -- one that may change nothing
  abbrev pub reads : Entry
  reads = changes {Lent = Unit {0}} (λ g. tt) (λ g. tt)

  -- one that leaves its text at the front of the output, whose other octets stay; or, where it refuses, the output as it was
  abbrev pub writes : (text out : Given → List ℕ) → Entry
  writes text out = changes out (λ g. output_after (leading (tells g)) (text g) (out g))

-- an answer that is the refusal's number, or 0
abbrev pub told_number : ℕ → List ℕ
told_number number = number ∷ []

-- ---- Reading: 1 for no octets, 2, 1 for the header, then 3, or 7, 4, 5, 6, then 1 for the packet
abbrev pub read_packet_entry : Entry
read_packet_entry = reads PacketTold.told reading_tests reading

-- the data as a part of the octets that were lent: the block of memory, the index in it at which a part begins, and its octets. It has no number to give: an
-- empty part at their front if the packet is refused
pub record Part : Type 0 where
  pub block : ℕ
  pub at : ℕ
  pub octets : List ℕ

abbrev pub data_of_entry : Entry
data_of_entry =
    reads (λ (p : Part). 0 ∷ p.block ∷ p.at ∷ p.octets) (λ (s : Part). []) (λ s. 0 ∷ s.block ∷ (s.at + content_at s.octets) ∷ content s.octets)

-- what is found at index at of some octets: the refusal, where the next packet begins, and what reading tells
pub record Place : Type 0 where
  pub octets : List ℕ
  pub at : ℕ

abbrev pub told_found : Found → List ℕ
told_found a = PacketTold.number_of a.read ∷ a.next ∷ PacketTold.told a.read

abbrev pub found_tells : List ℕ → ℕ → List ℕ
found_tells s at = refusal (drop at s) ∷ next_or_here s at ∷ reading (drop at s)

abbrev pub look_at_entry : Entry
look_at_entry = reads told_found (λ (g : Place). reading_tests (drop g.at g.octets)) (λ g. found_tells g.octets g.at)

-- A walk stops at the end or at the first refusal, which is that of what lies where it stops, with its place
abbrev pub told_walked : Walked → List ℕ
told_walked w = number_stopped w.stopped ∷ w.at ∷ w.packets ∷ place_stopped w.stopped ∷ []

abbrev pub walk_all_entry : Entry
walk_all_entry = reads told_walked (λ s. (eqb (end s) (length s) gives (0 ∷ [])) ∷ reading_tests (drop (end s) s)) (λ s. told_walked (walked s))

-- ---- Writing: 8, then 3 or 7 and 6, then 10, 9
pub record SpacePacket : Type 0 where
  pub packet_type : ℕ
  pub secondary : ℕ
  pub apid : ℕ
  pub flags : ℕ
  pub count : ℕ
  pub field : List ℕ
  pub out : List ℕ

abbrev pub space_text : SpacePacket → List ℕ
space_text g = space_octets g.packet_type g.secondary g.apid g.flags g.count g.field

abbrev pub write_space_entry : Entry
write_space_entry =
    writes WritingTold.told
    (λ g. space_tests g.packet_type g.secondary g.apid g.flags g.count (length g.field) (length g.out))
    (λ g. space_told g.packet_type g.secondary g.apid g.flags g.count (length g.field) (length g.out)) space_text (λ g. g.out)

pub record EncapsulationPacket : Type 0 where
  pub protocol : ℕ
  pub user : ℕ
  pub extension : ℕ
  pub content : List ℕ
  pub out : List ℕ

abbrev pub encapsulation_text : EncapsulationPacket → List ℕ
encapsulation_text g = encap_octets g.protocol g.user g.extension g.content

abbrev pub write_encapsulation_entry : Entry
write_encapsulation_entry =
    writes WritingTold.told (λ g. encap_tests g.protocol g.user g.extension (length g.content) (length g.out))
    (λ g. encap_told g.protocol g.user g.extension (length g.content) (length g.out)) encapsulation_text (λ g. g.out)

-- ---- Record and record file reader: 26, then 25 for the first impossible record, from a file with its index
abbrev pub read_record_entry : Entry
read_record_entry = reads told_read record_tests record_reading

abbrev pub read_record_file_entry : Entry
read_record_file_entry = reads told_file file_tests file_reading

-- ---- Record writer: 9, 25
pub record RecordGiven : Type 0 where
  pub credit : Record
  pub out : List ℕ

abbrev pub write_record_entry : Entry
write_record_entry =
    writes told_written (λ (g : RecordGiven). writing_tests g.credit (length g.out)) (λ g. record_told g.credit (length g.out)) (λ g. record_octets g.credit) (λ g. g.out)

-- ---- A fresh start takes nothing, gives eight closed lanes and refuses nothing: no state is given that it could change, and a fresh one is left
abbrev pub fresh_start_entry : Entry
fresh_start_entry = changes {Given = Unit {0}} {Answer = Unit {0}} (λ a. 0 ∷ []) (λ g. []) (λ g. 0 ∷ []) (λ g. fresh_state) (λ g. fresh_state)

abbrev pub is_sound_entry : Entry
is_sound_entry = reads (λ (b : Bool). 0 ∷ one b ∷ []) (λ (s : State). []) (λ s. 0 ∷ one (sound s) ∷ [])

-- ---- Opening: 24, 11, 21, 22, 23. The state is handed in and back; the pool is lent for reading, which can't change it
pub record Opening : Type 0 where
  pub state : State
  pub lane : ℕ
  pub settings : Settings
  pub pool : List ℕ

abbrev pub opening_of : Opening → Changed
opening_of g = opening g.state g.lane g.settings (length g.pool)

abbrev pub open_lane_entry : Entry
open_lane_entry =
    changes {Given = Opening} told_number (λ g. opening_tests g.state g.lane g.settings (length g.pool)) (λ g. told_number (opening_of g).refusal)
    {Lent = State} (λ g. g.state) (λ g. (opening_of g).state)

-- ---- Packet to a lane: 24, 11, reading, 12, 13, 14, 15, 16, 17, the repeat test, 18, 19, 27, 20. A state has eight lanes and 64 marks, as its arrays say
pub record Taking : Type 0 where
  pub state : State
  pub shaped : Shaped state
  pub lane : ℕ
  pub packet : List ℕ
  pub pool : List ℕ
  pub out : List ℕ

abbrev pub taking_of : Taking → Answered
taking_of g = taking g.state g.lane g.packet (length g.pool) (length g.out)

abbrev pub take_packet_entry : Entry
take_packet_entry =
    changes {Given = Taking} IntakeTold.told (λ g. packet_tests g.state g.lane g.packet (length g.pool) (length g.out))
    (λ g. IntakeTold.telling (packet_step g.state g.lane g.packet (length g.pool) (length g.out)))
    {Lent = State × List ℕ × List ℕ} (λ g. (g.state, g.pool, g.out))
    (λ g. ((taking_of g).state, taking_pool g.state g.lane g.packet (length g.out) g.pool, taking_out g.state g.lane g.packet g.pool g.out))

-- ---- Closing: 24, 11, 9, 25
pub record Closing : Type 0 where
  pub state : State
  pub lane : ℕ
  pub pool : List ℕ
  pub out : List ℕ

abbrev pub closing_of : Closing → Changed
closing_of g = closing g.state g.lane (length g.pool) (length g.out)

abbrev pub close_lane_entry : Entry
close_lane_entry =
    changes {Given = Closing} told_number (λ g. closing_tests g.state g.lane (length g.pool) (length g.out)) (λ g. told_number (closing_of g).refusal)
    {Lent = State × List ℕ} (λ g. (g.state, g.out)) (λ g. ((closing_of g).state, closing_out g.state g.lane (length g.pool) g.out))

-- ---- Listing: 9, here for the text
pub record Listing : Type 0 where
  pub octets : List ℕ
  pub out : List ℕ

abbrev pub lists : (List ℕ → List ℕ) → Entry
lists text =
    writes ListingTold.told (λ (g : Listing). (ltb (length g.out) (length (text g.octets)) gives (9 ∷ [])) ∷ [])
    (λ g. ListingTold.listed (text g.octets) (length g.out)) (λ g. text g.octets) (λ g. g.out)

abbrev pub list_all_entry : Entry
list_all_entry = lists listing

abbrev pub list_recording_entry : Entry
list_recording_entry = lists recording_text

-- ---- Frames: a fresh start; and a frame: 28, 9. It is answered in numbers, beside the state
abbrev pub fresh_start_of_frames_entry : Entry
fresh_start_of_frames_entry = changes {Given = Unit {0}} {Answer = Unit {0}} (λ a. 0 ∷ []) (λ g. []) (λ g. 0 ∷ []) (λ g. fresh_frames) (λ g. fresh_frames)

pub record Framing : Type 0 where
  pub state : Frames
  pub count : ℕ
  pub pointer : ℕ
  pub field : List ℕ
  pub piece : List ℕ
  pub out : List ℕ

abbrev pub framing_of : Framing → Framed
framing_of g = framed g.state g.count g.pointer g.field g.piece (length g.out)

abbrev pub told_framed : Framed → List ℕ
told_framed a = a.refusal ∷ a.kind ∷ one a.given_up ∷ one a.dropped ∷ a.packets ∷ a.octets ∷ []

abbrev pub take_frame_entry : Entry
take_frame_entry =
    changes {Given = Framing} (λ numbers. numbers)
    (λ g. frame_tests g.state g.count g.pointer (length g.field) (length g.piece) (length g.out)) (λ g. told_framed (framing_of g))
    {Lent = Frames × List ℕ × List ℕ} (λ g. (g.state, g.piece, g.out))
    (λ g. ((framing_of g).state, buffer_after g.state g.count g.pointer g.field g.piece (length g.out), out_after g.state g.count g.pointer g.field g.piece g.out))
