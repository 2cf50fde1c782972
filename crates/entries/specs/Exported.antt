-- The entries that a C program calls, and every public entry by its name. Opening and closing a lane, the fresh start and the test for a sound state are as in
-- Rattle.
use Rattle.std.specs.Prelude.{ℕ, List, [], ◌∷◌, length}
use Prim.{Unit}
use Rattle.octets.specs.Octets.{one}
use Rattle.octets.specs.Output.{unless_refused}
use Rattle.record.specs.Record.{record_in, fields}
use Rattle.record.specs.Reading.{records_in}
use Rattle.branmuslin.specs.Lent.{packet_numbers, place_after, index_after}
use Rattle.lanes.specs.declared.Numbered.{Numbered}
use Rattle.lanes.specs.Numbers.{numbered}
use Rattle.entries.specs.Entry.{Entry, number_for}
use Rattle.entries.specs.Entries.{changes, told_number, read_packet_entry, data_of_entry, look_at_entry, walk_all_entry, write_space_entry, space_text, write_encapsulation_entry, encapsulation_text, read_record_entry, read_record_file_entry, write_record_entry}
use Rattle.entries.specs.Entries.{fresh_start_entry, is_sound_entry, open_lane_entry, taking_of, take_packet_entry, close_lane_entry, list_all_entry, list_recording_entry, fresh_start_of_frames_entry, take_frame_entry}

-- an entry in C: the number comes back, and what else is told goes into something lent, which a refusal leaves as it was
abbrev pub in_c : (e : Entry) {M : Type 0} → (e.Given → M) → Entry
in_c e {M} new =
    changes {Given = e.Given × M} told_number (λ g. e.tests g.0) (λ g. told_number (number_for e g.0))
    {Lent = e.Lent × M} (λ g. (e.before g.0, g.1)) (λ g. (e.leaves g.0, unless_refused (number_for e g.0) (new g.0) g.1))

-- one to which a number is lent besides, which belongs to a refusal and so to the answer: by what was given, and as it was
abbrev pub and_number : (e : Entry) → (e.Given → ℕ → ℕ) → Entry
and_number e number =
    changes {Given = e.Given × ℕ} {Answer = ℕ × ℕ} (λ a. a.0 ∷ a.1 ∷ []) (λ g. e.tests g.0)
    (λ g. number_for e g.0 ∷ number g.0 g.1 ∷ []) (λ g. e.before g.0) (λ g. e.leaves g.0)

-- a packet: its place, of refusals 1 to 7
abbrev pub read_packet_c : Entry
read_packet_c = and_number (in_c read_packet_entry packet_numbers) (λ g. place_after g.0)

-- a record file: the number of records is lent; and so is the index, which belongs to refusal 25
abbrev pub read_record_file_c : Entry
read_record_file_c = and_number (in_c read_record_file_entry records_in) (λ g. index_after g.0)

-- a packet is answered in numbers, beside the state
abbrev pub told_numbered : Numbered → List ℕ
told_numbered n = n.refusal ∷ n.kind ∷ one n.given_up ∷ n.missing ∷ n.octets ∷ n.place ∷ []

abbrev pub take_packet_c : Entry
take_packet_c = changes (λ numbers. numbers) take_packet_entry.tests (λ g. told_numbered (numbered (taking_of g))) take_packet_entry.before take_packet_entry.leaves

-- ---- all public entries
pub data Name : Type 0 where
  read_packet data_of look_at walk : Name
  write_space write_encapsulation : Name
  read_record read_record_file write_record : Name
  fresh_start is_sound open_lane take_packet close_lane : Name
  list list_recording : Name
  branmuslin_read_packet branmuslin_write_space branmuslin_write_encapsulation : Name
  branmuslin_read_record branmuslin_read_record_file branmuslin_write_record : Name
  branmuslin_fresh_start branmuslin_is_sound branmuslin_open_lane branmuslin_take_packet branmuslin_close_lane : Name
  branmuslin_fresh_frames branmuslin_take_frame : Name

abbrev pub entry : Name → Entry
entry read_packet = read_packet_entry
entry data_of = data_of_entry
entry look_at = look_at_entry
entry walk = walk_all_entry
entry write_space = write_space_entry
entry write_encapsulation = write_encapsulation_entry
entry read_record = read_record_entry
entry read_record_file = read_record_file_entry
entry write_record = write_record_entry
entry fresh_start = fresh_start_entry
entry is_sound = is_sound_entry
entry open_lane = open_lane_entry
entry take_packet = take_packet_entry
entry close_lane = close_lane_entry
entry list = list_all_entry
entry list_recording = list_recording_entry
entry branmuslin_read_packet = read_packet_c
entry branmuslin_write_space = in_c write_space_entry (λ g. length (space_text g))
entry branmuslin_write_encapsulation = in_c write_encapsulation_entry (λ g. length (encapsulation_text g))
entry branmuslin_read_record = in_c read_record_entry (λ s. fields (record_in s))
entry branmuslin_read_record_file = read_record_file_c
entry branmuslin_write_record = in_c write_record_entry {M = Unit {0}} (λ g. tt)
entry branmuslin_fresh_start = fresh_start_entry
entry branmuslin_is_sound = is_sound_entry
entry branmuslin_open_lane = open_lane_entry
entry branmuslin_take_packet = take_packet_c
entry branmuslin_close_lane = close_lane_entry
entry branmuslin_fresh_frames = fresh_start_of_frames_entry
entry branmuslin_take_frame = take_frame_entry
