-- Every entry meets demand 1.
use lib.ListN.{length}
use Rattle.record.specs.Record.{record_in, fields}
use Rattle.listing.specs.Listing.{listing, recording_text}
use Rattle.entries.specs.Entry.{Asked}
use Rattle.entries.specs.Entries.{write_space_entry, space_text, write_encapsulation_entry, encapsulation_text, read_record_entry, write_record_entry}
use Rattle.entries.specs.Exported as name
use Rattle.entries.specs.Exported.{Name, entry}
use Rattle.entries.proofs.Refusals.{in_C}
use Rattle.entries.proofs.EachEntry.{reads_packet, gives_data, looks_at, walks, writes_space, writes_encapsulation, reads_record, reads_record_file, writes_record}
use Rattle.entries.proofs.EachEntry.{reads_packet_C, reads_record_file_C, starts_fresh, finds_sound, lists_so}
use Rattle.entries.proofs.FrameEntries.{starts_frames, takes_frame}
use Rattle.entries.proofs.LaneEntries.{opens_lane, takes_packet, takes_packet_C, closes_lane}

pub as_asked : (n : Name) → Asked (entry n)
as_asked name.read_packet = reads_packet
as_asked name.data_of = gives_data
as_asked name.look_at = looks_at
as_asked name.walk = walks
as_asked name.write_space = writes_space
as_asked name.write_encapsulation = writes_encapsulation
as_asked name.read_record = reads_record
as_asked name.read_record_file = reads_record_file
as_asked name.write_record = writes_record
as_asked name.fresh_start = starts_fresh
as_asked name.is_sound = finds_sound
as_asked name.open_lane = opens_lane
as_asked name.take_packet = takes_packet
as_asked name.close_lane = closes_lane
as_asked name.list = lists_so listing
as_asked name.list_recording = lists_so recording_text
as_asked name.branmuslin_read_packet = reads_packet_C
as_asked name.branmuslin_write_space = in_C write_space_entry (λ g. length (space_text g)) writes_space
as_asked name.branmuslin_write_encapsulation = in_C write_encapsulation_entry (λ g. length (encapsulation_text g)) writes_encapsulation
as_asked name.branmuslin_read_record = in_C read_record_entry (λ s. fields (record_in s)) reads_record
as_asked name.branmuslin_read_record_file = reads_record_file_C
as_asked name.branmuslin_write_record = in_C write_record_entry (λ g. tt) writes_record
as_asked name.branmuslin_fresh_start = starts_fresh
as_asked name.branmuslin_is_sound = finds_sound
as_asked name.branmuslin_open_lane = opens_lane
as_asked name.branmuslin_take_packet = takes_packet_C
as_asked name.branmuslin_close_lane = closes_lane
as_asked name.branmuslin_fresh_frames = starts_frames
as_asked name.branmuslin_take_frame = takes_frame
