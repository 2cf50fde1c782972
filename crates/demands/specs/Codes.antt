-- Ours is the code's: whatever an entry permits is what `ours` tells and leaves; of a packet, where the state has eight lanes and 64 marks, as every state of a run
-- has (`StaysSound`).
use Rattle.std.specs.Prelude.{ℕ, ◌≡◌, List, Result}
use Rattle.refusal.specs.declared.Refusal.{Refusal}
use Rattle.packet.specs.declared.Packet.{Packet}
use Rattle.packet.specs.declared.Unread.{Unread}
use Rattle.packet.specs.Told as PacketTold
use Rattle.writing.specs.Told as WritingTold
use Rattle.record.specs.declared.Record.{Record}
use Rattle.record.specs.declared.FileFault.{FileFault}
use Rattle.record.specs.Told.{told_read, told_file, told_written}
use Rattle.lane.specs.declared.Settings.{Settings}
use Rattle.state.specs.declared.State.{State}
use Rattle.state.specs.Clauses.{Shaped}
use Rattle.grouping.specs.declared.Refused.{Refused}
use Rattle.intake.specs.declared.Answer.{Answer}
use Rattle.entries.specs.Entry.{Permits}
use Rattle.entries.specs.Entries.{Part, SpacePacket, EncapsulationPacket, RecordGiven}
use Rattle.entries.specs.Entries.{read_packet_entry, data_of_entry, write_space_entry, write_encapsulation_entry, read_record_entry, read_record_file_entry, write_record_entry, fresh_start_entry, open_lane_entry, take_packet_entry, close_lane_entry}
use Rattle.demands.specs.Runs.{Handed, Start, begun, opens, takes, closes, to_opening, to_packet, to_closing, reply, after, ours}

pub record RunsAreTheCodes : Type 0 where
  pub start : (start : Start) (s : State) → Permits fresh_start_entry tt tt s → (begun start).state ≡ s
  pub openings : (x : Handed) (i : ℕ) (settings : Settings) (refusal : ℕ) (s : State)
      → Permits open_lane_entry (record { state = x.state; lane = i; settings = settings; pool = x.pool }) refusal s
      → (reply x (opens i settings) ≡ to_opening refusal) × (after x (opens i settings) ≡ record { state = s; pool = x.pool })
  pub packets : (x : Handed) (shaped : Shaped x.state) (i : ℕ) (packet out : List ℕ) (answer : Result Answer Refused) (s : State) (pool left : List ℕ)
      → Permits take_packet_entry (record { state = x.state; shaped = shaped; lane = i; packet = packet; pool = x.pool; out = out }) answer (s, pool, left)
      → (reply x (takes i packet out) ≡ to_packet answer left) × (after x (takes i packet out) ≡ record { state = s; pool = pool })
  pub closings : (x : Handed) (i : ℕ) (out : List ℕ) (refusal : ℕ) (s : State) (left : List ℕ)
      → Permits close_lane_entry (record { state = x.state; lane = i; pool = x.pool; out = out }) refusal (s, left)
      → (reply x (closes i out) ≡ to_closing refusal left) × (after x (closes i out) ≡ record { state = s; pool = x.pool })
  pub reading : (s : List ℕ) (p : Result Packet Unread) → Permits read_packet_entry s p tt → ours.reads s ≡ PacketTold.told p
  pub data_of : (s r : Part) → Permits data_of_entry s r tt → ours.hands s.octets ≡ r.octets
  pub space : (g : SpacePacket) (a : Result ℕ Refusal) (out : List ℕ) → Permits write_space_entry g a out → ours.writes_space g ≡ record { tells = WritingTold.told a; out = out }
  pub encapsulation : (g : EncapsulationPacket) (a : Result ℕ Refusal) (out : List ℕ)
      → Permits write_encapsulation_entry g a out → ours.writes_encapsulation g ≡ record { tells = WritingTold.told a; out = out }
  pub reading_record : (s : List ℕ) (a : Result Record Refusal) → Permits read_record_entry s a tt → ours.reads_record s ≡ told_read a
  pub reading_file : (s : List ℕ) (a : Result ℕ FileFault) → Permits read_record_file_entry s a tt → ours.reads_file s ≡ told_file a
  pub writing_record : (g : RecordGiven) (a : Result ℕ Refusal) (out : List ℕ) → Permits write_record_entry g a out → ours.writes_record g ≡ record { tells = told_written a; out = out }
