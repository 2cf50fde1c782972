-- Demand 2. Reading and writing agree with the books as condensed in the paper, and each reader gives back what its writer was given. Every unit,
-- missing count and credit is the one the grouping rule gives for the packets that source had accepted.
use Rattle.std.specs.Prelude.{ℕ, ◌≤◌, ◌≡◌, true, cond, List, [], ◌∷◌, ◌++◌, ◌↔◌, length, take, replicate, eqb, leb, Result, Ok, Err}
use Rattle.octets.specs.Octets.{AreOctets}
use Rattle.octets.specs.Order.{Test, first, numbers_of}
use Rattle.octets.specs.Output.{leading, put}
use Rattle.packet.specs.Space.{version, packet_type, secondary, apid, flags, count}
use Rattle.packet.specs.Encapsulation.{protocol, user, extension, encap_header}
use Rattle.packet.specs.Told.{told}
use Rattle.packet.specs.declared.Packet.TheVariants.{Space, Encapsulation}
use Rattle.reading.specs.Places.{fault_at}
use Rattle.reading.specs.Reading.{size, reading, content}
use Rattle.writing.specs.Encapsulation.{shortest}
use Rattle.writing.specs.Carries.{IsShortest}
use Rattle.record.specs.Record.{record_size, Wide, record_octets, possible}
use Rattle.record.specs.Reading.{record_reading, file_reading}
use Rattle.record.specs.Told.{told_read, told_file}
use Rattle.record.specs.declared.Record.{Record}
use Rattle.lane.specs.declared.Lane.{Lane}
use Rattle.state.specs.State.{lane_at}
use Rattle.intake.specs.declared.Answer.{Answer}
use Rattle.intake.specs.declared.Answer.TheVariants.{Repeat}
use Rattle.refusal.specs.Refusal.{named}
use Rattle.grouping.specs.declared.Refused.{Refused}
use Rattle.grouping.specs.declared.Refused.TheVariants.{Unread, Untaken}
use Rattle.intake.specs.Calls.{opening_causes, closing_causes}
use Rattle.rule.specs.Rule.{Taken, taken_of, octets_in, repeats, group, unit, answer_to, with_unit, credit}
use Rattle.entries.specs.Entries.{SpacePacket, EncapsulationPacket, RecordGiven}
use Rattle.calls.specs.Order.{packet_causes}
use Rattle.calls.specs.Groups.{group_in}
use Rattle.demands.specs.Runs.{Call, opens, takes, closes, Reply, to_opening, to_packet, to_closing, lane_of, Wrote, AnyIntake, space_wrote, encapsulation_wrote, record_wrote}
use Rattle.demands.specs.Past.{Past, settings_of, accepted_in, lane_from, lanes_from, InEveryRun}

-- ---- Reading and writing agree with the books as condensed in the paper
pub record Agrees (n : AnyIntake) : Type 0 where
  pub reads : (s : List ℕ) → n.reads s ≡ reading s
  pub hands : (s : List ℕ) → n.hands s ≡ content s
  pub writes_space : (g : SpacePacket) → n.writes_space g ≡ space_wrote g
  pub writes_encapsulation : (g : EncapsulationPacket) → n.writes_encapsulation g ≡ encapsulation_wrote g
  pub reads_record : (s : List ℕ) → n.reads_record s ≡ record_reading s
  pub reads_file : (s : List ℕ) → n.reads_file s ≡ file_reading s
  pub writes_record : (g : RecordGiven) → n.writes_record g ≡ record_wrote g

abbrev pub Unrefused : Wrote → Type 0
Unrefused w = leading w.tells ≡ 0

-- ---- each reader gives back what its writer was given: what lies in the output after the writer reads so, whatever lay there before
abbrev pub SpaceGivenBack : AnyIntake → Type 0
SpaceGivenBack n =
    (g : SpacePacket) → Unrefused (n.writes_space g)
    → (n.reads (n.writes_space g).out ≡ told (Ok (Space g.packet_type g.secondary g.apid g.flags g.count (length g.field))))
    × (n.hands (n.writes_space g).out ≡ g.field)

abbrev pub EncapsulationGivenBack : AnyIntake → Type 0
EncapsulationGivenBack n =
    (g : EncapsulationPacket) → Unrefused (n.writes_encapsulation g)
    → (n.reads (n.writes_encapsulation g).out ≡ told (Ok (Encapsulation g.protocol g.user g.extension (shortest g.protocol g.user (length g.content)) (length g.content))))
    × (n.hands (n.writes_encapsulation g).out ≡ g.content)

-- The writer uses the shortest header that can carry the fields: no packet with a shorter one reads so
abbrev pub HeaderIsShortest : AnyIntake → Type 0
HeaderIsShortest n =
    (g : EncapsulationPacket) → AreOctets g.content → Unrefused (n.writes_encapsulation g)
    → IsShortest (encap_header (n.writes_encapsulation g).out) g.protocol g.user g.extension g.content

abbrev pub RecordGivenBack : AnyIntake → Type 0
RecordGivenBack n =
    (g : RecordGiven) → Wide g.credit → Unrefused (n.writes_record g) → n.reads_record (take record_size (n.writes_record g).out) ≡ told_read (Ok g.credit)

-- and a file of such records that are possible, each as the writer leaves it in an output of just its size, reads as their number
pub record Possible : Type 0 where
  pub credit : Record
  pub wide : Wide credit
  pub possible : possible credit ≡ true

unfoldable pub file_of : AnyIntake → List Possible → List ℕ
file_of n [] = []
file_of n (r ∷ rs) = (n.writes_record (record { credit = r.credit; out = replicate record_size 0 })).out ++ file_of n rs

abbrev pub FileGivenBack : AnyIntake → Type 0
FileGivenBack n = (rs : List Possible) → n.reads_file (file_of n rs) ≡ told_file (Ok (length rs))

-- ---- Writing what was read gives the same octets for every Space Packet, and for an Encapsulation Packet exactly when its header was the shortest; and it
-- isn't refused where there is room
abbrev pub space_again : AnyIntake → List ℕ → List ℕ → Wrote
space_again n s out =
    n.writes_space (record { packet_type = packet_type s; secondary = secondary s; apid = apid s; flags = flags s; count = count s; field = n.hands s; out = out })

abbrev pub SpaceWrittenAgain : AnyIntake → Type 0
SpaceWrittenAgain n =
    (s out : List ℕ) → AreOctets s → leading (n.reads s) ≡ 0 → version s ≡ 0 → size s ≤ length out
    → Unrefused (space_again n s out) × ((space_again n s out).out ≡ put out 0 (take (size s) s))

abbrev pub encapsulation_again : AnyIntake → List ℕ → List ℕ → Wrote
encapsulation_again n s out =
    n.writes_encapsulation (record { protocol = protocol s; user = user s; extension = extension s; content = n.hands s; out = out })

abbrev pub EncapsulationWrittenAgain : AnyIntake → Type 0
EncapsulationWrittenAgain n =
    (s out : List ℕ) → AreOctets s → leading (n.reads s) ≡ 0 → version s ≡ 7 → size s ≤ length out
    → Unrefused (encapsulation_again n s out)
    × (((encapsulation_again n s out).out ≡ put out 0 (take (size s) s)) ↔ IsShortest (encap_header s) (protocol s) (user s) (extension s) (n.hands s))

abbrev pub RecordWrittenAgain : AnyIntake → Type 0
RecordWrittenAgain n =
    (r : Record) (s out : List ℕ) → AreOctets s → n.reads_record s ≡ told_read (Ok r) → record_size ≤ length out
    → Unrefused (n.writes_record (record { credit = r; out = out })) × ((n.writes_record (record { credit = r; out = out })).out ≡ put out 0 s)

-- ---- Every unit, missing count and credit is the one the grouping rule gives for the packets that source had accepted
-- why a call is refused, in the paper's order: 24 is not among the causes, since state and pool are handed back as they were left (and stay sound: demand 3)
abbrev pub causes : List Lane → Call → List (Test (List ℕ))
causes lanes (opens i settings) = opening_causes lanes i settings
causes lanes (takes i packet out) = packet_causes lanes i packet (length out)
causes lanes (closes i out) = closing_causes lanes i (length out)

-- what a packet is answered that is refused: the number, and with those of reading, 1 to 7, the place
abbrev pub refused_answer : ℕ → List ℕ → Result Answer Refused
refused_answer number packet =
    cond (leb number 7) (Err (Unread (record { refusal = named number; place = fault_at packet number }))) (Err (Untaken (named number)))

-- what a refused call is replied: that, and the output as it was
abbrev pub refused_with : ℕ → Call → Reply
refused_with number (opens i settings) = to_opening number
refused_with number (takes i packet out) = to_packet (refused_answer number packet) out
refused_with number (closes i out) = to_closing number out

-- what a packet is replied by the grouping rule
abbrev pub packet_reply : List Taken → Taken → List ℕ → Reply
packet_reply packets p out = cond (repeats packets p) (to_packet (Ok Repeat) out) (to_packet (Ok (answer_to packets p)) (with_unit out (unit packets p)))

-- what a call is replied that isn't refused
abbrev pub ruled : Past → Call → Reply
ruled past (opens i settings) = to_opening 0
ruled past (takes i packet out) = packet_reply (accepted_in past) (taken_of (settings_of past) packet) out
ruled past (closes i out) = to_closing 0 (put out 0 (record_octets (credit (settings_of past) (accepted_in past))))

-- what a call is replied, by all lanes' pasts
abbrev pub reply_by : (ℕ → Past) → Call → Reply
reply_by past c = let number = first 0 (numbers_of (causes (lanes_from past) c)) in cond (eqb number 0) (ruled (past (lane_of c)) c) (refused_with number c)

-- in every run each reply is that one: it refuses exactly for the paper's causes, and else it is the rule's
abbrev pub RepliesAreTheRules : AnyIntake → Type 0
RepliesAreTheRules n = InEveryRun n (λ x past. (c : Call) → n.reply_to x c ≡ reply_by past c)

-- and each lane is the one that has accepted its packets, with its group in the pool
abbrev pub LanesAreTheRules : AnyIntake → Type 0
LanesAreTheRules n =
    InEveryRun n (λ x past. (i : ℕ) → (lane_at x.state i ≡ lane_from (past i)) × (group_in x.state x.pool i ≡ octets_in (group (accepted_in (past i)))))

pub record Demand2 (n : AnyIntake) : Type 0 where
  pub agrees : Agrees n
  pub space_given_back : SpaceGivenBack n
  pub encapsulation_given_back : EncapsulationGivenBack n
  pub header_is_shortest : HeaderIsShortest n
  pub record_given_back : RecordGivenBack n
  pub file_given_back : FileGivenBack n
  pub space_written_again : SpaceWrittenAgain n
  pub encapsulation_written_again : EncapsulationWrittenAgain n
  pub record_written_again : RecordWrittenAgain n
  pub replies_are_the_rules : RepliesAreTheRules n
  pub lanes_are_the_rules : LanesAreTheRules n
