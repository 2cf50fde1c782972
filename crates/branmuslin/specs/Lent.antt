-- What the exported functions leave behind the pointers that a caller lends: numbers in the order of include/branmuslin.h.
use Rattle.std.specs.Prelude.{ℕ, List, [], ◌∷◌, cond, length, eqb}
use Rattle.octets.specs.Output.{unless_refused}
use Rattle.packet.specs.Space.{space_header, packet_type, secondary, apid, flags, count}
use Rattle.packet.specs.Encapsulation.{protocol, user, extension}
use Rattle.packet.specs.declared.Packet.{Packet}
use Rattle.packet.specs.declared.Packet.TheVariants.{Space, Encapsulation}
use Rattle.reading.specs.Reading.{is_space, refusal, place, content, content_at}
use Rattle.writing.specs.Space.{space_octets, space_refusal}
use Rattle.writing.specs.Encapsulation.{encap_octets, encap_refusal}
use Rattle.record.specs.Record.{record_in, fields}
use Rattle.record.specs.declared.Record.{Record}
use Rattle.record.specs.Reading.{record_refusal, records_in, impossible_in, file_refusal}

-- struct branmuslin_packet: version; type, secondary, apid, flags, count; protocol, user, extension; then where the data begins, and its octets
unfoldable pub packet_numbers : List ℕ → List ℕ
packet_numbers s =
    cond (is_space s)
    (0 ∷ packet_type s ∷ secondary s ∷ apid s ∷ flags s ∷ count s ∷ 0 ∷ 0 ∷ 0 ∷ content_at s ∷ length (content s) ∷ [])
    (7 ∷ 0 ∷ 0 ∷ 0 ∷ 0 ∷ 0 ∷ protocol s ∷ user s ∷ extension s ∷ content_at s ∷ length (content s) ∷ [])

-- the same of a packet as the reader tells it
abbrev pub numbers_of : Packet → List ℕ
numbers_of (Space t x a f c n) = 0 ∷ t ∷ x ∷ a ∷ f ∷ c ∷ 0 ∷ 0 ∷ 0 ∷ space_header ∷ n ∷ []
numbers_of (Encapsulation p u x h n) = 7 ∷ 0 ∷ 0 ∷ 0 ∷ 0 ∷ 0 ∷ p ∷ u ∷ x ∷ h ∷ n ∷ []

abbrev pub packet_after : List ℕ → List ℕ → List ℕ
packet_after s old = unless_refused (refusal s) (packet_numbers s) old

-- the place, which belongs to the refusal
abbrev pub place_after : List ℕ → ℕ → ℕ
place_after s old = cond (eqb (refusal s) 0) old (place s)

-- the octets written
abbrev pub space_written_after : ℕ → ℕ → ℕ → ℕ → ℕ → List ℕ → List ℕ → ℕ → ℕ
space_written_after t x a f c field out old = unless_refused (space_refusal t x a f c (length field) (length out)) (length (space_octets t x a f c field)) old

abbrev pub encap_written_after : ℕ → ℕ → ℕ → List ℕ → List ℕ → ℕ → ℕ
encap_written_after p u x given out old = unless_refused (encap_refusal p u x (length given) (length out)) (length (encap_octets p u x given)) old

-- the record of six numbers that are handed in
abbrev pub handed : ℕ → ℕ → ℕ → ℕ → ℕ → ℕ → Record
handed station apid units packets missing broken =
    record { station = station; apid = apid; units = units; packets = packets; missing = missing; broken = broken }

-- struct branmuslin_record
abbrev pub record_numbers_after : List ℕ → List ℕ → List ℕ
record_numbers_after s old = unless_refused (record_refusal s) (fields (record_in s)) old

-- the number of records; and the index of the first impossible one, which belongs to refusal 25
abbrev pub records_after : List ℕ → ℕ → ℕ
records_after s old = unless_refused (file_refusal s) (records_in s) old

abbrev pub index_after : List ℕ → ℕ → ℕ
index_after s old = cond (eqb (file_refusal s) 25) (impossible_in s) old
