-- The credit record. Fixed 20 octets, no header, high octet first: station 2, APID 2, units 4, packets 4, missing 4, broken 4.
use Rattle.std.specs.Prelude.{ℕ, ◌+◌, ◌*◌, ◌-◌, ◌<◌, List, [], ◌∷◌, ◌++◌, Bool, cond, ◌&&◌, eqb, leb}
use Rattle.octets.specs.Octets.{be16, be32, octets2, octets4}
use Rattle.record.specs.declared.Record.{Record}

abbrev pub record_size : ℕ
record_size = 20

-- the record whose fields stand in some octets
abbrev pub record_in : List ℕ → Record
record_in s =
    record { station = be16 s 0; apid = be16 s 2; units = be32 s 4; packets = be32 s 8; missing = be32 s 12; broken = be32 s 16 }

-- a record's octets, made from the fields
unfoldable pub record_octets : Record → List ℕ
record_octets r =
    octets2 r.station ++ octets2 r.apid ++ octets4 r.units ++ octets4 r.packets ++ octets4 r.missing ++ octets4 r.broken

-- the fields in the record's order
abbrev pub fields : Record → List ℕ
fields r = r.station ∷ r.apid ∷ r.units ∷ r.packets ∷ r.missing ∷ r.broken ∷ []

-- a record whose fields have the widths of the struct
pub record Wide (r : Record) : Type 0 where
  pub station : r.station < 65536
  pub apid : r.apid < 65536
  pub units : r.units < 4294967296
  pub packets : r.packets < 4294967296
  pub missing : r.missing < 4294967296
  pub broken : r.broken < 4294967296

-- the largest APID, the most packets, and the most that can be missing between two of them
abbrev pub most_apid : ℕ
most_apid = 2046

abbrev pub most_packets : ℕ
most_packets = 262144

abbrev pub most_between : ℕ
most_between = 16382

-- 16,382 x (packets - 1), or 0 if packets is 0
abbrev pub most_missing : ℕ → ℕ
most_missing packets = cond (eqb packets 0) 0 (most_between * (packets - 1))

-- APID at most 2046; packets at most 262,144; units + broken at most packets; missing at most 16,382 x (packets - 1), or 0 if packets is 0
unfoldable pub possible : Record → Bool
possible r =
    leb r.apid most_apid && leb r.packets most_packets && leb (r.units + r.broken) r.packets && leb r.missing (most_missing r.packets)
