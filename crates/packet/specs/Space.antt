-- The Space Packet. Six header octets: version 3 bits (000), type 1, secondary header flag 1, APID 11, sequence flags 2, count 14,
-- length 16.
use Rattle.std.specs.Prelude.{ℕ, ◌+◌, ◌/◌, ◌%◌, List, Bool, ◌&&◌, eqb}
use Rattle.octets.specs.Octets.{octet, be16}

-- the first three bits, which an Encapsulation Packet has too
abbrev pub version : List ℕ → ℕ
version s = octet s 0 / 32 % 8

abbrev pub packet_type : List ℕ → ℕ
packet_type s = octet s 0 / 16 % 2

abbrev pub secondary : List ℕ → ℕ
secondary s = octet s 0 / 8 % 2

-- how many APIDs there are, of 11 bits, and counts, of 14
abbrev pub apids : ℕ
apids = 2048

abbrev pub counts : ℕ
counts = 16384

abbrev pub apid : List ℕ → ℕ
apid s = be16 s 0 % apids

abbrev pub flags : List ℕ → ℕ
flags s = octet s 2 / 64 % 4

abbrev pub count : List ℕ → ℕ
count s = be16 s 2 % counts

abbrev pub space_header : ℕ
space_header = 6

-- the length is the octets of the data field minus 1, so the data field has 1 to 65,536
abbrev pub longest_data : ℕ
longest_data = 65536

abbrev pub data_octets : List ℕ → ℕ
data_octets s = be16 s 4 + 1

abbrev pub space_size : List ℕ → ℕ
space_size s = space_header + data_octets s

-- APID 2047 is idle and never has the secondary header flag: of APID a and flag x
abbrev pub idle_apid : ℕ
idle_apid = 2047

abbrev pub flags_idle : ℕ → ℕ → Bool
flags_idle a x = eqb a idle_apid && eqb x 1

abbrev pub flagged_idle : List ℕ → Bool
flagged_idle s = flags_idle (apid s) (secondary s)
