-- The Encapsulation Packet. First octet: version 111, protocol ID 3 bits, length of length 2 bits. A field that is not present reads as 0.
use Rattle.std.specs.Prelude.{ℕ, ◌-◌, ◌/◌, ◌%◌, List, Bool, cond, not, ◌&&◌, ◌||◌, ltb, eqb}
use Rattle.octets.specs.Octets.{octet, be16, be32}

abbrev pub protocol : List ℕ → ℕ
protocol s = octet s 0 / 4 % 8

abbrev pub length_of_length : List ℕ → ℕ
length_of_length s = octet s 0 % 4

-- the header has 1, 2, 4 or 8 octets for a length of length of 0, 1, 2, 3
abbrev pub header_for : ℕ → ℕ
header_for l = cond (eqb l 0) 1 (cond (eqb l 1) 2 (cond (eqb l 2) 4 8))

abbrev pub encap_header : List ℕ → ℕ
encap_header s = header_for (length_of_length s)

-- with 4 or 8 header octets, octet 1 is the user field (4 bits) and the protocol extension (4 bits)
abbrev pub second : List ℕ → ℕ
second s = cond (ltb (encap_header s) 4) 0 (octet s 1)

abbrev pub user : List ℕ → ℕ
user s = second s / 16 % 16

abbrev pub extension : List ℕ → ℕ
extension s = second s % 16

-- with 8, octets 2 and 3 are the CCSDS field
abbrev pub ccsds : List ℕ → ℕ
ccsds s = cond (ltb (encap_header s) 8) 0 (be16 s 2)

-- the packet length stands in the last 1, 2 or 4 header octets and counts the whole packet; with one header octet the packet is one octet
abbrev pub size_for : ℕ → List ℕ → ℕ
size_for h s = cond (eqb h 1) 1 (cond (eqb h 2) (octet s 1) (cond (eqb h 4) (be16 s 2) (be32 s 4)))

abbrev pub encap_size : List ℕ → ℕ
encap_size s = size_for (encap_header s) s

-- Our limit is 65,542 octets a packet.
abbrev pub limit : ℕ
limit = 65542

-- the extension is 0 unless the protocol ID is this one
abbrev pub extended : ℕ
extended = 6

-- extension not 0 with another ID than 6: of protocol ID p and extension x
abbrev pub extends_another : ℕ → ℕ → Bool
extends_another p x = not (eqb x 0) && not (eqb p extended)

-- protocol ID 6 in a 1 or 2 octet header; or extension not 0 with another ID; or CCSDS field not 0: of header octets h, protocol ID p,
-- extension x, CCSDS field f
abbrev pub misnames : ℕ → ℕ → ℕ → ℕ → Bool
misnames h p x f = (eqb p extended && ltb h 4) || extends_another p x || not (eqb f 0)

abbrev pub misnamed : List ℕ → Bool
misnamed s = misnames (encap_header s) (protocol s) (extension s) (ccsds s)

-- no content and protocol ID not 0: of n octets of content and protocol ID p
abbrev pub names_empty : ℕ → ℕ → Bool
names_empty n p = eqb n 0 && not (eqb p 0)

abbrev pub empty_named : List ℕ → Bool
empty_named s = names_empty (encap_size s - encap_header s) (protocol s)
