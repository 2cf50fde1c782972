-- The place of a refusal, counted from the packet's start: where the field at fault begins, each by its name. The order of the refusals has no part in it.
use Rattle.std.specs.Prelude.{ℕ, ◌/◌, List, [], ◌∷◌, cond, ◌&&◌, ◌||◌, length, ltb, eqb}
use Rattle.octets.specs.Octets.{octet}
use Rattle.octets.specs.Order.{◌gives◌, first}
use Rattle.packet.specs.Encapsulation.{extended, protocol, encap_header, extension, extends_another}

-- octet 0 has the version, the secondary header flag (idle flag) and the protocol ID; octet 1 the extension
abbrev pub version_at : ℕ
version_at = 0

abbrev pub flag_at : ℕ
flag_at = 0

abbrev pub protocol_at : ℕ
protocol_at = 0

abbrev pub extension_at : ℕ
extension_at = 1

-- CCSDS field 2 (or 3 if octet 2 is 0): of octet 2
abbrev pub ccsds_from : ℕ → ℕ
ccsds_from o = cond (eqb o 0) 3 2

-- the packet length stands in the last 1, 2 or 4 header octets, of 2, 4 or 8: where it begins in a header of h octets
abbrev pub length_from : ℕ → ℕ
length_from h = h / 2

-- protocol ID 6 without an extension, the extension, the CCSDS field; if two faults hold, the earlier: of header octets h, protocol ID p, extension x, octet 2
abbrev pub name_from : ℕ → ℕ → ℕ → ℕ → ℕ
name_from h p x o =
    first (ccsds_from o)
    ((eqb p extended && ltb h 4 gives protocol_at)
    ∷ (extends_another p x gives extension_at)
    ∷ [])

-- what refusal n tells. 1: the number of octets present; 2: the version; 3: the idle flag; 4 and 5: the encapsulation length; 6: the protocol ID, whose content is
-- missing; 7: a name. No other refusal has a place
unfoldable pub fault_at : List ℕ → ℕ → ℕ
fault_at s n =
    first 0
    ((eqb n 1 gives length s)
    ∷ (eqb n 2 gives version_at)
    ∷ (eqb n 3 gives flag_at)
    ∷ (eqb n 4 || eqb n 5 gives length_from (encap_header s))
    ∷ (eqb n 6 gives protocol_at)
    ∷ (eqb n 7 gives name_from (encap_header s) (protocol s) (extension s) (octet s 2))
    ∷ [])
