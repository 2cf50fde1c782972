-- Reading one packet from the front of some octets. A refusal is the paper's number, and 0 stands for none.
use Rattle.std.specs.Prelude.{ℕ, ◌-◌, List, [], ◌∷◌, ◌++◌, Bool, cond, not, ◌||◌, length, take, drop, ltb, eqb}
use Rattle.octets.specs.Order.{Test, ◌gives◌, first}
use Rattle.octets.specs.Output.{leading}
use Rattle.packet.specs.Space.{version, packet_type, secondary, apid, flags, count, space_header, data_octets, space_size, flagged_idle}
use Rattle.packet.specs.Encapsulation.{limit, protocol, encap_header, user, extension, encap_size, misnamed, empty_named}
use Rattle.reading.specs.Places.{fault_at}
use Rattle.reading.specs.declared.Sizes.{Sizes}

abbrev pub is_space : List ℕ → Bool
is_space s = eqb (version s) 0

abbrev pub is_encapsulation : List ℕ → Bool
is_encapsulation s = eqb (version s) 7

-- octets of the header, and of the whole packet
unfoldable pub header : List ℕ → ℕ
header s = cond (is_space s) space_header (encap_header s)

unfoldable pub size : List ℕ → ℕ
size s = cond (is_space s) (space_size s) (encap_size s)

-- both, as the octets that are there announce them
unfoldable pub announced : List ℕ → Sizes
announced s = record { header = header s; size = size s }

-- a refused reading tells the number n and its place
abbrev pub refused_by : List ℕ → ℕ → List ℕ
refused_by s n = n ∷ fault_at s n ∷ []

-- 3, or 7, 4, 5, 6
abbrev pub kind_tests : List ℕ → List (Test (List ℕ))
kind_tests s =
    cond (is_space s)
    ((flagged_idle s gives refused_by s 3) ∷ [])
    ((misnamed s gives refused_by s 7)
    ∷ (ltb (encap_size s) (encap_header s) gives refused_by s 4)
    ∷ (ltb limit (encap_size s) gives refused_by s 5)
    ∷ (empty_named s gives refused_by s 6)
    ∷ [])

-- 1 for no octets, 2, 1 for the header, then 3, or 7, 4, 5, 6, then 1 for the packet
unfoldable pub reading_tests : List ℕ → List (Test (List ℕ))
reading_tests s =
    (eqb (length s) 0 gives refused_by s 1)
    ∷ (not (is_space s || is_encapsulation s) gives refused_by s 2)
    ∷ (ltb (length s) (header s) gives refused_by s 1)
    ∷ (kind_tests s ++ (ltb (length s) (size s) gives refused_by s 1) ∷ [])

-- the version, and the fields that a packet of that version has
unfoldable pub fields : List ℕ → List ℕ
fields s =
    cond (is_space s)
    (0 ∷ packet_type s ∷ secondary s ∷ apid s ∷ flags s ∷ count s ∷ data_octets s ∷ [])
    (7 ∷ protocol s ∷ user s ∷ extension s ∷ encap_header s ∷ (encap_size s - encap_header s) ∷ [])

-- what reading tells: 0 and the fields, or the refusal with its place
unfoldable pub reading : List ℕ → List ℕ
reading s = first (0 ∷ fields s) (reading_tests s)

-- the refusal alone
unfoldable pub refusal : List ℕ → ℕ
refusal s = leading (reading s)

-- and its place
unfoldable pub place : List ℕ → ℕ
place s = fault_at s (refusal s)

-- the data field or the content, and where it begins; an empty part at the front where the packet is refused
unfoldable pub content : List ℕ → List ℕ
content s = cond (eqb (refusal s) 0) (take (size s - header s) (drop (header s) s)) []

unfoldable pub content_at : List ℕ → ℕ
content_at s = cond (eqb (refusal s) 0) (header s) 0
