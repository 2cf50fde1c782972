-- What reading tells, as the paper's number and values.
use Rattle.std.specs.Prelude.{ℕ, ◌+◌, List, [], ◌∷◌, Result, Ok, Err}
use Rattle.refusal.specs.Refusal.{number}
use Rattle.packet.specs.Space.{space_header}
use Rattle.packet.specs.declared.Packet.{Packet}
use Rattle.packet.specs.declared.Packet.TheVariants.{Space, Encapsulation}
use Rattle.packet.specs.declared.Unread.{Unread}

-- the version and the fields
abbrev pub fields_of : Packet → List ℕ
fields_of (Space packet_type secondary apid flags count octets) = 0 ∷ packet_type ∷ secondary ∷ apid ∷ flags ∷ count ∷ octets ∷ []
fields_of (Encapsulation protocol user extension header octets) = 7 ∷ protocol ∷ user ∷ extension ∷ header ∷ octets ∷ []

-- no refusal (0), the version and the fields; or the number of the refusal and its place
abbrev pub told : Result Packet Unread → List ℕ
told (Ok p) = 0 ∷ fields_of p
told (Err u) = number u.refusal ∷ u.place ∷ []

-- the refusal, or 0
abbrev pub number_of : Result Packet Unread → ℕ
number_of (Ok p) = 0
number_of (Err u) = number u.refusal

-- its place, or 0
abbrev pub place_of : Result Packet Unread → ℕ
place_of (Ok p) = 0
place_of (Err u) = u.place

-- octets of the whole packet that was read, or 0
abbrev pub size_of : Result Packet Unread → ℕ
size_of (Ok (Space t x a f c n)) = space_header + n
size_of (Ok (Encapsulation p u x h n)) = h + n
size_of (Err u) = 0

-- octets of its header, or 0
abbrev pub header_of : Result Packet Unread → ℕ
header_of (Ok (Space t x a f c n)) = space_header
header_of (Ok (Encapsulation p u x h n)) = h
header_of (Err u) = 0
