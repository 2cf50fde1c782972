-- When each number is given: the paper's cause, with every cause before it in the order ruled out. `refusal` is proved to give n exactly
-- where `Cause s n` holds, and 0 exactly where `Whole s` does.
use Rattle.std.specs.Prelude.{ℕ, ◌≤◌, ◌<◌, ◌≡◌, List, true, false, length}
use Rattle.packet.specs.Space.{version, space_header, space_size, flagged_idle}
use Rattle.packet.specs.Encapsulation.{limit, encap_header, encap_size, misnamed, empty_named}

-- some octets, of version v
abbrev pub Version : ℕ → List ℕ → Type 0
Version v s = (0 < length s) × (version s ≡ v)

-- a Space Packet's header is there; and then it isn't refused 3
abbrev pub SpaceThere : List ℕ → Type 0
SpaceThere s = Version 0 s × (space_header ≤ length s)

abbrev pub SpaceGood : List ℕ → Type 0
SpaceGood s = SpaceThere s × (flagged_idle s ≡ false)

-- an Encapsulation Packet's header is there; and then it isn't refused 7; nor 4; nor 5; nor 6
abbrev pub EncapThere : List ℕ → Type 0
EncapThere s = Version 7 s × (encap_header s ≤ length s)

abbrev pub EncapNamed : List ℕ → Type 0
EncapNamed s = EncapThere s × (misnamed s ≡ false)

abbrev pub EncapLong : List ℕ → Type 0
EncapLong s = EncapNamed s × (encap_header s ≤ encap_size s)

abbrev pub EncapLimited : List ℕ → Type 0
EncapLimited s = EncapLong s × (encap_size s ≤ limit)

abbrev pub EncapGood : List ℕ → Type 0
EncapGood s = EncapLimited s × (empty_named s ≡ false)

pub data Cause (s : List ℕ) : ℕ → Type 0 where
  no_octets : length s ≡ 0 → Cause s 1
  no_version : 0 < length s → (version s ≡ 0 → ⊥) → (version s ≡ 7 → ⊥) → Cause s 2
  space_header_cut : Version 0 s → length s < space_header → Cause s 1
  idle : SpaceThere s → flagged_idle s ≡ true → Cause s 3
  space_packet : SpaceGood s → length s < space_size s → Cause s 1
  encap_header_cut : Version 7 s → length s < encap_header s → Cause s 1
  names_nothing : EncapThere s → misnamed s ≡ true → Cause s 7
  less_than_header : EncapNamed s → encap_size s < encap_header s → Cause s 4
  over_limit : EncapLong s → limit < encap_size s → Cause s 5
  no_content : EncapLimited s → empty_named s ≡ true → Cause s 6
  encap_packet : EncapGood s → length s < encap_size s → Cause s 1

pub data Whole (s : List ℕ) : Type 0 where
  space : SpaceGood s → space_size s ≤ length s → Whole s
  encapsulation : EncapGood s → encap_size s ≤ length s → Whole s
