-- Which octets are at fault where a packet is refused with n: those of a field that is wrong, each by its name. The place that is told is proved to be the first of
-- them, and to be decided by the header alone.
use Rattle.std.specs.Prelude.{ℕ, ◌≤◌, ◌<◌, ◌≡◌, List, cond, ◌⊎◌, length}
use Rattle.octets.specs.Octets.{octet}
use Rattle.packet.specs.Space.{version, secondary, apid, idle_apid, space_header}
use Rattle.packet.specs.Encapsulation.{limit, extended, protocol, encap_header, extension, encap_size}
use Rattle.reading.specs.Reading.{is_space, is_encapsulation}

-- octet q of a header of h octets has part of the packet length, which stands in the last 1, 2 or 4
pub data InLength (h q : ℕ) : Type 0 where
  of_two : h ≡ 2 → q ≡ 1 → InLength h q
  of_four : h ≡ 4 → 2 ≤ q → q < 4 → InLength h q
  of_eight : h ≡ 8 → 4 ≤ q → q < 8 → InLength h q

pub data AtFault (s : List ℕ) : ℕ → ℕ → Type 0 where
  -- the version, neither 000 nor 111
  bad_version : (version s ≡ 0 → ⊥) → (version s ≡ 7 → ⊥) → AtFault s 2 0
  -- the secondary header flag of an idle packet
  idle_flag : apid s ≡ idle_apid → secondary s ≡ 1 → AtFault s 3 0
  -- the length, less than the header or over the limit
  short_length : {q : ℕ} → InLength (encap_header s) q → encap_size s < encap_header s → AtFault s 4 q
  long_length : {q : ℕ} → InLength (encap_header s) q → limit < encap_size s → AtFault s 5 q
  -- the protocol ID, not 0 where nothing comes after the header
  without_content : encap_size s ≡ encap_header s → (protocol s ≡ 0 → ⊥) → AtFault s 6 0
  -- the protocol ID, 6 in a header of 1 or 2 octets
  without_extension : protocol s ≡ extended → encap_header s < 4 → AtFault s 7 0
  -- the extension, not 0 with another protocol ID
  not_extended : (extension s ≡ 0 → ⊥) → (protocol s ≡ extended → ⊥) → AtFault s 7 1
  -- an octet of the CCSDS field that isn't 0
  in_ccsds : {q : ℕ} → encap_header s ≡ 8 → 2 ≤ q → q ≤ 3 → (octet s q ≡ 0 → ⊥) → AtFault s 7 q

-- octet q is there and at fault, and no octet before it is
pub record FirstAtFault (s : List ℕ) (n q : ℕ) : Type 0 where
  pub there : q < length s
  pub wrong : AtFault s n q
  pub earliest : (r : ℕ) → AtFault s n r → q ≤ r

-- place q of refusal n is honest: 1 tells the number of octets present, and 2 to 7 the field at fault; if two faults hold, the earlier
abbrev pub IsHonest : List ℕ → ℕ → ℕ → Type 0
IsHonest s n q = ((n ≡ 1) × (q ≡ length s)) ⊎ FirstAtFault s n q

-- octets of the header; of an unknown version only the one that has it
unfoldable pub head : List ℕ → ℕ
head s = cond (is_space s) space_header (cond (is_encapsulation s) (encap_header s) 1)
