-- A packet that comes to a lane: why it is refused before the grouping rule, and its user data.
use Rattle.std.specs.Prelude.{ℕ, ◌-◌, Bool, not, ◌&&◌, ◌||◌, List, [], ◌∷◌, length, drop, ◌==◌, nat_eq, nat_lt}
use Rattle.octets.specs.Order.{Test, ◌gives◌, first, numbers_of}
use Rattle.packet.specs.Space.{packet_type, secondary, apid, data_octets}
use Rattle.reading.specs.Reading.{is_encapsulation, size, reading, refusal, content}
use Rattle.lane.specs.declared.Settings.{Settings}
use Rattle.lane.specs.declared.Lane.{Lane}
use Rattle.grouping.specs.declared.Terms.{Terms}

-- flag set and the lane's secondary length is 0, or clear and it isn't: of flag x and secondary length n
abbrev pub misflags : ℕ → ℕ → Bool
misflags x n = (x == 1 && n == 0) || (x == 0 && not (n == 0))

-- what decides, with its octets, whether a packet is at fault
abbrev pub terms_of : Lane → Terms
terms_of l = record { settings = l.settings }

-- 12, 13, 14, 15, 16, 17
abbrev pub lane_tests : Terms → List ℕ → List (Test (List ℕ))
lane_tests t s =
    (nat_lt (size s) (length s) gives (12 ∷ []))
    ∷ (is_encapsulation s gives (13 ∷ []))
    ∷ (nat_eq (packet_type s) 1 gives (14 ∷ []))
    ∷ (not (apid s == t.settings.apid) gives (15 ∷ []))
    ∷ (misflags (secondary s) t.settings.secondary gives (16 ∷ []))
    ∷ (nat_lt (data_octets s) t.settings.secondary gives (17 ∷ []))
    ∷ []

-- reading, then these
abbrev pub fault_tests : Terms → List ℕ → List (Test (List ℕ))
fault_tests t s = (not (refusal s == 0) gives reading s) ∷ lane_tests t s

unfoldable pub fault : Terms → List ℕ → ℕ
fault t s = first 0 (numbers_of (fault_tests t s))

-- User data is the data field without the secondary octets
unfoldable pub user_data : Settings → List ℕ → List ℕ
user_data l s = drop l.secondary (content s)

abbrev pub user_octets : Settings → List ℕ → ℕ
user_octets l s = data_octets s - l.secondary
