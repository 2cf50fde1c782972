-- The calls of a run file, by their first octet. Numbers are high octet first. A call that is cut off by the end, or another first octet, is
-- none.
--     O lane:1 station:2 APID:2 secondary:1 share:1 cap:1     opening
--     P lane:1 space:4 length:4 octets                        packet
--     C lane:1 space:4                                        closing
use Rattle.std.specs.Prelude.{ℕ, ◌+◌, cond, List, [], ◌∷◌, eqb, leb, length, take, drop, Option, Some, None}
use Rattle.octets.specs.Octets.{octet, be16, be32}
use Rattle.octets.specs.Order.{◌gives◌, first}
use Rattle.lane.specs.declared.Settings.{Settings}
use Rattle.runfile.specs.declared.Call.{Call}
use Rattle.runfile.specs.declared.Call.TheVariants.{Opening, Packet, Closing}

abbrev pub settings_in : List ℕ → Settings
settings_in s = record { station = be16 s 2; apid = be16 s 4; secondary = octet s 6; share = octet s 7; cap = octet s 8 }

unfoldable pub opening_in : List ℕ → Option Call
opening_in s = cond (leb 9 (length s)) (Some (Opening (octet s 1) (settings_in s))) None

unfoldable pub packet_in : List ℕ → Option Call
packet_in s = cond (leb (10 + be32 s 6) (length s)) (Some (Packet (octet s 1) (be32 s 2) (be32 s 6))) None

unfoldable pub closing_in : List ℕ → Option Call
closing_in s = cond (leb 6 (length s)) (Some (Closing (octet s 1) (be32 s 2))) None

-- the call at the front of s: 0x4F is O, 0x50 is P, 0x43 is C
unfoldable pub call_in : List ℕ → Option Call
call_in s =
    first None
    ((eqb (octet s 0) 79 gives opening_in s)
    ∷ (eqb (octet s 0) 80 gives packet_in s)
    ∷ (eqb (octet s 0) 67 gives closing_in s)
    ∷ [])

-- the call at index at
abbrev pub call_at : List ℕ → ℕ → Option Call
call_at s at = call_in (drop at s)

-- the octets of a call
abbrev pub call_size : Call → ℕ
call_size (Opening lane settings) = 9
call_size (Packet lane space n) = 10 + n
call_size (Closing lane space) = 6

-- no octets where there is no call
abbrev pub size_in : Option Call → ℕ
size_in (Some call) = call_size call
size_in None = 0

-- those of the packet in a call, where it has n
abbrev pub packet_octets : List ℕ → ℕ → List ℕ
packet_octets s n = take n (drop 10 s)
