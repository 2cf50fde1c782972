-- Writing a Space Packet: type t, secondary header flag x, APID a, sequence flags f, count c, then the data field.
use Rattle.std.specs.Prelude.{ℕ, ◌+◌, ◌*◌, ◌-◌, List, [], ◌∷◌, ◌++◌, Bool, ◌||◌, length, eqb, ltb}
use Rattle.octets.specs.Octets.{octets2}
use Rattle.octets.specs.Order.{Test, ◌gives◌, first}
use Rattle.octets.specs.Output.{leading, output_after}
use Rattle.packet.specs.Space.{apids, counts, space_header, longest_data, flags_idle}
use Rattle.writing.specs.Fields.{over}

-- six header octets: version 3 bits (000), type 1, secondary header flag 1, APID 11, sequence flags 2, count 14, length 16: the octets of the
-- data field minus 1
unfoldable pub space_octets : ℕ → ℕ → ℕ → ℕ → ℕ → List ℕ → List ℕ
space_octets t x a f c field = octets2 ((t * 2 + x) * apids + a) ++ octets2 (f * counts + c) ++ octets2 (length field - 1) ++ field

abbrev pub space_over : ℕ → ℕ → ℕ → ℕ → ℕ → Bool
space_over t x a f c = over 1 t || over 1 x || over 11 a || over 2 f || over 14 c

-- data to write: none, or over 65,536
abbrev pub wrong_data_length : ℕ → Bool
wrong_data_length n = eqb n 0 || ltb longest_data n

-- 8, then 3, then 10, 9: for n octets of data and an output of room octets
abbrev pub space_tests : ℕ → ℕ → ℕ → ℕ → ℕ → ℕ → ℕ → List (Test (List ℕ))
space_tests t x a f c n room =
    (space_over t x a f c gives (8 ∷ []))
    ∷ (flags_idle a x gives (3 ∷ []))
    ∷ (wrong_data_length n gives (10 ∷ []))
    ∷ (ltb room (space_header + n) gives (9 ∷ []))
    ∷ []

-- what the writer tells: 0 and the octets written, or the refusal
unfoldable pub space_told : ℕ → ℕ → ℕ → ℕ → ℕ → ℕ → ℕ → List ℕ
space_told t x a f c n room = first (0 ∷ (space_header + n) ∷ []) (space_tests t x a f c n room)

-- the refusal alone, and the output after the writer
abbrev pub space_refusal : ℕ → ℕ → ℕ → ℕ → ℕ → ℕ → ℕ → ℕ
space_refusal t x a f c n room = leading (space_told t x a f c n room)

abbrev pub space_after : ℕ → ℕ → ℕ → ℕ → ℕ → List ℕ → List ℕ → List ℕ
space_after t x a f c field out = output_after (space_refusal t x a f c (length field) (length out)) (space_octets t x a f c field) out
