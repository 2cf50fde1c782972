-- Writing an Encapsulation Packet: protocol ID p, user field u, extension x, then the content. The CCSDS field is 0.
use Rattle.std.specs.Prelude.{ℕ, ◌+◌, ◌*◌, ◌^◌, List, [], ◌∷◌, ◌++◌, Bool, cond, not, ◌&&◌, ◌||◌, length, eqb, ltb}
use Rattle.octets.specs.Octets.{octets2, octets4}
use Rattle.octets.specs.Order.{Test, ◌gives◌, first}
use Rattle.octets.specs.Output.{leading, output_after}
use Rattle.packet.specs.Encapsulation.{limit, extended, extends_another, names_empty}
use Rattle.writing.specs.Fields.{over}

-- the shortest header that can carry the fields and n octets of content: 1 octet only for no content, user 0 and protocol 0; at least 4
-- where the user field is not 0 or the protocol ID is 6 (an extension needs that ID); and the length, which counts the whole packet, must
-- fit in the 1, 2 or 4 octets that the header has for it
unfoldable pub shortest : ℕ → ℕ → ℕ → ℕ
shortest p u n =
    first 8
    ((eqb n 0 && eqb u 0 && eqb p 0 gives 1)
    ∷ (eqb u 0 && not (eqb p extended) && ltb (2 + n) (2 ^ 8) gives 2)
    ∷ (ltb (4 + n) (2 ^ 16) gives 4)
    ∷ [])

-- first octet: version 111, protocol ID 3 bits, length of length 2 bits
abbrev pub first_octet : ℕ → ℕ → ℕ
first_octet p l = 7 * 32 + p * 4 + l

-- a header of h octets for a packet of size octets: 1, 2, 4 or 8 for a length of length of 0, 1, 2, 3. With 4 or 8, octet 1 is the user
-- field and the extension; with 8, octets 2 and 3 are the CCSDS field; the last 1, 2 or 4 octets of a header of 2, 4 or 8 are the length
unfoldable pub header_octets : ℕ → ℕ → ℕ → ℕ → ℕ → List ℕ
header_octets h p u x size =
    cond (eqb h 1) (first_octet p 0 ∷ [])
    (cond (eqb h 2) (first_octet p 1 ∷ size ∷ [])
    (cond (eqb h 4) ((first_octet p 2 ∷ (u * 16 + x) ∷ []) ++ octets2 size)
    ((first_octet p 3 ∷ (u * 16 + x) ∷ []) ++ octets2 0 ++ octets4 size)))

-- the packet with a header of h octets, and with the shortest
unfoldable pub encap_octets_with : ℕ → ℕ → ℕ → ℕ → List ℕ → List ℕ
encap_octets_with h p u x content = header_octets h p u x (h + length content) ++ content

abbrev pub encap_octets : ℕ → ℕ → ℕ → List ℕ → List ℕ
encap_octets p u x content = encap_octets_with (shortest p u (length content)) p u x content

abbrev pub encap_over : ℕ → ℕ → ℕ → Bool
encap_over p u x = over 3 p || over 4 u || over 4 x

-- 8, then 7 (only for the extension) and 6, then 10, 9: for n octets of content and an output of room octets
abbrev pub encap_tests : ℕ → ℕ → ℕ → ℕ → ℕ → List (Test (List ℕ))
encap_tests p u x n room =
    (encap_over p u x gives (8 ∷ []))
    ∷ (extends_another p x gives (7 ∷ []))
    ∷ (names_empty n p gives (6 ∷ []))
    ∷ (ltb limit (shortest p u n + n) gives (10 ∷ []))
    ∷ (ltb room (shortest p u n + n) gives (9 ∷ []))
    ∷ []

-- what the writer tells: 0 and the octets written, or the refusal
unfoldable pub encap_told : ℕ → ℕ → ℕ → ℕ → ℕ → List ℕ
encap_told p u x n room = first (0 ∷ (shortest p u n + n) ∷ []) (encap_tests p u x n room)

-- the refusal alone, and the output after the writer
abbrev pub encap_refusal : ℕ → ℕ → ℕ → ℕ → ℕ → ℕ
encap_refusal p u x n room = leading (encap_told p u x n room)

abbrev pub encap_after : ℕ → ℕ → ℕ → List ℕ → List ℕ → List ℕ
encap_after p u x content out = output_after (encap_refusal p u x (length content) (length out)) (encap_octets p u x content) out
