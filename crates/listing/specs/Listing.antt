-- The listing of some octets: a line for each packet of the walk, a line for the refusal if there is one, and the end.
use Rattle.std.specs.Prelude.{ℕ, ◌-◌, List, [], ◌∷◌, ◌++◌, cond, length, drop, eqb, leb}
use Rattle.packet.specs.Space.{apid, flags, count, data_octets}
use Rattle.packet.specs.Encapsulation.{protocol, extension, encap_header, encap_size}
use Rattle.reading.specs.Reading.{is_space}
use Rattle.walk.specs.Walk.{places, end, stop, stop_place}
use Rattle.text.specs.Text.{ascii, decimal, numbers}

-- the numbers that end a line
unfoldable pub line_end : List ℕ → List ℕ
line_end ns = numbers ns ++ ascii "\n"

-- an offset, a word and numbers
unfoldable pub line : ℕ → List ℕ → List ℕ → List ℕ
line at word ns = decimal at ++ word ++ line_end ns

-- kind; then APID, flags, count, data octets; or protocol ID, extension, header octets, content octets
unfoldable pub packet_line : ℕ → List ℕ → List ℕ
packet_line at s =
    cond (is_space s)
    (line at (ascii " space") (apid s ∷ flags s ∷ count s ∷ data_octets s ∷ []))
    (line at (ascii " encap") (protocol s ∷ extension s ∷ encap_header s ∷ (encap_size s - encap_header s) ∷ []))

unfoldable pub packet_lines : List ℕ → List ℕ → List ℕ
packet_lines s [] = []
packet_lines s (at ∷ more) = packet_line at (drop at s) ++ packet_lines s more

-- `refused` gives the number and its place, and appears only if there is one
unfoldable pub refused_line : ℕ → ℕ → ℕ → List ℕ
refused_line at k place = cond (eqb k 0) [] (line at (ascii " refused") (k ∷ place ∷ []))

-- `end` gives octets in whole packets and their count
unfoldable pub end_line : ℕ → ℕ → List ℕ
end_line at packets = ascii "end" ++ line_end (at ∷ packets ∷ [])

unfoldable pub listing : List ℕ → List ℕ
listing s = packet_lines s (places s) ++ refused_line (end s) (stop s) (stop_place s) ++ end_line (end s) (length (places s))

-- what the program prints: at most 65,536 octets are listed; more: the single line `too long`
abbrev pub longest : ℕ
longest = 65536

unfoldable pub recording_text : List ℕ → List ℕ
recording_text s = cond (leb (length s) longest) (listing s) (ascii "too long\n")
