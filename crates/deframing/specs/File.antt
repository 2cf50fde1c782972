-- A frame of a frame file: its count, its pointer and the length of its field, two octets each, high octet first; then the field.
use Rattle.std.specs.Prelude.{ℕ, ◌+◌, cond, List, leb, length, drop}
use Rattle.octets.specs.Octets.{be16}

abbrev pub head_octets : ℕ
head_octets = 6

-- the octets of the frame at the front of s; 0 where it is cut off. Past the end an octet reads as 0, so where the head isn't whole the frame isn't either
unfoldable pub frame_size : List ℕ → ℕ
frame_size s = cond (leb (head_octets + be16 s 4) (length s)) (head_octets + be16 s 4) 0

-- what is in a whole frame
abbrev pub count_in : List ℕ → ℕ
count_in frame = be16 frame 0

abbrev pub pointer_in : List ℕ → ℕ
pointer_in frame = be16 frame 2

abbrev pub field_in : List ℕ → List ℕ
field_in frame = drop head_octets frame
