-- What octets of a frame recording are: exactly one packet, or the beginning of one. No packet of a frame recording is over 8,192 octets.
use Rattle.std.specs.Prelude.{ℕ, ◌+◌, min, List, Bool, cond, not, ◌&&◌, ◌||◌, length, drop, eqb, ltb, leb, Result, Ok, Err}
use Rattle.refusal.specs.Refusal.{number}
use Rattle.refusal.specs.declared.Refusal.{Refusal}
use Rattle.reading.specs.Reading.{header, size, refusal}
use Rattle.walk.specs.Walk.{places, end}
use Rattle.pieces.specs.declared.Joined.{Joined}
use Rattle.pieces.specs.declared.Joined.TheVariants.{Packet, Unfinished, Neither}
use Rattle.pieces.specs.declared.Rest.{Rest}

-- the number of an answer's refusal; 0 where it isn't refused
abbrev pub number_told : {A : Type 0} → Result A Refusal → ℕ
number_told (Ok a) = 0
number_told (Err r) = number r

abbrev pub longest : ℕ
longest = 8192

-- exactly one packet of at most 8,192 octets: the reader takes it, and nothing is left
unfoldable pub one_packet : List ℕ → Bool
one_packet s = eqb (refusal s) 0 && eqb (size s) (length s) && leb (length s) longest

-- unfinished: the reader says 1, and where the header is whole the packet has at most 8,192 octets. Of no octets it is so too
unfoldable pub unfinished : List ℕ → Bool
unfinished s = eqb (refusal s) 1 && (ltb (length s) (header s) || leb (size s) longest)

-- no octets are both
abbrev pub joined_is : List ℕ → Joined
joined_is s = cond (one_packet s) Packet (cond (unfinished s) Unfinished Neither)

-- the same of n octets, from their refusal and the sizes that their header announces
abbrev pub kind_of : ℕ → ℕ → ℕ → ℕ → Joined
kind_of number n header size =
    cond (eqb number 0 && eqb size n && leb n longest) Packet (cond (eqb number 1 && (ltb n header || leb size longest)) Unfinished Neither)

-- ---- reading resumes at the pointer: whole packets, one after another; no field is so long that one of them could be over 8,192 octets
abbrev pub ahead : List ℕ → ℕ → List ℕ
ahead field pointer = drop pointer field

-- what is left after them
abbrev pub left : List ℕ → ℕ → List ℕ
left field pointer = drop (end (ahead field pointer)) (ahead field pointer)

-- it is unfinished, or else dropped
unfoldable pub drops : List ℕ → ℕ → Bool
drops field pointer = not (unfinished (left field pointer))

-- the same with indices into the field
abbrev pub rest_of : List ℕ → ℕ → Rest
rest_of field pointer =
    record {
      from = min (length field) pointer;
      to = min (length field) pointer + end (ahead field pointer);
      packets = length (places (ahead field pointer));
      dropped = drops field pointer;
    }
