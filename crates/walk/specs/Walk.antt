-- A walk over a run of packets that lie one after another. It stops at the end or at the first refusal.
use Rattle.std.specs.Prelude.{ℕ, zero, suc, ◌+◌, ◌≡◌, List, [], ◌∷◌, Bool, cond, length, drop, eqb, Option, None, Some}
use Rattle.refusal.specs.Refusal.{number, named}
use Rattle.packet.specs.Told.{told}
use Rattle.reading.specs.Reading.{refusal, place as place_in, reading, size}
use Rattle.packet.specs.declared.Unread.{Unread}
use Rattle.walk.specs.declared.Walked.{Walked}
use Rattle.walk.specs.declared.Found.{Found}

-- a packet is read at index at
abbrev pub read_at : List ℕ → ℕ → Bool
read_at s at = eqb (refusal (drop at s)) 0

-- the index after it
abbrev pub next : List ℕ → ℕ → ℕ
next s at = at + size (drop at s)

-- and where no packet is read, index at itself
abbrev pub next_or_here : List ℕ → ℕ → ℕ
next_or_here s at = cond (read_at s at) (next s at) at

-- what is found at index at: the packet or its refusal, as the reader tells it, and where the next packet begins
pub record Finds (s : List ℕ) (at : ℕ) (found : Found) : Type 0 where
  pub tells : told found.read ≡ reading (drop at s)
  pub place : found.next ≡ next_or_here s at

-- from index at on, over at most `most` packets: where each packet begins, and where the last one ends
unfoldable pub places_from : ℕ → List ℕ → ℕ → List ℕ
places_from zero s at = []
places_from (suc most) s at = cond (read_at s at) (at ∷ places_from most s (next s at)) []

unfoldable pub end_from : ℕ → List ℕ → ℕ → ℕ
end_from zero s at = at
end_from (suc most) s at = cond (read_at s at) (end_from most s (next s at)) at

-- each packet has an octet at least, so there are no more packets than octets
unfoldable pub places : List ℕ → List ℕ
places s = places_from (length s) s 0

unfoldable pub end : List ℕ → ℕ
end s = end_from (length s) s 0

-- the refusal that stops the walk, or 0 where it comes to the end
unfoldable pub stop : List ℕ → ℕ
stop s = cond (eqb (end s) (length s)) 0 (refusal (drop (end s) s))

-- its place, from the start of the packet that is refused, or 0
unfoldable pub stop_place : List ℕ → ℕ
stop_place s = cond (eqb (end s) (length s)) 0 (place_in (drop (end s) s))

-- what is told of a stop: the number of its refusal and its place, or 0 and 0 at the end
abbrev pub number_stopped : Option Unread → ℕ
number_stopped None = 0
number_stopped (Some u) = number u.refusal

abbrev pub place_stopped : Option Unread → ℕ
place_stopped None = 0
place_stopped (Some u) = u.place

-- both as one, by the refusal's name
unfoldable pub stopped : List ℕ → Option Unread
stopped s = cond (eqb (end s) (length s)) None (Some (record { refusal = named (stop s); place = stop_place s }))

unfoldable pub walked : List ℕ → Walked
walked s = record { at = end s; packets = length (places s); stopped = stopped s }
