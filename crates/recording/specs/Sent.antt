-- A frame recording as it is sent: packets laid one after another into the fields of frames, with right pointers and counts; and which of the frames are received.
use Rattle.std.specs.Prelude.{ℕ, ◌+◌, ◌-◌, ◌%◌, ◌≡◌, Bool, true, false, cond, not, ◌&&◌, ◌||◌, length, replicate, eqb, ltb, leb}
use mathlib.Core.List.{List, [], ◌∷◌, ◌++◌, map, flatten}
use Rattle.pieces.specs.Pieces.{one_packet}
use Rattle.frames.specs.Frames.{shortest_field, longest_field, frame_counts, idle_only, no_packet}

-- every element passes the test
abbrev pub all : {A : Type 0} → (A → Bool) → List A → Bool
all test [] = true
all test (a ∷ more) = test a && all test more

-- a frame: whether it has idle data only, its field, and the outputs lent to its calls, one for each time that it is received (directly after itself), none if it is lost
pub record Sent : Type 0 where
  pub idle : Bool
  pub field : List ℕ
  pub lent : List (List ℕ)

abbrev pub lends_any : List (List ℕ) → Bool
lends_any [] = false
lends_any (out ∷ more) = true

abbrev pub received : Sent → Bool
received f = lends_any f.lent

-- the octets of packets that a frame carries: its field, and none if it has idle data only
abbrev pub carried : Sent → List ℕ
carried f = cond f.idle [] f.field

-- and those of all frames, one after another
unfoldable pub laid : List Sent → List ℕ
laid [] = []
laid (f ∷ frames) = carried f ++ laid frames

-- from index at of the packets laid one after another, the octets to the next place where a packet begins or the last one ends
unfoldable pub to_next : List (List ℕ) → ℕ → ℕ
to_next [] at = 0
to_next (p ∷ ps) at = cond (eqb at 0) 0 (cond (ltb at (length p)) (length p - at) (to_next ps (at - length p)))

-- the right pointer of a frame whose field begins at index at: 2046 for idle data only, the offset of the first packet that begins in it, or 2047
unfoldable pub pointer_of : List (List ℕ) → ℕ → Sent → ℕ
pointer_of ps at f = cond f.idle idle_only (cond (ltb (to_next ps at) (length f.field)) (to_next ps at) no_packet)

-- a field of 8 to 2,046 octets
abbrev pub right_size : Sent → Bool
right_size f = leb shortest_field (length f.field) && leb (length f.field) longest_field

-- idle-only frames stand anywhere but inside a packet, from index at on
unfoldable pub idle_between : List (List ℕ) → ℕ → List Sent → Bool
idle_between ps at [] = true
idle_between ps at (f ∷ frames) = (not f.idle || eqb (to_next ps at) 0) && idle_between ps (at + length (carried f)) frames

-- packets the reader accepts, of at most 8,192 octets, filling such fields exactly, and no idle-only frame inside a packet
pub record Fills (ps : List (List ℕ)) (frames : List Sent) : Type 0 where
  pub packets : all one_packet ps ≡ true
  pub sizes : all right_size frames ≡ true
  pub exactly : laid frames ≡ flatten ps
  pub between : idle_between ps 0 frames ≡ true

-- never more than so many frames are lost in a row, where `lost` were lost directly before
abbrev pub most_lost : ℕ
most_lost = 254

unfoldable pub never_more : ℕ → List Sent → Bool
never_more lost [] = true
never_more lost (f ∷ frames) = cond (received f) (never_more 0 frames) (ltb lost most_lost && never_more (lost + 1) frames)

-- a call: the count, the pointer, the field, and the lent output
pub record Call : Type 0 where
  pub count : ℕ
  pub pointer : ℕ
  pub field : List ℕ
  pub out : List ℕ

-- the calls of the frames that are received, of which the first is sent at index at: counts rise by 1 mod 256
unfoldable pub calls_of : List (List ℕ) → ℕ → ℕ → List Sent → List Call
calls_of ps at count [] = []
calls_of ps at count (f ∷ frames) =
    map (λ out. record { count = count; pointer = pointer_of ps at f; field = f.field; out = out }) f.lent
    ++ calls_of ps (at + length (carried f)) ((count + 1) % frame_counts) frames

-- of each octet of the packets, whether its frame is received
unfoldable pub came_of : List Sent → List Bool
came_of [] = []
came_of (f ∷ frames) = replicate (length (carried f)) (received f) ++ came_of frames
