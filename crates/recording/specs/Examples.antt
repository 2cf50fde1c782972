-- Recordings that show what the promise is about: one that is lost in part, whose output is computed; and two where it fails: 255 frames are lost in a row, or an
-- idle-only frame stands inside a packet.
use Rattle.std.specs.Prelude.{ℕ, ◌≡◌, true, false, take, drop, replicate}
use mathlib.Core.List.{List, [], ◌∷◌, ◌++◌, flatten}
use Rattle.pieces.specs.Pieces.{one_packet}
use Rattle.frames.specs.Frames.{buffer_octets, output_octets, taken_kind, repeat_kind}
use Rattle.recording.specs.Sent.{all, Sent, laid, right_size, idle_between, Fills, Call, never_more, calls_of, came_of}
use Rattle.recording.specs.Received.{fresh, answers, outputs, none_refused, kinds_of, wholly}
use Rattle.recording.specs.Recording.{ComesThrough}

-- the shortest packet, a packet of 8 octets with count n, and one of 26
abbrev pub empty : List ℕ
empty = 0xE0 ∷ []

abbrev pub packet : ℕ → List ℕ
packet n = 0x00 ∷ 0x2A ∷ 0xC0 ∷ n ∷ 0x00 ∷ 0x01 ∷ 0xAA ∷ 0xBB ∷ []

abbrev pub longer : List ℕ
longer = 0x00 ∷ 0x2A ∷ 0xC0 ∷ 0x09 ∷ 0x00 ∷ 0x13 ∷ replicate 20 0xCC

-- a frame that is received so many times, and one of idle data only
abbrev frame : ℕ → List ℕ → Sent
frame times field = record { idle = false; field = field; lent = replicate times (replicate output_octets 0) }

abbrev idle_frame : ℕ → Sent
idle_frame times = record { idle = true; field = replicate 8 0xFF; lent = replicate times (replicate output_octets 0) }

abbrev pub buffer : List ℕ
buffer = replicate buffer_octets 0xFF

-- ---- the second frame comes twice, the long packet goes over three frames, and the last frame is lost, which has the end of packet 7
abbrev pub packets : List (List ℕ)
packets = empty ∷ packet 5 ∷ packet 6 ∷ longer ∷ empty ∷ packet 7 ∷ packet 8 ∷ []

abbrev pub frames : List Sent
frames =
    frame 1 (empty ++ take 7 (packet 5))
    ∷ frame 2 (drop 7 (packet 5) ++ packet 6)
    ∷ idle_frame 1
    ∷ frame 1 (take 8 longer)
    ∷ frame 1 (take 10 (drop 8 longer))
    ∷ frame 1 (drop 18 longer)
    ∷ frame 1 (empty ++ take 7 (packet 7))
    ∷ frame 0 (drop 7 (packet 7) ++ packet 8)
    ∷ []

abbrev pub calls : List Call
calls = calls_of packets 0 254 frames

-- ---- two frames, and 255 of idle data only between them, which are lost: the second has the first one's count
abbrev pub two : List (List ℕ)
two = packet 5 ∷ packet 6 ∷ []

abbrev pub too_many : List Sent
too_many = frame 1 (packet 5) ∷ (replicate 255 (idle_frame 0) ++ (frame 1 (packet 6) ∷ []))

abbrev pub few : List Call
few = calls_of two 0 0 too_many

-- ---- an idle-only frame inside packet 6
abbrev pub three : List (List ℕ)
three = packet 5 ∷ packet 6 ∷ packet 7 ∷ []

abbrev pub broken : List Sent
broken = frame 1 (packet 5 ++ take 4 (packet 6)) ∷ idle_frame 1 ∷ frame 1 (drop 4 (packet 6) ++ packet 7) ∷ []

abbrev pub broken_calls : List Call
broken_calls = calls_of three 0 0 broken

pub record Examples : Type 0 where
  -- all that is asked for holds, and each packet lying wholly in received frames comes out; the second frame is a repeat when it comes again
  pub fills : Fills packets frames
  pub never : never_more 0 frames ≡ true
  pub unrefused : none_refused (answers (fresh buffer) calls) ≡ true
  pub comes : outputs (fresh buffer) calls ≡ flatten (empty ∷ packet 5 ∷ packet 6 ∷ longer ∷ empty ∷ [])
  pub wholes : wholly packets (came_of frames) ≡ empty ∷ packet 5 ∷ packet 6 ∷ longer ∷ empty ∷ []
  pub kinds : kinds_of frames ≡ taken_kind ∷ taken_kind ∷ repeat_kind ∷ replicate 5 taken_kind
  -- all holds but that never more than 254 are lost in a row, and packet 6 doesn't come out
  pub fills_two : Fills two too_many
  pub more : never_more 0 too_many ≡ false
  pub unrefused_two : none_refused (answers (fresh buffer) few) ≡ true
  pub comes_not : ComesThrough two too_many few buffer → ⊥
  -- all holds but that no idle-only frame is inside a packet, and packet 6 doesn't come out
  pub filled_three : (all one_packet three ≡ true) × (all right_size broken ≡ true) × (laid broken ≡ flatten three)
  pub inside : idle_between three 0 broken ≡ false
  pub never_three : never_more 0 broken ≡ true
  pub unrefused_three : none_refused (answers (fresh buffer) broken_calls) ≡ true
  pub gives_up : ComesThrough three broken broken_calls buffer → ⊥
