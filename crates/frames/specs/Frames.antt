-- A frame is taken: what it does to the piece that the frames before it left, which packets come out, and what is left of it.
use Rattle.std.specs.Prelude.{ℕ, ◌+◌, ◌%◌, List, [], ◌∷◌, ◌++◌, Bool, true, false, cond, not, ◌&&◌, ◌||◌, ◌-◌, ◌≡◌, length, take, drop, eqb, ltb, leb, Result, Ok, Err}
use Rattle.octets.specs.Octets.{one}
use Rattle.octets.specs.Order.{Test, ◌gives◌, first, numbers_of}
use Rattle.octets.specs.Output.{put}
use Rattle.walk.specs.Walk.{places, end}
use Rattle.refusal.specs.Refusal.{number}
use Rattle.pieces.specs.Pieces.{one_packet, unfinished, ahead, left, drops}
use Rattle.pieces.specs.declared.Rest.{Rest}
use Rattle.frames.specs.declared.Frames.{Frames}
use Rattle.frames.specs.declared.Framed.{Framed}
use Rattle.frames.specs.declared.plan.Goes.{Goes}
use Rattle.frames.specs.declared.plan.Goes.TheVariants.{Finishes, Grows, Stops}
use Rattle.frames.specs.declared.plan.Untaken.{Untaken}
use Rattle.frames.specs.declared.plan.Untaken.TheVariants.{Refused, Repeat}

-- ---- what is given: a field of 8 to 2,046 octets, its count, its first header pointer; a lent buffer of 8,192 octets, in which the unfinished piece lives, and an
-- output of 10,238 at least
abbrev pub shortest_field : ℕ
shortest_field = 8

abbrev pub longest_field : ℕ
longest_field = 2046

abbrev pub buffer_octets : ℕ
buffer_octets = 8192

abbrev pub longest_piece : ℕ
longest_piece = 8191

abbrev pub output_octets : ℕ
output_octets = 10238

-- a count is 0 to 255
abbrev pub frame_counts : ℕ
frame_counts = 256

-- the first header pointer: an offset, 2047 for no packet beginning here, 2046 for idle data only
abbrev pub no_packet : ℕ
no_packet = 2047

abbrev pub idle_only : ℕ
idle_only = 2046

abbrev pub is_offset : ℕ → Bool
is_offset pointer = not (eqb pointer idle_only || eqb pointer no_packet)

-- a fresh start has no piece and no previous frame
abbrev pub fresh_frames : Frames
fresh_frames = record { started = false; count = 0; piece = 0 }

-- ---- 28: a wrong field or buffer size, a count over 255, an offset at or past the field's end, or a state whose piece is over 8,191 octets. Of a field of n octets and
-- a buffer of b
abbrev pub wrong : Frames → ℕ → ℕ → ℕ → ℕ → Bool
wrong state count pointer n b =
    (ltb n shortest_field || ltb longest_field n || not (eqb b buffer_octets))
    || leb frame_counts count
    || (is_offset pointer && leb n pointer)
    || ltb longest_piece state.piece

-- 28, then 9 for an output of so much room
abbrev pub frame_tests : Frames → ℕ → ℕ → ℕ → ℕ → ℕ → List (Test (List ℕ))
frame_tests state count pointer n b room = (wrong state count pointer n b gives (28 ∷ [])) ∷ (ltb room output_octets gives (9 ∷ [])) ∷ []

unfoldable pub frame_refusal : Frames → ℕ → ℕ → ℕ → ℕ → ℕ → ℕ
frame_refusal state count pointer n b room = first 0 (numbers_of (frame_tests state count pointer n b room))

-- ---- the same count as the previous frame is a repeat; out of step is a count that isn't the previous plus 1 mod 256. A first frame is neither
abbrev pub repeats : Frames → ℕ → Bool
repeats state count = state.started && eqb count state.count

abbrev pub out_of_step : Frames → ℕ → Bool
out_of_step state count = state.started && not (eqb count ((state.count + 1) % frame_counts))

-- ---- a frame that is neither refused nor a repeat, with the piece that is there. 2046 and 2047 lie past the end of every field: nothing is to be read from there on, and with
-- 2047 the octets before the pointer are the field
module _ (state : Frames) (count pointer : ℕ) (field piece : List ℕ) where
  -- there is a piece, the frame is in step, and the pointer is not 2046
  abbrev pub goes_on : Bool
  goes_on = not (eqb state.piece 0) && not (out_of_step state count) && not (eqb pointer idle_only)

  -- the piece and the octets before the pointer
  abbrev pub joined : List ℕ
  joined = piece ++ take pointer field

  -- they are exactly one packet; with 2047: or the beginning of one, which is then the longer piece. Else the piece is given up
  unfoldable pub finishes : Bool
  finishes = goes_on && one_packet joined

  unfoldable pub grows : Bool
  grows = goes_on && eqb pointer no_packet && unfinished joined

  unfoldable pub gives_up : Bool
  gives_up = not (eqb state.piece 0) && not (finishes || grows)

  -- the packets that come out, that one and those from the pointer on, and how many; the piece after the frame, that one or what is left and not dropped
  unfoldable pub packets_out : List ℕ
  packets_out = cond finishes joined [] ++ take (end (ahead field pointer)) (ahead field pointer)

  unfoldable pub packets_count : ℕ
  packets_count = one finishes + length (places (ahead field pointer))

  unfoldable pub piece_after : List ℕ
  piece_after = cond grows joined (cond (drops field pointer) [] (left field pointer))

  -- which of these it is; no piece does both
  abbrev pub goes_to : Goes
  goes_to = cond finishes Finishes (cond grows Grows Stops)

-- ---- the same as the code has it, where the whole packets lie between two indices of the field
abbrev pub finishing : Goes → Bool
finishing Finishes = true
finishing Grows = false
finishing Stops = false

abbrev pub growing : Goes → Bool
growing Finishes = false
growing Grows = true
growing Stops = false

abbrev pub packets_put : Goes → List ℕ → List ℕ → Rest → List ℕ
packets_put g piece field rest = cond (finishing g) (piece ++ take rest.from field) [] ++ take (rest.to - rest.from) (drop rest.from field)

abbrev pub piece_kept : Goes → List ℕ → List ℕ → Rest → List ℕ
piece_kept g piece field rest = cond (growing g) (piece ++ field) (cond rest.dropped [] (drop rest.to field))

-- ---- the answer: refused with its number; repeat; or taken
abbrev pub refused_kind : ℕ
refused_kind = 0

abbrev pub repeat_kind : ℕ
repeat_kind = 1

abbrev pub taken_kind : ℕ
taken_kind = 2

abbrev pub untaken : ℕ → ℕ → Frames → Framed
untaken refusal kind state =
    record { refusal = refusal; kind = kind; given_up = false; dropped = false; packets = 0; octets = 0; state = state }

abbrev pub untaken_by : Untaken → Frames → Framed
untaken_by (Refused r) state = untaken (number r) refused_kind state
untaken_by Repeat state = untaken 0 repeat_kind state

-- why a frame is not taken, or that it is
abbrev pub Checked : Frames → ℕ → ℕ → ℕ → ℕ → ℕ → Result (Unit {0}) Untaken → Type 0
Checked state count pointer n b room (Ok u) = (frame_refusal state count pointer n b room ≡ 0) × (repeats state count ≡ false)
Checked state count pointer n b room (Err (Refused r)) = number r ≡ frame_refusal state count pointer n b room
Checked state count pointer n b room (Err Repeat) = (frame_refusal state count pointer n b room ≡ 0) × (repeats state count ≡ true)

-- ---- a call: the state, the count, the pointer, the field, the lent buffer, and the room in the lent output
module _ (state : Frames) (count pointer : ℕ) (field buffer : List ℕ) where
  -- the piece lies at the front of the buffer
  abbrev pub piece_in : List ℕ
  piece_in = take state.piece buffer

  -- every frame that is neither refused nor a repeat becomes the previous one
  abbrev pub taken : Framed
  taken =
      record {
        refusal = 0;
        kind = taken_kind;
        given_up = gives_up state count pointer field piece_in;
        dropped = drops field pointer;
        packets = packets_count state count pointer field piece_in;
        octets = length (packets_out state count pointer field piece_in);
        state = record { started = true; count = count; piece = length (piece_after state count pointer field piece_in) };
      }

  -- 28, 9, repeat
  unfoldable pub framed : ℕ → Framed
  framed room =
      let refusal = frame_refusal state count pointer (length field) (length buffer) room in
      first taken
      ((not (eqb refusal 0) gives untaken refusal refused_kind state)
      ∷ (repeats state count gives untaken 0 repeat_kind state)
      ∷ [])

  -- the new piece at the front of the buffer, and the packets at the front of the output; every other octet stays
  unfoldable pub buffer_after : ℕ → List ℕ
  buffer_after room = cond (eqb (framed room).kind taken_kind) (put buffer 0 (piece_after state count pointer field piece_in)) buffer

  unfoldable pub out_after : List ℕ → List ℕ
  out_after out = cond (eqb (framed (length out)).kind taken_kind) (put out 0 (packets_out state count pointer field piece_in)) out
