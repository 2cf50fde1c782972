-- What comes through of a frame recording, from a fresh start.
use Rattle.std.specs.Prelude.{ℕ, ◌≡◌}
use mathlib.Core.List.{List, map, flatten}
use Rattle.recording.specs.Sent.{Sent, Call, came_of}
use Rattle.recording.specs.Received.{fresh, answers, outputs, kinds_of, wholly}

-- of the packets, the frames that were sent with them, and the calls of those that were received, with any buffer at the start
pub record ComesThrough (ps : List (List ℕ)) (frames : List Sent) (calls : List Call) (buffer : List ℕ) : Type 0 where
  -- each packet lying wholly in received frames comes out once, in order, and nothing else comes out
  pub packets : outputs (fresh buffer) calls ≡ flatten (wholly ps (came_of frames))
  -- each received frame is taken; where it comes again directly after itself it is a repeat, which changes nothing
  pub kinds : map (λ a. a.kind) (answers (fresh buffer) calls) ≡ kinds_of frames
