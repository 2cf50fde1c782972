-- Whole frame recordings: what is lost of one takes nothing else with it. From the fresh start, with no received frame refused, and state and buffer handed back as left.
use Rattle.std.specs.Prelude.{ℕ, ◌<◌, ◌≡◌, true, List}
use Rattle.frames.specs.Frames.{frame_counts, repeat_kind, out_after}
use Rattle.recording.specs.Sent.{Sent, Fills, Call, calls_of, never_more}
use Rattle.recording.specs.Received.{Receiver, fresh, answer_to, handed_back, answers, none_refused}
use Rattle.recording.specs.Recording.{ComesThrough}

-- ---- take packets the reader accepts, of at most 8,192 octets, filling such fields exactly, with right pointers, counts rising by 1 mod 256 and no idle-only frame inside a
-- packet. Lose any frames, never more than 254 in a row. Each packet lying wholly in received frames comes out once, in order, and nothing else comes out. (Each received
-- frame is taken, and is a repeat where it comes again directly after itself.) Nothing is assumed of what idle-only fields and the buffer hold, or of which frame is the first
-- or the last that is received
abbrev pub ComeThrough : Type 0
ComeThrough =
    (ps : List (List ℕ)) (frames : List Sent) (start : ℕ) (buffer : List ℕ)
    → start < frame_counts → Fills ps frames → never_more 0 frames ≡ true → none_refused (answers (fresh buffer) (calls_of ps 0 start frames)) ≡ true
    → ComesThrough ps frames (calls_of ps 0 start frames) buffer

-- ---- a repeat changes nothing: not the state, nor the buffer, nor the output, whatever they are
abbrev pub RepeatChangesNothing : Type 0
RepeatChangesNothing =
    (r : Receiver) (c : Call) → (answer_to r c).kind ≡ repeat_kind
    → (handed_back r c ≡ r) × (out_after r.state c.count c.pointer c.field r.buffer c.out ≡ c.out)

pub record WholeFrames : Type 0 where
  pub come_through : ComeThrough
  pub repeat_changes_nothing : RepeatChangesNothing
