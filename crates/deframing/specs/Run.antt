-- The text of a frame file: its frames are taken one after another, with a line for each, and then comes the end. One step a time can be taken.
use Rattle.std.specs.Prelude.{ℕ, zero, suc, ◌+◌, ◌-◌, ◌≡◌, Bool, true, false, cond, List, [], ◌∷◌, ◌++◌, eqb, ltb, length, take, drop, replicate}
use Rattle.octets.specs.Octets.{one}
use Rattle.octets.specs.Order.{◌gives◌, first}
use Rattle.octets.specs.Output.{put}
use Rattle.text.specs.Text.{ascii}
use Rattle.adler.specs.Adler.{adler}
use Rattle.telling.specs.Lines.{line, last_lines, ready}
use Rattle.frames.specs.Frames.{buffer_octets, output_octets, refused_kind, repeat_kind, framed, buffer_after, out_after}
use Rattle.frames.specs.declared.Framed.{Framed}
use Rattle.deframing.specs.File.{frame_size, count_in, pointer_in, field_in}
use Rattle.deframing.specs.Start.{start}
use Rattle.frames.specs.declared.Frames.{Frames}
use Rattle.telling.specs.declared.Progress.{Progress}
use Rattle.deframing.specs.declared.Told.{Told}

-- ---- the line of a frame, with its answer and the output after it: `refused` gives the number of the refusal; `taken` gives the packets, their octets, 0 or 1 for a
-- piece that was given up and for a rest that was dropped, and the Adler-32 of the packets, which are at the front of the output
abbrev pub taken_numbers : Framed → List ℕ → List ℕ
taken_numbers f out = f.packets ∷ f.octets ∷ one f.given_up ∷ one f.dropped ∷ adler (take f.octets out) ∷ []

unfoldable pub frame_line : ℕ → ℕ → Framed → List ℕ → List ℕ
frame_line at count f out =
    let told = line at (ascii " frame") count in
    first (told (ascii " taken") (taken_numbers f out))
    ((eqb f.kind refused_kind gives told (ascii " refused") (f.refusal ∷ []))
    ∷ (eqb f.kind repeat_kind gives told (ascii " repeat") [])
    ∷ [])

-- ---- where the file stands: how far it is, with the state of its frames, and then the lent buffer and the output
pub record Standing : Type 0 where
  pub progress : Progress Frames
  pub piece : List ℕ
  pub out : List ℕ

abbrev pub standing : Progress Frames → List ℕ → List ℕ → Standing
standing p piece out = record { progress = p; piece = piece; out = out }

-- the same progress, with nothing left to tell
abbrev pub finished : Progress Frames → Progress Frames
finished p = record { at = p.at; calls = p.calls; done = true; state = p.state }

-- a frame file has at most 1,048,576 octets
abbrev pub longest : ℕ
longest = 1048576

-- ---- a step: the standing after it, its text, and the octets of packets that it leaves at the front of the output
pub record Step : Type 0 where
  pub after : Standing
  pub text : List ℕ
  pub octets : ℕ

-- one that tells nothing, and one that ends the text
abbrev pub idle : Standing → Step
idle w = record { after = w; text = []; octets = 0 }

abbrev pub stopping : Standing → List ℕ → Step
stopping w text = record { after = standing (finished w.progress) w.piece w.out; text = text; octets = 0 }

-- one that takes a whole frame, which the file goes on with
module _ (w : Standing) (frame : List ℕ) where
  abbrev pub answer : Framed
  answer = framed w.progress.state (count_in frame) (pointer_in frame) (field_in frame) w.piece (length w.out)

  abbrev pub piece_then : List ℕ
  piece_then = buffer_after w.progress.state (count_in frame) (pointer_in frame) (field_in frame) w.piece (length w.out)

  abbrev pub out_then : List ℕ
  out_then = out_after w.progress.state (count_in frame) (pointer_in frame) (field_in frame) w.piece w.out

  unfoldable pub taking : Step
  taking =
      record {
        after =
            standing
            (record { at = w.progress.at + length frame; calls = w.progress.calls + 1; done = false; state = answer.state })
            piece_then
            out_then;
        text = frame_line w.progress.at (count_in frame) answer out_then;
        octets = answer.octets;
      }

-- the step from where the file s stands: it is too long; or there is no whole frame; or the next one is taken
module _ (s : List ℕ) (w : Standing) where
  abbrev pub ahead : List ℕ
  ahead = drop w.progress.at s

  unfoldable pub step : Step
  step =
      first (taking w (take (frame_size ahead) ahead))
      ((ltb longest (length s) gives stopping w (ascii "too long\n"))
      ∷ (eqb (frame_size ahead) 0 gives stopping w (last_lines (length s) w.progress.at w.progress.calls w.piece))
      ∷ [])

-- ---- the whole: what each step gives, joined, over at most `most` steps
unfoldable pub over : (Step → List ℕ) → ℕ → List ℕ → Standing → List ℕ
over part zero s w = []
over part (suc most) s w = cond w.progress.done [] (part (step s w) ++ over part most s (step s w).after)

-- each frame has an octet at least, so there are no more frames than octets; then comes the last step
abbrev pub steps_left : List ℕ → Standing → ℕ
steps_left s w = suc (length s - w.progress.calls)

unfoldable pub from : (Step → List ℕ) → List ℕ → Standing → List ℕ
from part s w = over part (steps_left s w) s w

-- a file starts with a buffer of 8,192 zeros and an output of 10,238
unfoldable pub at_start : Standing
at_start = standing start (replicate buffer_octets 0) (replicate output_octets 0)

-- the text, and the packets that come out
abbrev pub text_of : Step → List ℕ
text_of x = x.text

abbrev pub packets_of : Step → List ℕ
packets_of x = take x.octets x.after.out

unfoldable pub frames_text : List ℕ → List ℕ
frames_text s = from text_of s at_start

unfoldable pub frames_packets : List ℕ → List ℕ
frames_packets s = from packets_of s at_start

-- ---- a step whose text goes to index `to` of so much room, where it can be taken
abbrev pub is_ready : ℕ → ℕ → ℕ → Progress Frames → Bool
is_ready n room to p = ready p.done p.calls p.at n to room

unfoldable pub step_if : List ℕ → ℕ → ℕ → Standing → Step
step_if s room to w = cond (is_ready (length s) room to w.progress) (step s w) (idle w)

-- and what is told of it
abbrev pub told_of : ℕ → Step → Told
told_of to x = record { progress = x.after.progress; to = to + length x.text; octets = x.octets }

-- the same as facts: the step x was taken from an output text d, which tells r and leaves piece, out and text. Only functions within the crate promise it
abbrev pub Stepped : Step → List ℕ → ℕ → Told → List ℕ → List ℕ → List ℕ → Type 0
Stepped x d to r piece out text = (r ≡ told_of to x) × ((piece ≡ x.after.piece) × ((out ≡ x.after.out) × (text ≡ put d to x.text)))
