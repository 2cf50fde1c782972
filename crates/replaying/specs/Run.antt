-- A run: calls one after another, a line for each, and the end. It can be gone on with in chunks.
use Rattle.std.specs.Prelude.{ℕ, zero, suc, ◌+◌, ◌-◌, Bool, true, false, cond, List, [], ◌++◌, ltb, length, drop, replicate, Option, Some, None}
use Rattle.pool.specs.Octets.{pool_octets}
use Rattle.text.specs.Text.{ascii}
use Rattle.runfile.specs.Calls.{call_at, call_size}
use Rattle.runfile.specs.Start.{start}
use Rattle.runfile.specs.declared.Call.{Call}
use Rattle.state.specs.declared.State.{State}
use Rattle.telling.specs.declared.Progress.{Progress}
use Rattle.replaying.specs.Running.{ran, call_pool, call_out}
use Rattle.telling.specs.Lines.{last_lines, ready as room_for}
use Rattle.replaying.specs.Lines.{line_of}
use Rattle.replaying.specs.declared.Chunk.{Chunk}

-- where a run stands: how far it is, with the intake's state, and then the pool and the output
pub record Standing : Type 0 where
  pub progress : Progress State
  pub pool : List ℕ
  pub out : List ℕ

abbrev pub standing : Progress State → List ℕ → List ℕ → Standing
standing p pool out = record { progress = p; pool = pool; out = out }

-- the same progress, with nothing left to tell
abbrev pub finished : Progress State → Progress State
finished p = record { at = p.at; calls = p.calls; done = true; state = p.state }

-- a run file has at most 1,048,576 octets
abbrev pub longest : ℕ
longest = 1048576

module _ (s : List ℕ) (w : Standing) where
  -- what is left of the run file s, and the call at its front
  abbrev pub ahead : List ℕ
  ahead = drop w.progress.at s

  abbrev pub call : Option Call
  call = call_at s w.progress.at

  -- the run is at its end, where the file is too long or has no whole call here
  abbrev pub ends : Standing
  ends = standing (finished w.progress) w.pool w.out

  -- the text of a call that is run, or the last lines; and the standing after it
  abbrev pub call_text : Option Call → List ℕ
  call_text (Some c) = line_of w.progress.at (ran w.progress.state ahead w.pool w.out c).outcome (call_out w.progress.state ahead w.pool w.out c)
  call_text None = last_lines (length s) w.progress.at w.progress.calls w.pool

  abbrev pub after_call : Option Call → Standing
  after_call (Some c) =
      standing (record { at = w.progress.at + call_size c; calls = w.progress.calls + 1; done = false; state = (ran w.progress.state ahead w.pool w.out c).state })
      (call_pool w.progress.state ahead w.pool w.out c) (call_out w.progress.state ahead w.pool w.out c)
  after_call None = ends

  -- the text of the next step
  unfoldable pub next_text : List ℕ
  next_text = cond (ltb longest (length s)) (ascii "too long\n") (call_text call)

  -- and the standing after it
  unfoldable pub next : Standing
  next = cond (ltb longest (length s)) ends (after_call call)

-- ---- the whole run, over at most `most` steps
unfoldable pub text_over : ℕ → List ℕ → Standing → List ℕ
text_over zero s w = []
text_over (suc most) s w = cond w.progress.done [] (next_text s w ++ text_over most s (next s w))

-- each call has an octet at least, so there are no more calls than octets; then comes the last step
abbrev pub steps_left : List ℕ → Standing → ℕ
steps_left s w = suc (length s - w.progress.calls)

unfoldable pub text_from : List ℕ → Standing → List ℕ
text_from s w = text_over (steps_left s w) s w

-- a run starts fresh, with a pool of 16,384 zeros and an output of 131,072
unfoldable pub zeros : ℕ → List ℕ
zeros n = replicate n 0

unfoldable pub run_text : List ℕ → List ℕ
run_text s = text_from s (standing start (zeros pool_octets) (zeros 131072))

-- ---- a chunk of it: steps are taken while there is room for any of them in so many octets, from index `to` on
unfoldable pub ready : ℕ → ℕ → Progress State → ℕ → Bool
ready n room p to = room_for p.done p.calls p.at n to room

unfoldable pub chunk_over : ℕ → List ℕ → ℕ → ℕ → Standing → List ℕ
chunk_over zero s room to w = []
chunk_over (suc most) s room to w =
    cond (ready (length s) room w.progress to) (next_text s w ++ chunk_over most s room (to + length (next_text s w)) (next s w)) []

unfoldable pub after_over : ℕ → List ℕ → ℕ → ℕ → Standing → Standing
after_over zero s room to w = w
after_over (suc most) s room to w =
    cond (ready (length s) room w.progress to) (after_over most s room (to + length (next_text s w)) (next s w)) w

unfoldable pub chunk_text : List ℕ → ℕ → Standing → List ℕ
chunk_text s room w = chunk_over (steps_left s w) s room 0 w

unfoldable pub chunk_after : List ℕ → ℕ → Standing → Standing
chunk_after s room w = after_over (steps_left s w) s room 0 w

abbrev pub chunk_of : List ℕ → ℕ → Standing → Chunk
chunk_of s room w = record { progress = (chunk_after s room w).progress; octets = length (chunk_text s room w) }
