-- What the receiver has between two frames: it waits for a first one, it follows, or it has missed some, never 255 in a row. So the next frame is no repeat, and it is
-- in step exactly where none was missed.
use Prim.Native.Nat.{ℕ, ◌+◌, ◌%◌, ◌≤◌, ◌<◌}
use mathlib.Core.Path.{◌≡◌, refl}
use mathlib.Core.List.{List, []}
use mathlib.Core.Bool.{true, false, not, and-false}
use native.Mathlib.Omega.{arith}
use borrow.Author.Tests.{eq-eqb, ne_eqb, eqb-true, eqb-false}
use lib.Dec.{eqb}
use lib.ListN.{length, take}
use lib.Seq.{take-append_seam}
use Rattle.std.proofs.lemmas.List.{nil_from_length}
use Rattle.octets.specs.Output.{put}
use Rattle.octets.proofs.Order.{either}
use Rattle.frames.specs.declared.Frames.{Frames}
use Rattle.frames.specs.Frames.{frame_counts, repeats}
use Rattle.recording.specs.Sent.{most_lost}
use Rattle.recording.proofs.Taking.{Holds, nothing, something}

-- before the frame of this count, `lost` having been lost in a row directly before it; `k` is what is kept of the packet that is being sent
pub data Ready (state : Frames) (buffer : List ℕ) (count lost : ℕ) (k : List ℕ) : Type 0 where
  waits : state.started ≡ false → state.piece ≡ 0 → k ≡ [] → Ready state buffer count lost k
  follows : state.started ≡ true → state.count < frame_counts → lost ≡ 0 → count ≡ (state.count + 1) % frame_counts
      → state.piece ≡ length k → take state.piece buffer ≡ k → Ready state buffer count lost k
  misses : state.started ≡ true → state.count < frame_counts → 0 < lost → lost ≤ most_lost → count ≡ (state.count + 1 + lost) % frame_counts → k ≡ []
      → Ready state buffer count lost k

module _ {state : Frames} {buffer : List ℕ} {count lost : ℕ} {k : List ℕ} where
  pub anew : Ready state buffer count lost k → repeats state count ≡ false
  anew (waits s p z) = simp s
  anew (follows s c l e p t) = simp (s, ne_eqb count state.count (λ i. omega arith))
  anew (misses s c l m e z) = simp (s, ne_eqb count state.count (λ i. omega arith))

  pub holds : Ready state buffer count lost k → Holds state count (take state.piece buffer) k
  holds (waits s p z) = nothing (simp (eq-eqb state.piece 0 p)) z
  holds (follows s c l e p t) =
      either (eqb state.piece 0) (λ z. nothing (simp z) (nil_from_length k (omega (arith, eqb-true state.piece 0 z))))
      (λ z. something (simp (z, s, eq-eqb count ((state.count + 1) % frame_counts) e)) t (omega (arith, eqb-false state.piece 0 z)))
  holds (misses s c l m e z) =
      nothing (simp (s, ne_eqb count ((state.count + 1) % frame_counts) (λ i. omega arith)) (and-false (not (eqb state.piece 0)))) z

  -- the next frame is lost, and with it what was sent of the packet
  pub ready_lost : Ready state buffer count lost k → lost < most_lost → {k' : List ℕ} → k' ≡ [] → Ready state buffer ((count + 1) % frame_counts) (lost + 1) k'
  ready_lost (waits s p z) h n = waits s p n
  ready_lost (follows s c l e p t) h n = misses s c (omega arith) (omega arith) (omega arith) n
  ready_lost (misses s c l m e z) h n = misses s c (omega arith) (omega arith) (omega arith) n

-- it was taken: the piece lies at the front of the buffer
pub ready_next : (buffer : List ℕ) (count : ℕ) (k : List ℕ) → count < frame_counts
    → Ready (record { started = true; count = count; piece = length k }) (put buffer 0 k) ((count + 1) % frame_counts) 0 k
unfolding put
ready_next buffer count k c = follows refl c refl refl refl (take-append_seam k _)
