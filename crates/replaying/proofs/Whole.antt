-- The chunks of a run, one after another until it is done, are its text, whatever room each of them had; and with room for a step each of them
-- leads on, so they come to the end.
use Prim.Native.Nat.{ℕ, zero, suc, ◌+◌, ◌≤◌, ◌<◌}
use mathlib.Core.Path.{◌≡◌, refl, sym, ap, ◌∙◌}
use mathlib.Core.Bool.{true, false}
use mathlib.Core.List.{List, [], ◌++◌, append_assoc}
use native.Mathlib.Omega.{arith}
use lib.ListN.{length}
use Rattle.octets.proofs.Order.{either}
use Rattle.text.specs.Text.{ascii}
use Rattle.runfile.specs.Start.{start}
use Rattle.telling.specs.Lines.{line_room}
use Rattle.telling.proofs.Ready.{is_ready_lem as can-step}
use Rattle.replaying.specs.Run.{Standing, standing, zeros, longest, next, next_text, ready, steps_left, text_over, text_from, run_text, chunk_over, after_over, chunk_text, chunk_after}
use Rattle.replaying.proofs.Steps.{Going, is_ready_lem, before, falls, stays, fewer, too_long}
use Rattle.replaying.proofs.Chunks.{step_after}

-- what every standing of a run is: no more calls than octets of calls, and no more of these than octets
abbrev pub Possible : List ℕ → Standing → Type 0
Possible s w = (w.progress.calls ≤ w.progress.at) × (w.progress.at ≤ length s)

module _ (s : List ℕ) where
  done_text : (w : Standing) → w.progress.done ≡ true → (most : ℕ) → text_over most s w ≡ []
  unfolding text_over
  done_text w e zero = refl
  done_text w e (suc most) = simp e

  step_whole : (w : Standing) → Going (length s) w.progress → text_from s w ≡ next_text s w ++ text_from s (next s w)
  unfolding text_from text_over
  step_whole w g =
      simp g.undone
      (ap (◌++◌ (next_text s w)) (fewer s w g (λ (m : ℕ). text_over m s (next s w)) (λ d m k. done_text (next s w) d m ∙ sym (done_text (next s w) d k))))

  module _ (room : ℕ) where
    -- steps of a chunk keep a standing possible, and lead on
    after_leads : (most to : ℕ) (w : Standing) → Possible s w
        → Possible s (after_over most s room to w) × (before (length s) (after_over most s room to w).progress ≤ before (length s) w.progress)
    unfolding after_over
    after_leads zero to w p = (p, omega arith)
    after_leads (suc most) to w p =
        either (ready (length s) room w.progress to)
        (λ t. let g = (is_ready_lem (length s) room w.progress to t).0 in
        let l = after_leads most (to + length (next_text s w)) (next s w) (stays s w g) in
        simp t (l.0, omega (arith, l.1, falls s w g)))
        (λ f. simp f (p, omega arith))

    over_law : (most to : ℕ) (w : Standing) → text_from s w ≡ chunk_over most s room to w ++ text_from s (after_over most s room to w)
    unfolding chunk_over after_over
    over_law zero to w = refl
    over_law (suc most) to w =
        either (ready (length s) room w.progress to)
        (λ t. simp t
        (step_whole w (is_ready_lem (length s) room w.progress to t).0
        ∙ ap (◌++◌ (next_text s w)) (over_law most (to + length (next_text s w)) (next s w))
        ∙ sym (append_assoc (next_text s w) _ _)))
        (λ f. simp f)

    -- a chunk is the front of what is left to tell, and the rest is told from where the chunk ends
    pub chunk_law : (w : Standing) → text_from s w ≡ chunk_text s room w ++ text_from s (chunk_after s room w)
    unfolding chunk_text chunk_after
    chunk_law w = over_law (steps_left s w) 0 w

    pub stays_possible : (w : Standing) → Possible s w → Possible s (chunk_after s room w)
    unfolding chunk_after
    stays_possible w p = (after_leads (steps_left s w) 0 w p).0

    -- with room for a step, and something left to tell, a chunk leads on
    pub leads : (w : Standing) → Possible s w → w.progress.done ≡ false → line_room ≤ room → before (length s) (chunk_after s room w).progress < before (length s) w.progress
    unfolding chunk_after ready
    leads w p u h =
        let g : Going (length s) w.progress = record { undone = u; counted = p.0; inside = p.1 } in
        let e : ready (length s) room w.progress 0 ≡ true = can-step _ _ _ _ 0 room g (omega arith) in
        rw (step_after s room 0 w e)
        (omega (arith, falls s w g, (after_leads (steps_left s (next s w)) (0 + length (next_text s w)) (next s w) (stays s w g)).1))

-- ---- the law: texts of chunks, one after another from a standing until the run is done
pub data Chunks (s : List ℕ) : Standing → List ℕ → Type 0 where
  none : {w : Standing} → w.progress.done ≡ true → Chunks s w []
  one : {w : Standing} {text : List ℕ} (room : ℕ) → Chunks s (chunk_after s room w) text → Chunks s w (chunk_text s room w ++ text)

pub chunks_tell : {s : List ℕ} {w : Standing} {text : List ℕ} → Chunks s w text → text ≡ text_from s w
unfolding text_from
chunks_tell {s} {w} (none e) = sym (done_text s w e (steps_left s w))
chunks_tell {s} {w} (one room c) = ap (◌++◌ (chunk_text s room w)) (chunks_tell c) ∙ sym (chunk_law s room w)

pub run_in_chunks : {s text : List ℕ} → Chunks s (standing start (zeros 16384) (zeros 131072)) text → text ≡ run_text s
unfolding run_text
run_in_chunks c = chunks_tell c

-- and they come to the end, where each has room for a step
module _ (s : List ℕ) (room : ℕ) (h : line_room ≤ room) where
  chunks_over : (most : ℕ) (w : Standing) → Possible s w → before (length s) w.progress ≤ most → (text : List ℕ) × Chunks s w text
  chunks_over zero w p b = either w.progress.done (λ t. ([], none t)) (λ f. absurd (omega (arith, simp f at b)))
  chunks_over (suc most) w p b =
      either w.progress.done (λ t. ([], none t))
      (λ f. let r = chunks_over most (chunk_after s room w) (stays_possible s room w p) (omega (arith, leads s room w p f h)) in
      (chunk_text s room w ++ r.0, one room r.1))

  pub chunks_end : (w : Standing) → Possible s w → (text : List ℕ) × Chunks s w text
  chunks_end w p = chunks_over (before (length s) w.progress) w p (omega arith)

-- a file that is too long has the one line
pub too_long_text : (s : List ℕ) → longest < length s → run_text s ≡ ascii "too long\n"
unfolding run_text text_from
too_long_text s h =
    let w = standing start (zeros 16384) (zeros 131072) in
    let k = too_long s w h in
    let done : (next s w).progress.done ≡ true = ap (λ (x : Standing). x.progress.done) (sym k.0) in
    step_whole s w (record { undone = refl; counted = omega arith; inside = omega arith })
    ∙ rw (← k.1, done_text s (next s w) done (steps_left s (next s w)))
