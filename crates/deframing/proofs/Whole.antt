-- The steps of a frame file, one after another until it is done, tell its text and give its packets, wherever each of them put its text; and where there is room for
-- it a step leads on, so they come to the end.
use Prim.Native.Nat.{ℕ, zero, suc, ◌+◌, ◌-◌, ◌≤◌, ◌<◌}
use mathlib.Core.Path.{◌≡◌, refl, sym, ap, ◌∙◌}
use mathlib.Core.Bool.{true, false, cond}
use mathlib.Core.List.{List, [], ◌++◌, append-nil}
use native.Mathlib.Omega.{arith}
use borrow.Author.Tests.{eqb-true, eqb-false, ltb-true, ltb-false}
use lib.Dec.{eqb, ltb}
use lib.ListN.{length, take, length-drop}
use lib.Seq.{length-take-le}
use Rattle.octets.proofs.Order.{either}
use Rattle.text.specs.Text.{ascii}
use Rattle.telling.specs.Lines.{end_line, last_lines, line_room}
use Rattle.telling.proofs.Ready.{Going, goes, is_ready_lem}
use Rattle.deframing.specs.File.{frame_size}
use Rattle.deframing.specs.Run.{Standing, Step, longest, idle, stopping, taking, ahead, step, over, steps_left, from, at_start, text_of, packets_of, frames_text, frames_packets, is_ready, step_if}
use Rattle.frames.specs.declared.Frames.{Frames}
use Rattle.telling.specs.declared.Progress.{Progress}
use Rattle.deframing.proofs.Steps.{size_fits, head_fits, too_long, last, another}

-- what every standing of a file is: no more frames than octets of frames, and no more of these than octets
abbrev pub Possible : List ℕ → Standing → Type 0
Possible s w = (w.progress.calls ≤ w.progress.at) × (w.progress.at ≤ length s)

-- it has less and less before it
abbrev pub before : ℕ → Progress Frames → ℕ
before n p = cond p.done 0 (suc (n - p.at))

-- ---- one step
module _ (s : List ℕ) (w : Standing) (g : Going w.progress.done w.progress.calls w.progress.at (length s)) where
  -- it ends the text, or takes a frame that lies within the file
  which : {A : Type 0} → ((t : List ℕ) → step s w ≡ stopping w t → A)
      → ((frame : List ℕ) → step s w ≡ taking w frame → 0 < length frame → w.progress.at + length frame ≤ length s → A) → A
  which f k =
      either (ltb longest (length s)) (λ t. f (ascii "too long\n") (sym (too_long s w (ltb-true _ _ t))))
      (λ l. either (eqb (frame_size (ahead s w)) 0) (λ z. f _ (sym (last s w (ltb-false _ _ l) (eqb-true _ _ z))))
      (λ n. let some = eqb-false _ _ n in
      let all = length-take-le (frame_size (ahead s w)) (ahead s w) (size_fits (ahead s w)) in
      k (take (frame_size (ahead s w)) (ahead s w)) (sym (another s w (ltb-false _ _ l) some))
      (omega (arith, all, head_fits (ahead s w) some))
      (omega (arith, all, size_fits (ahead s w), length-drop w.progress.at s, g.inside))))

  falls : before (length s) (step s w).after.progress < before (length s) w.progress
  unfolding taking
  falls = which (λ t e. rw e (simp g.undone (omega arith))) (λ frame e some within. rw e (simp g.undone (omega (arith, some, within))))

  stays : Possible s (step s w).after
  unfolding taking
  stays = which (λ t e. rw e (g.counted, g.inside)) (λ frame e some within. rw e (omega (arith, g.counted, some), within))

  -- the steps that are left after it, where the file isn't done, are one fewer
  fewer : {A : Type 0} (f : ℕ → A) → ((step s w).after.progress.done ≡ true → (m k : ℕ) → f m ≡ f k) → f (length s - w.progress.calls) ≡ f (steps_left s (step s w).after)
  unfolding taking
  fewer f same =
      which (λ t e. same (rw e) _ _)
      (λ frame e some within. ap f (rw e (omega (arith, g.counted, some, within))))

-- ---- a step leads on, where there is room for it
module _ (s : List ℕ) (room to : ℕ) (w : Standing) (p : Possible s w) (u : w.progress.done ≡ false) (h : to + line_room ≤ room) where
  going : Going w.progress.done w.progress.calls w.progress.at (length s)
  going = record { undone = u; counted = p.0; inside = p.1 }

  the_step : step_if s room to w ≡ step s w
  unfolding step_if
  the_step = simp (is_ready_lem _ _ _ (length s) to room going h)

  pub leads : before (length s) (step_if s room to w).after.progress < before (length s) w.progress
  leads = rw the_step (falls s w going)

  pub stays_possible : Possible s (step_if s room to w).after
  stays_possible = rw the_step (stays s w going)

-- ---- the law, of what each step gives, where one that is not taken gives nothing: steps one after another from a standing until the file is done
pub data Steps (part : Step → List ℕ) (s : List ℕ) : Standing → List ℕ → Type 0 where
  none : {w : Standing} → w.progress.done ≡ true → Steps part s w []
  one : {w : Standing} {rest : List ℕ} (room to : ℕ) → Steps part s (step_if s room to w).after rest → Steps part s w (part (step_if s room to w) ++ rest)

module _ (part : Step → List ℕ) (quiet : (w : Standing) → part (idle w) ≡ []) (s : List ℕ) where
  done_over : (w : Standing) → w.progress.done ≡ true → (most : ℕ) → over part most s w ≡ []
  unfolding over
  done_over w e zero = refl
  done_over w e (suc most) = simp e

  step_whole : (w : Standing) → Going w.progress.done w.progress.calls w.progress.at (length s) → from part s w ≡ part (step s w) ++ from part s (step s w).after
  unfolding from over
  step_whole w g =
      simp g.undone
      (ap (◌++◌ (part (step s w)))
      (fewer s w g (λ (m : ℕ). over part m s (step s w).after) (λ d m k. done_over (step s w).after d m ∙ sym (done_over (step s w).after d k))))

  step_if_lem : (room to : ℕ) (w : Standing) → from part s w ≡ part (step_if s room to w) ++ from part s (step_if s room to w).after
  unfolding step_if
  step_if_lem room to w =
      either (is_ready (length s) room to w.progress) (λ t. simp t (step_whole w (goes _ _ _ _ _ _ t).0)) (λ f. simp (f, quiet w))

  pub steps_give : {w : Standing} {told : List ℕ} → Steps part s w told → told ≡ from part s w
  unfolding from
  steps_give {w} (none e) = sym (done_over w e (steps_left s w))
  steps_give {w} (one room to c) = ap (◌++◌ (part (step_if s room to w))) (steps_give c) ∙ sym (step_if_lem room to w)

  -- and they come to the end, where each has room
  module _ (room : ℕ) (h : line_room ≤ room) where
    steps_over : (most : ℕ) (w : Standing) → Possible s w → before (length s) w.progress ≤ most → (told : List ℕ) × Steps part s w told
    steps_over zero w p b = either w.progress.done (λ t. ([], none t)) (λ f. absurd (omega (arith, simp f at b)))
    steps_over (suc most) w p b =
        either w.progress.done (λ t. ([], none t))
        (λ f. let r = steps_over most (step_if s room 0 w).after (stays_possible s room 0 w p f (omega arith)) (omega (arith, leads s room 0 w p f (omega arith))) in
        (part (step_if s room 0 w) ++ r.0, one room 0 r.1))

    pub steps_end : (w : Standing) → Possible s w → (told : List ℕ) × Steps part s w told
    steps_end w p = steps_over (before (length s) w.progress) w p (omega arith)

-- the text and the packets of a file
module _ {s : List ℕ} where
  pub steps_tell : {text : List ℕ} → Steps text_of s at_start text → text ≡ frames_text s
  unfolding frames_text
  steps_tell c = steps_give text_of (λ w. refl) s c

  pub steps_yield : {packets : List ℕ} → Steps packets_of s at_start packets → packets ≡ frames_packets s
  unfolding frames_packets
  steps_yield c = steps_give packets_of (λ w. refl) s c

-- ---- a file that is too long has the one line and no packets, and an empty one the last line
going_at_start : (s : List ℕ) → Going at_start.progress.done at_start.progress.calls at_start.progress.at (length s)
unfolding at_start
going_at_start s = record { undone = refl; counted = omega arith; inside = omega arith }

one_step : (part : Step → List ℕ) (quiet : (w : Standing) → part (idle w) ≡ []) (s t : List ℕ) → stopping at_start t ≡ step s at_start → from part s at_start ≡ part (stopping at_start t)
unfolding from
one_step part quiet s t e =
    step_whole part quiet s at_start (going_at_start s)
    ∙ rw (← e, done_over part quiet s (stopping at_start t).after refl (steps_left s (stopping at_start t).after), append-nil)

module _ (s : List ℕ) (h : longest < length s) where
  pub too_long_text : frames_text s ≡ ascii "too long\n"
  unfolding frames_text
  too_long_text = one_step text_of (λ w. refl) s (ascii "too long\n") (too_long s at_start h)

  pub too_long_packets : frames_packets s ≡ []
  unfolding frames_packets
  too_long_packets = one_step packets_of (λ w. refl) s (ascii "too long\n") (too_long s at_start h)

pub empty_text : frames_text [] ≡ end_line 0 0 at_start.piece
unfolding frames_text last_lines at_start frame_size
empty_text = one_step text_of (λ w. refl) [] (last_lines 0 0 0 at_start.piece) (last [] at_start (omega arith) refl)
