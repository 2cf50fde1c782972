-- A chunk is made step by step: what is put and what is left of it are its text. What carries the loop of `replay_some`.
use Prim.Native.Nat.{ℕ, zero, suc, ◌+◌, ◌≤◌}
use mathlib.Core.Path.{◌≡◌, refl, sym, ap, ◌∙◌}
use mathlib.Core.Bool.{true, false}
use mathlib.Core.List.{List, [], ◌++◌}
use native.Mathlib.Omega.{arith}
use lib.ListN.{length}
use Rattle.octets.specs.Output.{put}
use Rattle.text.proofs.Underway.{Underway, begin, go_on, put_whole}
use Rattle.telling.specs.Lines.{ready as room_for, Lined}
use Rattle.replaying.specs.Run.{Standing, next, next_text, ready, steps_left, chunk_over, after_over, chunk_text, chunk_after, chunk_of}
use Rattle.replaying.specs.declared.Chunk.{Chunk}
use Rattle.replaying.proofs.Steps.{Going, is_ready_lem, fewer}

-- where the run is done nothing is left, however many steps there are
module _ (s : List ℕ) (room to : ℕ) (w : Standing) (e : w.progress.done ≡ true) where
  pub idle_text : (most : ℕ) → chunk_over most s room to w ≡ []
  unfolding chunk_over ready room_for
  idle_text zero = refl
  idle_text (suc most) = simp e

  pub idle_after : (most : ℕ) → after_over most s room to w ≡ w
  unfolding after_over ready room_for
  idle_after zero = refl
  idle_after (suc most) = simp e

-- one step, and then the rest
module _ (s : List ℕ) (room to : ℕ) (w : Standing) (e : ready (length s) room w.progress to ≡ true) where
  going : Going (length s) w.progress
  going = (is_ready_lem (length s) room w.progress to e).0

  pub step_text : chunk_over (steps_left s w) s room to w ≡ next_text s w ++ chunk_over (steps_left s (next s w)) s room (to + length (next_text s w)) (next s w)
  unfolding chunk_over
  step_text =
      let at = to + length (next_text s w) in
      simp e
      (ap (◌++◌ (next_text s w))
      (fewer s w going (λ (m : ℕ). chunk_over m s room at (next s w)) (λ d m k. idle_text s room at (next s w) d m ∙ sym (idle_text s room at (next s w) d k))))

  pub step_after : after_over (steps_left s w) s room to w ≡ after_over (steps_left s (next s w)) s room (to + length (next_text s w)) (next s w)
  unfolding after_over
  step_after =
      let at = to + length (next_text s w) in
      simp e
      (fewer s w going (λ (m : ℕ). after_over m s room at (next s w)) (λ d m k. idle_after s room at (next s w) d m ∙ sym (idle_after s room at (next s w) d k)))

-- `text` is d with the front of the chunk from w₀ in it, up to index `to`; the run stands at w
pub record Chunking (s : List ℕ) (w₀ : Standing) (d : List ℕ) (w : Standing) (text : List ℕ) (to : ℕ) : Type 0 where
  pub under : Underway d text to (chunk_over (steps_left s w) s (length d) to w) (chunk_text s (length d) w₀)
  pub ahead : after_over (steps_left s w) s (length d) to w ≡ chunk_after s (length d) w₀
  pub within : to ≤ length d

pub chunk_begins : (s : List ℕ) (w : Standing) (d : List ℕ) → Chunking s w d w d 0
unfolding chunk_text chunk_after
chunk_begins s w d = record { under = begin d _; ahead = refl; within = omega arith }

module _ (s : List ℕ) (w₀ : Standing) (d : List ℕ) (w : Standing) (text : List ℕ) (to : ℕ) (c : Chunking s w₀ d w text to) where
  pub chunk_goes_on : ready (length s) (length text) w.progress to ≡ true → {w' : Standing} {text' : List ℕ} {to' : ℕ}
      → w' ≡ next s w → Lined text to (next_text s w) text' to' → Chunking s w₀ d w' text' to'
  chunk_goes_on r {text' = text'} e l =
      let ready-now : ready (length s) (length d) w.progress to ≡ true = rw c.under.same_length at r in
      let u = rw (step_text s (length d) to w ready-now) at c.under in
      rw (e, l.0) (record {
        under = go_on d text to (next_text s w) _ _ u (omega (arith, l.0, l.2)) (refl, l.1);
        ahead = sym (step_after s (length d) to w ready-now) ∙ c.ahead;
        within = omega (arith, l.0, l.2, c.under.same_length);
      })

  pub chunk_ends : ready (length s) (length text) w.progress to ≡ false
      → (◌≡◌ {A = Chunk} (record { progress = w.progress; octets = to }) (chunk_of s (length d) w₀))
      × ((w.pool ≡ (chunk_after s (length d) w₀).pool) × ((w.out ≡ (chunk_after s (length d) w₀).out) × ((text ≡ put d 0 (chunk_text s (length d) w₀)) × (to ≤ length d))))
  unfolding chunk_over after_over
  chunk_ends r =
      let idle : ready (length s) (length d) w.progress to ≡ false = rw c.under.same_length at r in
      let t = put_whole d text to (chunk_text s (length d) w₀) (simp idle at c.under) in
      let a : w ≡ chunk_after s (length d) w₀ = simp idle at c.ahead in
      rw (← a) (ap (λ (n : ℕ). record { progress = w.progress; octets = n }) t.0, (refl, (refl, (t.1, c.within))))
