-- A sound state, clause by clause, both ways; and that it stays one when one lane and the marks change so that the lane is fine, there is room
-- for it and the marks match.
use Prim.Native.Nat.{ℕ, ◌<◌}
use mathlib.Core.Path.{◌≡◌, refl, ◌∙◌}
use mathlib.Core.Bool.{true, false, ◌&&◌}
use mathlib.Core.List.{List, map}
use borrow.Author.Tests.{eqb-true}
use lib.Dec.{eqb}
use lib.ListN.{length, set, length-set, length-replicate}
use Rattle.octets.specs.Output.{unless_refused}
use Rattle.octets.proofs.Order.{both}
use Rattle.marks.specs.Matching.{matching}
use Rattle.marks.proofs.Matched.{matching_fresh}
use Rattle.lane.specs.declared.Lane.{Lane}
use Rattle.lane.specs.Lane.{held, need, fine}
use Rattle.lane.proofs.Fine.{none_held}
use Rattle.grouping.proofs.Planned.{of_either}
use Rattle.state.specs.declared.State.{State}
use Rattle.state.specs.State.{fresh_state, lane_at, total, within, every, sound, unsound}
use Rattle.intake.specs.After.{with_lane}
use Rattle.state.proofs.Soundness.{closed_fine, fine_at, opened_small as open-small}
use Rattle.state.specs.Clauses.{Shaped}
use Rattle.calls.proofs.Lanes.{fine_set, held_set}

pub record Sound (s : State) : Type 0 where
  pub shape : Shaped s
  pub lanes : every fine s.lanes ≡ true
  pub room : within s.lanes ≡ true
  pub marks : matching s.marks (map held s.lanes) ≡ true

pub is_sound : (s : State) → Shaped s → sound s ≡ true → Sound s
unfolding sound
is_sound s shape e =
    let p = both (every fine s.lanes && within s.lanes) (matching s.marks (map held s.lanes)) e in
    let q = both (every fine s.lanes) (within s.lanes) p.0 in
    record { shape = shape; lanes = q.0; room = q.1; marks = p.1 }

pub sound_is : (s : State) → Sound s → sound s ≡ true
unfolding sound
sound_is s k = simp (k.lanes, k.room, k.marks)

-- such a state and a pool of 16,384 octets pass the test for 24
pub not_unsound : (s : State) → Sound s → unsound s 16384 ≡ false
unfolding unsound
not_unsound s k = simp (sound_is s k)

-- ---- the fresh start
pub fresh : Sound fresh_state
unfolding fresh_state every within total need
fresh = record { shape = (refl, length-replicate {A = ℕ} 64 512); lanes = simp closed_fine; room = refl; marks = rw none_held matching_fresh }

-- ---- a lane by its number
module _ (s : State) (k : Sound s) where
  pub lane_fine : (j : ℕ) → fine (lane_at s j) ≡ true
  lane_fine = fine_at s.lanes k.lanes

  pub opened_small : (i : ℕ) → (lane_at s i).opened ≡ true → i < 8
  opened_small = open-small s.lanes k.shape.0

  module _ (i : ℕ) (small : i < 8) where
    pub changed : (l : Lane) (marks : List ℕ) → fine l ≡ true → within (set s.lanes i l) ≡ true → length marks ≡ 64
        → matching marks (set (map held s.lanes) i (held l)) ≡ true → Sound (with_lane s i l marks)
    changed l marks h room size e = record {
      shape = (length-set s.lanes i l ∙ k.shape.0, size);
      lanes = fine_set s.lanes k.lanes i l h;
      room = room;
      marks = rw (held_set s.lanes i l) e;
    }

-- what a call leaves of a state has what both the new and the old have
pub unless : (P : State → Type 0) (refusal : ℕ) {new old : State} → P old → (refusal ≡ 0 → P new) → P (unless_refused refusal new old)
unless P refusal h g = of_either P (eqb refusal 0) (λ e. g (eqb-true _ _ e)) (λ e. h)
