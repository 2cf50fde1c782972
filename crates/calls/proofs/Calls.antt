-- Every call leaves a sound state sound, and every state its shape: a call that is refused leaves all as it was, and one that isn't passed the tests
-- that the new lane needs.
use Prim.Native.Nat.{ℕ, ◌<◌}
use mathlib.Core.Path.{◌≡◌, refl, ◌∙◌}
use mathlib.Core.Bool.{true, false, not}
use mathlib.Core.List.{List}
use native.Mathlib.Omega.{arith}
use borrow.Author.Tests.{ltb-false, not-false}
use lib.Dec.{ltb}
use lib.ListN.{set, length-set}
use Rattle.lane.specs.declared.Settings.{Settings}
use Rattle.octets.specs.Octets.{one}
use Rattle.lane.specs.Lane.{closed, illegal, fine}
use Rattle.lane.proofs.Fine.{Legal, is_legal, is_fine, fine_is, none_held}
use Rattle.grouping.proofs.Accepted.{passes}
use Rattle.state.specs.declared.State.{State}
use Rattle.state.specs.State.{lane_at, within, unsound}
use Rattle.state.proofs.Within.{closes as within-closed}
use Rattle.intake.specs.Calls.{opened_with, opening_refusal, closing_refusal, packet_step}
use Rattle.intake.specs.After.{released_from, opening, closing, taking}
use Rattle.state.proofs.Soundness.{closed_fine}
use Rattle.state.specs.Clauses.{Shaped}
use Rattle.calls.proofs.Sound.{Sound, lane_fine, opened_small, unless}
use Rattle.calls.proofs.Marks.{released_length, marks_length, emptied}
use Rattle.calls.proofs.Steps.{stepped, after_step}

-- ---- every state keeps its shape
module _ (s : State) (shape : Shaped s) (i : ℕ) where
  pub opening_shaped : (settings : Settings) (octets : ℕ) → Shaped (opening s i settings octets).state
  unfolding opening
  opening_shaped settings octets = unless Shaped (opening_refusal s i settings octets) shape (λ e. (length-set s.lanes i _ ∙ shape.0, shape.1))

  pub closing_shaped : (octets room : ℕ) → Shaped (closing s i octets room).state
  unfolding closing
  closing_shaped octets room =
      unless Shaped (closing_refusal s i octets room) shape (λ e. (length-set s.lanes i _ ∙ shape.0, released_length s.marks i (lane_at s i) ∙ shape.1))

  pub taking_shaped : (p : List ℕ) (octets room : ℕ) → Shaped (taking s i p octets room).state
  unfolding taking
  taking_shaped p octets room = (length-set s.lanes i _ ∙ shape.0, marks_length s.marks i (lane_at s i) (packet_step s i p octets room) ∙ shape.1)

-- ---- a sound state stays sound
opened_fine : (settings : Settings) → illegal settings ≡ false → fine (opened_with settings) ≡ true
unfolding one
opened_fine settings e =
    let legal : Legal settings = is_legal settings e in
    fine_is (opened_with settings) (record {
      legal = λ o. legal;
      within = omega (arith, none_held);
      nothing = λ o. refl;
      shut = λ o. refl;
      last = omega arith;
      tallies = record { apid = legal.apid; packets = omega arith; units = omega arith; missing = omega arith };
    })

module _ (s : State) (k : Sound s) (i : ℕ) where
  module _ (settings : Settings) (octets : ℕ) where
    pub opened_at : opening_refusal s i settings octets ≡ 0 → (i < 8) × ((lane_at s i).opened ≡ false) × (illegal settings ≡ false) × (within (set s.lanes i (opened_with settings)) ≡ true)
    unfolding opening_refusal
    opened_at e =
        let a = passes (unsound s octets) 24 _ (λ t. omega arith) e in
        let b = passes (ltb 7 i) 11 _ (λ t. omega arith) a.1 in
        let c = passes (lane_at s i).opened 21 _ (λ t. omega arith) b.1 in
        let d = passes (illegal settings) 22 _ (λ t. omega arith) c.1 in
        let f = passes (not (within (set s.lanes i (opened_with settings)))) 23 0 (λ t. omega arith) d.1 in
        (omega (arith, ltb-false 7 i b.0), c.0, d.0, not-false _ f.0)

    pub opening_sound : Sound (opening s i settings octets).state
    unfolding opening released_from
    opening_sound =
        unless Sound (opening_refusal s i settings octets) k (λ e.
        let o = opened_at e in
        let shut : (lane_at s i).grouped ≡ false = (is_fine (lane_at s i) (lane_fine s k i)).shut o.1 in
        simp shut at (emptied s k i o.0 (opened_with settings) (opened_fine settings o.2) o.3 refl))

  pub closed_at : (octets room : ℕ) → closing_refusal s i octets room ≡ 0 → (lane_at s i).opened ≡ true
  unfolding closing_refusal
  closed_at octets room e =
      let a = passes (unsound s octets) 24 _ (λ t. omega arith) e in
      let b = passes (not (lane_at s i).opened) 11 _ (λ t. omega arith) a.1 in
      not-false _ b.0

  pub closed_small : (octets room : ℕ) → closing_refusal s i octets room ≡ 0 → i < 8
  closed_small octets room e = opened_small s k i (closed_at octets room e)

  pub closing_sound : (octets room : ℕ) → Sound (closing s i octets room).state
  unfolding closing
  closing_sound octets room =
      unless Sound (closing_refusal s i octets room) k (λ e.
      let h : i < 8 = closed_small octets room e in
      emptied s k i h closed closed_fine (within-closed s.lanes i k.room) refl)

  pub taking_sound : (p : List ℕ) (octets room : ℕ) → Sound (taking s i p octets room).state
  unfolding taking
  taking_sound p octets room = after_step s k i p octets room (stepped s k i p octets room)
