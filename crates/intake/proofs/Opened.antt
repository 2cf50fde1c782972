-- The ways out of an opening, in the order of its refusals.
use Prim.Native.Nat.{ℕ, ◌≤◌, ◌<◌}
use mathlib.Core.Path.{◌≡◌, sym, ◌∙◌}
use mathlib.Core.Bool.{Bool, true, false, not}
use mathlib.Core.List.{List}
use borrow.Author.Tests.{lt-ltb, le-ltb}
use lib.ListN.{set}
use Rattle.lane.specs.declared.Settings.{Settings}
use Rattle.lane.specs.declared.Lane.{Lane}
use Rattle.lane.specs.Lane.{illegal}
use Rattle.state.specs.declared.State.{State}
use Rattle.std.specs.Prelude.{Ok, Err}
use Rattle.refusal.specs.Refusal.{named}
use Rattle.state.specs.State.{lane_at, within, unsound}
use Rattle.intake.specs.Calls.{opened_with, opening_refusal}
use Rattle.intake.specs.After.{changed_by, opening}

module _ (s : State) (i : ℕ) (st : Settings) (n : ℕ) (u : Bool) (eu : u ≡ unsound s n) where
  pub not_sound : u ≡ true → changed_by s (Err (named 24)) ≡ opening s i st n
  unfolding opening opening_refusal
  not_sound h = simp (sym eu ∙ h)

  module _ (h24 : u ≡ false) where
    pub no_lane : 7 < i → changed_by s (Err (named 11)) ≡ opening s i st n
    unfolding opening opening_refusal
    no_lane h = simp (sym eu ∙ h24, lt-ltb 7 i h)

    module _ (h11 : i ≤ 7) (l : Lane) (el : l ≡ lane_at s i) where
      pub is_open : l.opened ≡ true → changed_by s (Err (named 21)) ≡ opening s i st n
      unfolding opening opening_refusal
      is_open h = simp (sym eu ∙ h24, le-ltb 7 i h11, ← el, h)

      module _ (h21 : l.opened ≡ false) (b : Bool) (eb : b ≡ illegal st) where
        pub is_illegal : b ≡ true → changed_by s (Err (named 22)) ≡ opening s i st n
        unfolding opening opening_refusal
        is_illegal h = simp (sym eu ∙ h24, le-ltb 7 i h11, ← el, h21, ← eb, h)

        module _ (h22 : b ≡ false) (k : Lane) (ek : k ≡ opened_with st) (w : Bool) (ew : w ≡ within (set s.lanes i k)) where
          fits : w ≡ within (set s.lanes i (opened_with st))
          fits = ew ∙ rw ek

          pub no_promise : not w ≡ true → changed_by s (Err (named 23)) ≡ opening s i st n
          unfolding opening opening_refusal
          no_promise h = simp (sym eu ∙ h24, le-ltb 7 i h11, ← el, h21, ← eb, h22, ← fits, h)

          pub opens : not w ≡ false → (ls : List Lane) → ls ≡ set s.lanes i k → changed_by s (Ok (record { lanes = ls; marks = s.marks })) ≡ opening s i st n
          unfolding opening opening_refusal
          opens h ls els = simp (sym eu ∙ h24, le-ltb 7 i h11, ← el, h21, ← eb, h22, ← fits, h) (rw (els, ek))
