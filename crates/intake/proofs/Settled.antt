-- The ways in which a plan is settled, as the code meets them.
use Prim.Native.Nat.{ℕ}
use mathlib.Core.Path.{◌≡◌, sym, ◌∙◌}
use mathlib.Core.Bool.{Bool, true, false}
use mathlib.Core.List.{List}
use lib.ListN.{get_or, set}
use Rattle.lane.specs.declared.Lane.{Lane}
use Rattle.grouping.specs.declared.Step.{Step}
use Rattle.std.specs.Prelude.{Ok, Err}
use Rattle.refusal.specs.declared.Refusal.{Refusal}
use Rattle.grouping.specs.declared.Refused.TheVariants.{Untaken}
use Rattle.grouping.specs.declared.Plan.{Plan}
use Rattle.grouping.specs.declared.Plan.TheVariants.{Sure, Ask}
use Rattle.lane.specs.Lane.{closed, holding}
use Rattle.state.specs.State.{within}
use Rattle.intake.specs.Calls.{settle}

module _ (ls : List Lane) (i : ℕ) (p : Plan) (d : Step) where
  pub sure : p ≡ Sure d → Ok d ≡ settle ls i (Ok p)
  unfolding settle
  sure e = rw e

  module _ (l : Lane) (el : l ≡ get_or ls i closed) (n : ℕ) (k : Refusal) (e : p ≡ Ask n k d) (then : Lane) (et : then ≡ holding l n) (room : Bool) (er : room ≡ within (set ls i then)) where
    enough : room ≡ within (set ls i (holding (get_or ls i closed) n))
    enough = er ∙ rw (et, el)

    pub taken : room ≡ true → Ok d ≡ settle ls i (Ok p)
    unfolding settle
    taken h = rw e (simp (sym enough ∙ h))

    pub refused : room ≡ false → Err (Untaken k) ≡ settle ls i (Ok p)
    unfolding settle
    refused h = rw e (simp (sym enough ∙ h))
