-- Every block is free or at a place that a lane holds, as the marks and the places are one to one.
use Prim.Native.Nat.{ℕ, ◌<◌}
use mathlib.Core.Path.{◌≡◌, ◌∙◌}
use mathlib.Core.List.{map}
use mathlib.Core.Logic.{◌⊎◌, inl, inr}
use lib.ListN.{get_or, length-map}
use Rattle.marks.specs.Blocks.{free}
use Rattle.marks.proofs.Finding.{by_case}
use Rattle.marks.proofs.Once.{one_to_one}
use Rattle.lane.specs.Lane.{held}
use Rattle.state.specs.declared.State.{State}
use Rattle.state.proofs.Clauses.{held_at}
use Rattle.calls.specs.Groups.{HeldPlace}
use Rattle.calls.proofs.Sound.{Sound}

module _ (s : State) (k : Sound s) (b : ℕ) (small : b < 64) where
  abbrev own : ℕ
  own = get_or s.marks b 0

  pub free_or_held : (own ≡ free) ⊎ HeldPlace s own
  free_or_held =
      by_case own free inl
      (λ d.
      let p = (one_to_one s.marks (map held s.lanes) k.shape.1 (length-map s.lanes held ∙ k.shape.0) k.marks).taken b small d in
      inr (record { lane = p.0; place = p.1; small = p.2.lane; holds = rw (held_at s.lanes p.0) at p.2.place; bears = p.2.marked }))
