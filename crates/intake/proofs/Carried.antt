-- What a step leaves, as the code meets it.
use Prim.Native.Nat.{ℕ, ◌+◌, ◌≤◌}
use mathlib.Core.Path.{◌≡◌, refl, sym, ◌∙◌}
use mathlib.Core.Bool.{Bool, true, false, cond}
use mathlib.Core.List.{List, ◌++◌}
use native.Mathlib.Omega.{arith}
use lib.ListN.{length, length-append}
use Rattle.std.specs.Prelude.{Ok}
use Rattle.octets.specs.Output.{put, put_if_fits}
use Rattle.octets.proofs.Puts.{nothing, then_put}
use Rattle.pool.specs.Octets.{pool_octets, stored_if_fits, gathered_if_fits}
use Rattle.pool.proofs.Guards.{is_stored, is_gathered}
use Rattle.pool.proofs.InBlocks.{gathered_at_most}
use Rattle.lane.specs.declared.Lane.{Lane}
use Rattle.grouping.specs.declared.Added.{Added}
use Rattle.grouping.specs.declared.Step.TheVariants as step
use Rattle.intake.specs.After.{grown, group_of, pool_after, out_after}
use Rattle.intake.specs.Ready.{Holds, Ends}

module _ (marks : List ℕ) (i : ℕ) (l : Lane) (on : Bool) (pool out : List ℕ) where
  -- the group that goes on is gathered
  pub group_gathered : on ≡ true → cond on l.octets 0 ≤ length out → l.octets ≤ pool_octets → gathered_if_fits marks i pool l.octets (length out) ≡ group_of marks i l on pool
  unfolding group_of
  group_gathered e h k = simp e (sym (is_gathered marks i pool l.octets out (simp e at h) k))

  -- and of none there is nothing to put
  pub no_group : on ≡ false → (0 ≡ length (group_of marks i l on pool)) × (out ≡ put out 0 (group_of marks i l on pool))
  unfolding group_of
  no_group e = simp e (refl, (nothing out 0).1)

-- it has no more octets than the lane says
group_most : (marks : List ℕ) (i : ℕ) (l : Lane) (on : Bool) (pool : List ℕ) → length (group_of marks i l on pool) ≤ cond on l.octets 0
unfolding group_of
group_most marks i l true pool = gathered_at_most marks i pool 0 l.octets
group_most marks i l false pool = omega arith

-- ---- what is stored and put, from what the functions below worked out
module _ (marks : List ℕ) (i : ℕ) (l : Lane) (a : Added) (on : Bool) (n : ℕ) where
  pub held_pool : (u pool : List ℕ) → Holds i l a on n (length u) (length pool) → (m : List ℕ) → m ≡ grown marks i l on n → (b : ℕ) → b ≡ cond on l.octets 0
      → (after : List ℕ) → after ≡ stored_if_fits m i pool b u → after ≡ pool_after marks i l (Ok (step.Hold a on n)) u pool
  unfolding pool_after
  held_pool u pool (c, size, most, few, p) m em b eb after e = e ∙ sym (is_stored m i pool b u p (omega (arith, size, most, eb))) ∙ rw (em, eb)

  pub unit_out : (u pool out : List ℕ) → Ends i l a on n (length u) (length out) → (at : ℕ) → at ≡ length (group_of marks i l on pool)
      → (mid : List ℕ) → mid ≡ put out 0 (group_of marks i l on pool) → (after : List ℕ) → after ≡ put_if_fits mid at u
      → after ≡ out_after marks i l (Ok (step.Unit a on n)) u pool out
  unfolding out_after
  unit_out u pool out (c, size, room, few) at ea mid em after e =
      let g = group_of marks i l on pool in
      let most : length g ≤ cond on l.octets 0 = group_most marks i l on pool in
      let fits : 0 + length (g ++ u) ≤ length out = omega (arith, length-append g u, most, size, room) in
      (then_put out 0 g u fits {out = mid} {out' = after} {to = at} {to' = at + length u} refl (omega (arith, ea), em) e).1
