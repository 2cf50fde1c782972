-- The step is one of four, and each leaves what its own function promises; the other parts stay.
use Prim.Native.Nat.{ℕ}
use mathlib.Core.Path.{◌≡◌, refl}
use mathlib.Core.Bool.{Bool}
use mathlib.Core.List.{List}
use lib.Seq.{set-get_or}
use Rattle.lane.specs.declared.Lane.{Lane}
use Rattle.grouping.specs.declared.Added.{Added}
use Rattle.grouping.specs.declared.Step.{Step}
use Rattle.grouping.specs.declared.Step.TheVariants as step
use Rattle.std.specs.Prelude.{Ok}
use Rattle.lane.specs.Lane.{closed}
use Rattle.grouping.specs.Steps.{Outcome, lane_after}
use Rattle.state.specs.declared.State.{State}
use Rattle.state.specs.State.{lane_at}
use Rattle.intake.specs.After.{with_lane, marks_after, pool_after, out_after}

-- a lane put back into its place changes nothing
pub same_state : (s : State) (i : ℕ) → s ≡ with_lane s i (lane_at s i) s.marks
same_state s i = rw (set-get_or s.lanes i closed)

-- the lane k, the marks m, the pool p and the output o after what comes of a packet
abbrev pub Leaves : List ℕ → ℕ → Lane → Outcome → List ℕ → List ℕ → List ℕ → Lane → List ℕ → List ℕ → List ℕ → Type 0
Leaves marks i l d u pool out k m p o =
    (k ≡ lane_after l d) × (m ≡ marks_after marks i l d) × (p ≡ pool_after marks i l d u pool) × (o ≡ out_after marks i l d u pool out)

module _ (marks : List ℕ) (i : ℕ) (l : Lane) (d : Step) (u pool out : List ℕ) where
  pub repeats : d ≡ step.Repeat → Leaves marks i l (Ok d) u pool out l marks pool out
  unfolding lane_after marks_after pool_after out_after
  repeats e = rw e (refl, refl, refl, refl)

  module _ (k : Lane) (m : List ℕ) where
    pub strays : (a : Added) → d ≡ step.Stray a → k ≡ lane_after l (Ok (step.Stray a)) → m ≡ marks_after marks i l (Ok (step.Stray a)) → Leaves marks i l (Ok d) u pool out k m pool out
    unfolding pool_after out_after
    strays a e ek em = rw e (ek, em, refl, refl)

    module _ (a : Added) (on : Bool) (n : ℕ) where
      pub holds : d ≡ step.Hold a on n → k ≡ lane_after l (Ok (step.Hold a on n)) → m ≡ marks_after marks i l (Ok (step.Hold a on n))
          → (p : List ℕ) → p ≡ pool_after marks i l (Ok (step.Hold a on n)) u pool → Leaves marks i l (Ok d) u pool out k m p out
      unfolding out_after
      holds e ek em p ep = rw e (ek, em, ep, refl)

      pub ends : d ≡ step.Unit a on n → k ≡ lane_after l (Ok (step.Unit a on n)) → m ≡ marks_after marks i l (Ok (step.Unit a on n))
          → (o : List ℕ) → o ≡ out_after marks i l (Ok (step.Unit a on n)) u pool out → Leaves marks i l (Ok d) u pool out k m pool o
      unfolding pool_after
      ends e ek em o eo = rw e (ek, em, refl, eo)
