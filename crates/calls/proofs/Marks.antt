-- The marks after a lane's group is given up and after it grows. A group grows from what it keeps: the blocks that the lane holds, or none where
-- they were freed first; so both ways are one.
use Prim.Native.Nat.{ℕ, zero, suc, ◌+◌, ◌-◌, ◌/◌, ◌≤◌, ◌<◌}
use mathlib.Core.Path.{◌≡◌, refl, ap, ◌∙◌}
use mathlib.Core.Bool.{Bool, true, false, cond}
use mathlib.Core.List.{List, [], ◌∷◌, map}
use native.Mathlib.Nat.{sub-zero}
use native.Mathlib.Omega.{arith}
use borrow.Author.Tests.{eq-eqb}
use lib.ListN.{length, get_or, set, length-set, length-map}
use lib.Seq.{get_or-set_same, set-get_or, set-set}
use Rattle.octets.proofs.Order.{either}
use Rattle.marks.specs.Blocks.{free, mark, blocks_for, find, granted}
use Rattle.octets.specs.Octets.{one}
use Rattle.marks.specs.Matching.{count, sum, matching}
use Rattle.marks.proofs.Leaving.{freed_length, granted_length}
use Rattle.marks.proofs.Counts.{is_of, freed_is_free}
use Rattle.marks.proofs.Matched.{Matched, matched, sum_set, matching_freed, matching_granted}
use Rattle.lane.specs.declared.Lane.{Lane}
use Rattle.std.specs.Prelude.{Ok, Err}
use Rattle.grouping.specs.Steps.{Outcome}
use Rattle.grouping.specs.declared.Refused.TheVariants as refused
use Rattle.grouping.specs.declared.Step.TheVariants as step
use Rattle.lane.specs.Lane.{held, fine}
use Rattle.lane.proofs.Fine.{is_fine, none_held}
use Rattle.state.specs.declared.State.{State}
use Rattle.state.specs.State.{lane_at, within}
use Rattle.state.proofs.Clauses.{held_at}
use Rattle.intake.specs.After.{with_lane, released_from, grown, marks_after}
use Rattle.calls.proofs.Sound.{Sound, lane_fine, changed}

-- ---- the table keeps its length
module _ (marks : List ℕ) (i : ℕ) (l : Lane) where
  pub released_length : length (released_from marks i l) ≡ length marks
  unfolding released_from
  released_length = either l.grouped (λ e. simp e (freed_length marks i)) (λ e. simp e)

  -- what a group that goes on keeps, and what one that begins does
  abbrev pub kept : Bool → List ℕ
  kept on = cond on marks (released_from marks i l)

  abbrev pub blocks_kept : Bool → ℕ
  blocks_kept on = cond on (held l) 0

  pub grows : (on : Bool) (n : ℕ) → grown marks i l on n ≡ granted (kept on) (mark i (blocks_kept on)) (blocks_for n - blocks_kept on)
  unfolding grown
  grows true n = refl
  grows false n = rw (sub-zero (blocks_for n))

  pub kept_length : (on : Bool) → length (kept on) ≡ length marks
  kept_length true = refl
  kept_length false = released_length

  pub grown_length : (on : Bool) (n : ℕ) → length (grown marks i l on n) ≡ length marks
  grown_length on n = rw (grows on n) (granted_length (kept on) (mark i (blocks_kept on)) (blocks_for n - blocks_kept on) ∙ kept_length on)

  pub marks_length : (d : Outcome) → length (marks_after marks i l d) ≡ length marks
  unfolding marks_after
  marks_length (Err (refused.Unread u)) = refl
  marks_length (Err (refused.Untaken r)) = refl
  marks_length (Ok step.Repeat) = refl
  marks_length (Ok (step.Stray a)) = released_length
  marks_length (Ok (step.Hold a on n)) = grown_length on n
  marks_length (Ok (step.Unit a on n)) = released_length

-- a block that passes a test is counted
counted : (p : ℕ → Bool) (marks : List ℕ) (b : ℕ) → b < length marks → p (get_or marks b 0) ≡ true → 0 < count p marks
unfolding count one
counted p [] b h e = absurd (omega arith)
counted p (o ∷ os) zero h e = simp e (omega arith)
counted p (o ∷ os) (suc b) h e = omega (arith, counted p os b (omega arith) e)

-- ---- the marks match
module _ (s : State) (k : Sound s) (i : ℕ) (small : i < 8) where
  abbrev holding : List ℕ
  holding = map held s.lanes

  abbrev own : Lane
  own = lane_at s i

  eight : length holding ≡ 8
  eight = length-map s.lanes held ∙ k.shape.0

  -- it has a block for each place that it holds, and no other
  pub just_its_blocks : (count (is_of i) s.marks ≡ held own) × ((q : ℕ) → q < held own → find s.marks (mark i q) < 64)
  just_its_blocks =
      let m : Matched s.marks holding = matched s.marks holding k.shape.1 eight k.marks in
      (m.own i small ∙ held_at s.lanes i, λ q h. m.places i q small (rw (held_at s.lanes i) h))

  -- without a group it holds nothing
  pub none_without : own.grouped ≡ false → held own ≡ 0
  none_without e = ap blocks_for ((is_fine own (lane_fine s k i)).nothing e) ∙ none_held

  -- the lane holds what it did
  same_holding : set holding i (held own) ≡ holding
  same_holding = rw (← held_at s.lanes i) (set-get_or holding i 0)

  pub released_matching : matching (released_from s.marks i own) (set holding i 0) ≡ true
  unfolding released_from
  released_matching =
      either own.grouped
      (λ e. simp e (matching_freed s.marks holding k.shape.1 eight k.marks i small))
      (λ e. simp e (rw (← none_without e, same_holding) k.marks))

  -- each of its blocks is free then
  pub released_free : (b : ℕ) → b < 64 → get_or s.marks b 0 / 64 ≡ i → get_or (released_from s.marks i own) b 0 ≡ free
  unfolding released_from
  released_free b h e =
      either own.grouped
      (λ g. simp g (freed_is_free i s.marks b (omega (arith, k.shape.1)) e))
      (λ g. absurd (omega (
        arith,
        counted (is_of i) s.marks b (omega (arith, k.shape.1)) (eq-eqb _ _ e),
        just_its_blocks.0,
        none_without g,
      )))

  -- a state in which the lane holds nothing
  pub emptied : (l : Lane) → fine l ≡ true → within (set s.lanes i l) ≡ true → l.octets ≡ 0 → Sound (with_lane s i l (released_from s.marks i own))
  emptied l good room none =
      changed s k i small l (released_from s.marks i own) good room (released_length s.marks i own ∙ k.shape.1) (rw (none, none_held) released_matching)

  kept_matching : (on : Bool) → matching (kept s.marks i own on) (set holding i (blocks_kept s.marks i own on)) ≡ true
  kept_matching true = rw same_holding k.marks
  kept_matching false = released_matching

  module _ (on : Bool) (n : ℕ) (more : blocks_kept s.marks i own on ≤ blocks_for n) (few : blocks_for n ≤ 64) where
    abbrev before : ℕ
    before = blocks_kept s.marks i own on

    pub grown_matching : sum (set holding i (blocks_for n)) ≤ 64 → matching (grown s.marks i own on n) (set holding i (blocks_for n)) ≡ true
    grown_matching room =
        let base : List ℕ = kept s.marks i own on in
        let then : List ℕ = set holding i before in
        let here : get_or then i 0 ≡ before = get_or-set_same holding i before 0 (omega (arith, eight)) in
        let sums : sum then + (blocks_for n - before) ≤ 64 = omega (arith, sum_set holding i before (omega (arith, eight)), sum_set holding i (blocks_for n) (omega (arith, eight))) in
        let all : before + (blocks_for n - before) ≡ blocks_for n = omega arith in
        rw (grows s.marks i own on n)
        (rw (here, all, set-set holding i before (blocks_for n)) at
        (matching_granted base then (kept_length s.marks i own on ∙ k.shape.1) (length-set holding i before ∙ eight) (kept_matching on) i small
        (blocks_for n - before) (rw here (omega arith)) sums))
