-- What a call does to the mark of one block. It leaves it, or moves the block between the free ones and its lane's: freeing and granting each do, so
-- every step does, and what a step grants are the lowest-numbered free blocks.
use Prim.Native.Nat.{ℕ, zero, suc, ◌+◌, ◌-◌, ◌/◌, ◌≤◌, ◌<◌}
use mathlib.Core.Path.{◌≡◌, refl, ap, ◌∙◌}
use mathlib.Core.Bool.{Bool, false, cond, ◌&&◌}
use mathlib.Core.List.{List, [], ◌∷◌}
use mathlib.Core.Logic.{◌⊎◌, inl, inr, ⊎_elim}
use native.Mathlib.Decide.{dec_lt}
use native.Mathlib.Omega.{arith}
use borrow.Author.Tests.{eqb-true, eqb-false, ltb-true, ltb-false}
use lib.Dec.{ltb}
use lib.ListN.{length, get_or, take}
use Rattle.octets.proofs.Order.{either}
use Rattle.marks.specs.Blocks.{free, mark, blocks_for, freed}
use Rattle.marks.specs.Matching.{count, is_free}
use Rattle.marks.proofs.Finding.{by_case}
use Rattle.marks.proofs.Leaving.{freed_other}
use Rattle.marks.proofs.Counts.{is_of, counts_one, counts_none, freed_is_free}
use Rattle.marks.proofs.Lowest.{lowest_given, others_keep}
use Rattle.lane.specs.declared.Lane.{Lane}
use Rattle.grouping.specs.Steps.{Outcome}
use Rattle.grouping.proofs.Planned.{of_either}
use Rattle.state.specs.declared.State.{State}
use Rattle.state.specs.State.{lane_at}
use Rattle.intake.specs.Calls.{opening_refusal, closing_refusal}
use Rattle.intake.specs.After.{released_from, grown, marks_after, user_of, opening, closing, taking}
use Rattle.demands.specs.Runs.{Handed, Call, opens, takes, closes, after, lane_of}
use Rattle.state.specs.Clauses.{mark_at}
use Rattle.demands.specs.Demand3.{Belongs}
use Rattle.calls.proofs.Sound.{Sound, unless}
use Rattle.calls.proofs.Marks.{kept, blocks_kept, grows, kept_length, just_its_blocks, none_without, released_free}
use Rattle.calls.proofs.Steps.{Stepped, stepped, group_grows}
use Rattle.calls.proofs.Steps as now
use Rattle.calls.proofs.Calls.{closed_small}

-- how many blocks below block b are free
abbrev pub free_below : List ℕ → ℕ → ℕ
free_below marks b = count is_free (take b marks)

-- ---- freeing leaves a block that isn't the lane's, so all of them where the lane has none
freed_keeps : (i : ℕ) (marks : List ℕ) (b : ℕ) → b < length marks → (get_or marks b 0 / 64 ≡ i → ⊥) → get_or (freed marks i) b 0 ≡ get_or marks b 0
freed_keeps i [] b h d = absurd (omega arith)
freed_keeps i (o ∷ os) zero h d = freed_other i o d
freed_keeps i (o ∷ os) (suc b) h d = freed_keeps i os b (omega arith) d

none_to_free : (i : ℕ) (marks : List ℕ) → count (is_of i) marks ≡ 0 → freed marks i ≡ marks
unfolding count
none_to_free i [] e = refl
none_to_free i (o ∷ os) e =
    by_case (o / 64) i
    (λ z. absurd (omega (arith, counts_one (o / 64) i z)))
    (λ d. rw (freed_other i o d) (ap (λ (r : List ℕ). o ∷ r) (none_to_free i os (omega (arith, counts_none (o / 64) i d)))))

-- ---- block b bears o, and v after a call of lane i: the same, or each of them is free or the lane's
module _ (b i : ℕ) where
  abbrev Its : ℕ → Type 0
  Its o = (b < 64) × (i < 8) × (o / 64 ≡ i)

  abbrev Moved : ℕ → ℕ → Type 0
  Moved o v = (v ≡ o) ⊎ (((o ≡ free) ⊎ Its o) × ((v ≡ free) ⊎ Its v))

  -- moved and free then, it becomes the lane's
  then_its : {o w v : ℕ} → Moved o w → w ≡ free → Its v → Moved o v
  then_its m e its = inr (⊎_elim (λ same. inl (cc)) (λ w. w.0) m, inr its)

module _ (s : State) (k : Sound s) (i b : ℕ) (block : b < 64) where
  abbrev own : Lane
  own = lane_at s i

  abbrev Moves : List ℕ → Type 0
  Moves marks = Moved b i (mark_at s b) (get_or marks b 0)

  module _ (small : i < 8) where
    released_moves : Moves (released_from s.marks i own)
    unfolding released_from
    released_moves =
        of_either Moves own.grouped
        (λ g. by_case (mark_at s b / 64) i
        (λ e. inr (inr (block, small, e), inl (freed_is_free i s.marks b (omega (arith, k.shape.1)) e)))
        (λ d. inl (freed_keeps i s.marks b (omega (arith, k.shape.1)) d)))
        (λ g. inl refl)

    module _ (on : Bool) where
      abbrev base : List ℕ
      base = kept s.marks i own on

      abbrev before : ℕ
      before = blocks_kept s.marks i own on

      inside : b < length base
      inside = omega (arith, kept_length s.marks i own on, k.shape.1)

      kept_moves : Moves base
      kept_moves = of_either Moves on (λ e. inl refl) (λ e. released_moves)

      module _ (n : ℕ) (more : before ≤ blocks_for n) (few : blocks_for n ≤ 64) where
        -- a free block with fewer free ones below it than are granted gets the place due after theirs
        grown_lowest : get_or base b 0 ≡ free → free_below base b < blocks_for n - before
            → get_or (grown s.marks i own on n) b 0 ≡ mark i before + free_below base b
        grown_lowest e h = rw (grows s.marks i own on n) (lowest_given base (mark i before) (blocks_for n - before) b (omega arith) inside e h)

        grown_keeps : (get_or base b 0 ≡ free → ⊥) ⊎ (blocks_for n - before ≤ free_below base b) → get_or (grown s.marks i own on n) b 0 ≡ get_or base b 0
        grown_keeps w = rw (grows s.marks i own on n) (others_keep base (mark i before) (blocks_for n - before) b (omega arith) inside w)

        pub grown_marked : get_or (grown s.marks i own on n) b 0 ≡ cond (is_free (get_or base b 0) && ltb (before + free_below base b) (blocks_for n)) (mark i (before + free_below base b)) (get_or base b 0)
        grown_marked =
            either (is_free (get_or base b 0))
            (λ e. simp e (either (ltb (before + free_below base b) (blocks_for n))
            (λ l. simp l (grown_lowest (eqb-true _ _ e) (omega (arith, ltb-true (before + free_below base b) (blocks_for n) l)) ∙ omega arith))
            (λ l. simp l (grown_keeps (inr (omega (arith, ltb-false (before + free_below base b) (blocks_for n) l)))))))
            (λ e. simp e (grown_keeps (inl (eqb-false _ _ e))))

        grown_moves : Moves (grown s.marks i own on n)
        grown_moves =
            by_case (get_or base b 0) free
            (λ e. elim (dec_lt (free_below base b) (blocks_for n - before)) [
              | yes h ↦ then_its b i kept_moves e (block, small, omega (arith, grown_lowest e h))
              | no h ↦ rw (grown_keeps (inr (omega arith))) kept_moves
            ])
            (λ d. rw (grown_keeps (inl d)) kept_moves)

  step_moves : (p : List ℕ) (octets room : ℕ) {d : Outcome} → Stepped s i p octets room d → Moves (marks_after s.marks i own d)
  unfolding marks_after
  step_moves p octets room (now.refuses n h) = inl refl
  step_moves p octets room (now.unread u) = inl refl
  step_moves p octets room now.repeats = inl refl
  step_moves p octets room (now.strays a f) = released_moves f.small
  step_moves p octets room (now.ends a on n f e h) = released_moves f.small
  step_moves p octets room (now.holds a on n f e) =
      let g = group_grows s k i a on n (length (user_of s i p)) f e in grown_moves f.small on n g.0 g.1

-- a call moves blocks only between the free ones and its lane's
pub call_moves : (x : Handed) → Sound x.state → (c : Call) (b : ℕ) → b < 64 → Moved b (lane_of c) (mark_at x.state b) (mark_at (after x c).state b)
unfolding after opening closing taking
call_moves x k (opens i settings) b h =
    unless (λ (t : State). Moved b i (mark_at x.state b) (mark_at t b)) (opening_refusal x.state i settings (length x.pool)) (inl refl) (λ e. inl refl)
call_moves x k (takes i p out) b h = step_moves x.state k i b h p (length x.pool) (length out) (stepped x.state k i p (length x.pool) (length out))
call_moves x k (closes i out) b h =
    unless (λ (t : State). Moved b i (mark_at x.state b) (mark_at t b)) (closing_refusal x.state i (length x.pool) (length out)) (inl refl)
    (λ e. released_moves x.state k i b h (closed_small x.state k i (length x.pool) (length out) e))

-- a lane without a group has no block: one that belonged to it would be free, since releasing it does nothing
pub none_belongs : (s : State) → Sound s → (i b : ℕ) → Belongs s b i → (lane_at s i).grouped ≡ false → mark_at s b ≡ free
unfolding released_from
none_belongs s k i b (block, small, e) shut = simp shut at (released_free s k i small b block e)

-- releasing a lane frees its blocks whether it has a group or not: without one there is none to free
pub freed_released : (s : State) → Sound s → (i : ℕ) → i < 8 → freed s.marks i ≡ released_from s.marks i (lane_at s i)
unfolding released_from
freed_released s k i small =
    either (lane_at s i).grouped (λ g. simp g)
    (λ g. simp g (none_to_free i s.marks ((just_its_blocks s k i small).0 ∙ none_without s k i small g)))
