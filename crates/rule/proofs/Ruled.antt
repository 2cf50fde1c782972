-- A packet that comes to a lane that has accepted some packets: what is planned from the lane alone is the grouping rule's word on those packets. The lane's
-- `missing`, `breaks` and `goes_on` are the rule's, and one law says what a counted packet makes of the lane.
use Prim.Native.Nat.{ℕ, ◌+◌, ◌≤◌, ◌<◌}
use mathlib.Core.Path.{◌≡◌, refl, sym, ap, ◌∙◌}
use mathlib.Core.Bool.{Bool, true, false, cond, not, ◌&&◌, true≢false}
use mathlib.Core.List.{List, [], ◌∷◌, ◌++◌}
use mathlib.Core.Option.{Option, none, some}
use native.Mathlib.Numerals.{add-one}
use native.Mathlib.Omega.{arith}
use borrow.Author.Tests.{eqb-true, eqb-false, not-true, not-false}
use lib.Dec.{eqb, ltb, leb, eqb-suc-zero}
use lib.ListN.{length, get_or, set, length-append}
use Rattle.octets.specs.Octets.{one}
use Rattle.octets.proofs.Order.{either}
use Rattle.packet.specs.Space.{counts, flags, count}
use Rattle.reading.specs.Reading.{refusal}
use Rattle.record.specs.Record.{most_packets}
use Rattle.marks.specs.Blocks.{blocks_for}
use Rattle.lane.specs.declared.Settings.{Settings}
use Rattle.lane.specs.declared.Lane.{Lane}
use Rattle.grouping.specs.declared.Added.{Added}
use Rattle.grouping.specs.Steps.{Outcome}
use Rattle.std.specs.Prelude.{Result, Ok, Err}
use Rattle.refusal.specs.Refusal.{number, named}
use Rattle.refusal.specs.declared.Refusal.{Refusal}
use Rattle.refusal.proofs.Numbers.{of_its_name}
use Rattle.grouping.specs.declared.Refused.{Refused}
use Rattle.grouping.specs.declared.Refused.TheVariants.{Unread, Untaken}
use Rattle.grouping.specs.declared.Step.TheVariants.{Repeat, Stray, Hold, Unit}
use Rattle.grouping.specs.Plans as plans
use Rattle.grouping.specs.declared.Plan.{Plan}
use Rattle.grouping.specs.declared.Plan.TheVariants.{Sure}
use Rattle.lane.specs.Lane.{holding, closed, credit_of}
use Rattle.grouping.specs.Packets.{terms_of, fault, user_data}
use Rattle.grouping.specs.Grouping.{missing_before, goes_on, added_from}
use Rattle.grouping.specs.Grouping as lane
use Rattle.grouping.specs.Plans.{hold_plan, unit_plan, grouping_plan, accepted_plan, packet_plan}
use Rattle.grouping.specs.Steps.{counted, lane_after}
use Rattle.grouping.proofs.Accepted.{accepted_data, fault_least, fault_most}
use Rattle.grouping.proofs.Planned.{of_either}
use Rattle.state.specs.State.{within}
use Rattle.intake.specs.Calls.{settle}
use Rattle.intake.specs.After.{answer_of}
use Rattle.rule.specs.Rule.{Taken, taken_of, present, octets_in, joined, repeats, missing, breaks, group, unit, gives_up, with_unit}
use Rattle.rule.specs.Rule.{answer_with, answer_to, endings, units, missing_in_all, broken, last_count, credit, lane_with}
use Rattle.rule.proofs.Slots.{Slot, slot_after, out_from}

-- the lane that has accepted the packets, with its group
abbrev pub slot_with : Settings → List Taken → Slot
slot_with s ps = record { lane = lane_with s ps; group = octets_in (group ps) }

-- what it is credited with at a closing
pub credited : (s : Settings) (ps : List Taken) → credit_of (lane_with s ps) ≡ credit s ps
credited s ps = refl

-- the step of a packet p that comes to it: it refuses; or it is a Repeat, by the rule; or the lane, the answer and the output are the rule's
pub data Follows (s : Settings) (ps : List Taken) (p out : List ℕ) : Outcome → Type 0 where
  refuses : (r : Refusal) → 8 ≤ number r → Follows s ps p out (Err (Untaken r))
  unread : (refusal p ≡ 0 → ⊥) → Follows s ps p out (Err (Unread (plans.unread p)))
  repeats_it : repeats ps (taken_of s p) ≡ true → Follows s ps p out (Ok Repeat)
  accepts : (d : Outcome) → repeats ps (taken_of s p) ≡ false
      → slot_after (slot_with s ps) p d ≡ slot_with s (taken_of s p ∷ ps)
      → answer_of d ≡ Ok (answer_to ps (taken_of s p))
      → out_from (octets_in (group ps)) (user_data s p) d out ≡ with_unit out (unit ps (taken_of s p))
      → Follows s ps p out d

-- ---- the group g that is left, if b doesn't break it, and user data u
ended : (g : Option (List ℕ)) (b : Bool) (u : List ℕ) → present g && not b ≡ false → joined (cond b none g) u ≡ none
ended none true u e = refl
ended none false u e = refl
ended (some octets) true u e = refl
ended (some octets) false u e = absurd (true≢false e)

goes_on_lem : (g : Option (List ℕ)) (b : Bool) (u : List ℕ) → present g && not b ≡ true → joined (cond b none g) u ≡ some (octets_in g ++ u)
goes_on_lem none b u e = absurd (true≢false (sym e))
goes_on_lem (some octets) true u e = absurd (true≢false (sym e))
goes_on_lem (some octets) false u e = refl

none_either : (b : Bool) → cond {A = Option (List ℕ)} b none none ≡ none
none_either true = refl
none_either false = refl

-- ---- one more accepted packet q
module _ (ps : List Taken) (q : Taken) where
  -- what it adds to the tallies
  abbrev added : Added
  added = record { missing = missing ps q; given_up = gives_up ps q; count = q.count }

  pub units_more : units (q ∷ ps) ≡ units ps + one (present (unit ps q))
  unfolding endings one
  units_more = either (present (unit ps q)) (λ e. simp e (omega arith)) (λ e. simp e (omega arith))

  -- the lane after it, if it makes the unit u and leaves the group g
  abbrev counting : Settings → Option (List ℕ) → Option (List ℕ) → Slot
  counting s u g = record { lane = counted (lane_with s ps) added (one (present u)) (present g) (length (octets_in g)); group = octets_in g }

  grown : (s : Settings) (u g : Option (List ℕ)) → u ≡ unit ps q → g ≡ group (q ∷ ps) → counting s u g ≡ slot_with s (q ∷ ps)
  unfolding missing_in_all broken last_count
  grown s u g e f = rw (e, f, units_more, add-one)

-- the lane finds a Repeat where the rule does
pub repeats_same : (s : Settings) (ps : List Taken) (p : List ℕ) → lane.repeats (lane_with s ps) (count p) ≡ repeats ps (taken_of s p)
unfolding lane.repeats repeats last_count
repeats_same s [] p = refl
repeats_same s (last ∷ before) p = rw (eqb-suc-zero (length before))

-- ---- a packet p that comes to the lane
module _ (s : Settings) (ps : List Taken) (small : last_count ps < counts) (p out : List ℕ) where
  abbrev l : Lane
  l = lane_with s ps

  abbrev q : Taken
  q = taken_of s p

  -- a step, and a plan, however it is settled
  abbrev Does : Outcome → Type 0
  Does = Follows s ps p out

  abbrev Plans : Result Plan Refused → Type 0
  Plans d = (ls : List Lane) (at : ℕ) → Does (settle ls at d)

  -- the tests on the lane are the rule's
  missing_same : missing_before l (count p) ≡ missing ps q
  unfolding missing_before missing last_count
  missing_same = of_list ps small
    where
      of_list : (ps : List Taken) → last_count ps < counts → missing_before (lane_with s ps) (count p) ≡ missing ps q
      of_list [] h = refl
      of_list (last ∷ before) h = rw (eqb-suc-zero (length before)) (omega arith)

  breaks_same : lane.breaks (missing_before l (count p)) (flags p) ≡ breaks ps q
  unfolding lane.breaks breaks
  breaks_same = rw missing_same

  added_same : added_from l (flags p) (count p) ≡ added ps q
  unfolding lane.gives_up gives_up
  added_same = rw (breaks_same, missing_same)

  module _ (new : repeats ps q ≡ false) where
    -- the lane then, and the rule's word on the packet, where it makes the unit u and leaves the group g
    word : (d : Outcome) (u g : Option (List ℕ)) → u ≡ unit ps q → g ≡ group (q ∷ ps) → slot_after (slot_with s ps) p d ≡ counting ps q s u g
        → answer_of d ≡ Ok (answer_with u g (missing ps q) (gives_up ps q)) → out_from (octets_in (group ps)) q.user d out ≡ with_unit out u → Does d
    unfolding answer_to
    word d u g e f slot answer output = accepts d new (slot ∙ grown ps q s u g e f) (answer ∙ rw (e, f)) (output ∙ ap (with_unit out) e)

    strays : none ≡ unit ps q → none ≡ group (q ∷ ps) → Plans (Ok (Sure (Stray (added ps q))))
    unfolding settle lane_after one
    strays e f ls at = word (Ok (Stray (added ps q))) none none e f refl refl refl

    -- the group, if it goes on, and the user data
    abbrev whole : Bool → List ℕ
    whole on = cond on (octets_in (group ps)) [] ++ q.user

    module _ (on : Bool) where
      abbrev n : ℕ
      n = length (whole on)

      holds : none ≡ unit ps q → some (whole on) ≡ group (q ∷ ps) → Plans (hold_plan s (added ps q) on n)
      unfolding hold_plan settle lane_after one
      holds e f =
          of_either Plans (ltb s.cap (blocks_for n)) (λ t ls at. refuses (named 19) (omega arith))
          (λ t ls at. of_either Does (within (set ls at (holding (get_or ls at closed) n)))
          (λ r. word (Ok (Hold (added ps q) on n)) none (some (whole on)) e f refl refl refl) (λ r. refuses (named 27) (omega arith)))

      ends : some (whole on) ≡ unit ps q → none ≡ group (q ∷ ps) → Plans (unit_plan (length out) (added ps q) on n)
      unfolding unit_plan settle lane_after one
      ends e f = of_either Plans (ltb (length out) n) (λ t ls at. refuses (named 20) (omega arith)) (λ t ls at. word (Ok (Unit (added ps q) on n)) (some (whole on)) none e f refl refl refl)

    -- by the flags, and whether the open group goes on
    abbrev goes : Bool
    goes = goes_on l (flags p) (count p)

    goes_same : goes ≡ present (group ps) && not (breaks ps q)
    unfolding goes_on
    goes_same = rw breaks_same

    abbrev left : Option (List ℕ)
    left = joined (cond (breaks ps q) none (group ps)) q.user

    grouping : Plans (grouping_plan l (flags p) (count p) (length q.user) (length out))
    unfolding grouping_plan unit group
    grouping =
        rw added_same
        (of_either Plans (eqb (flags p) 3) (λ f. let e = eqb-true (flags p) 3 f in ends false (simp e) (simp e))
        (λ no3. of_either Plans (eqb (flags p) 1) (λ f. let e = eqb-true (flags p) 1 f in holds false (simp e) (simp e))
        (λ no1. of_either Plans (not goes)
        (λ g.
        let e : left ≡ none = ended (group ps) (breaks ps q) q.user (sym goes_same ∙ not-true goes g) in
        strays (simp (no3, e, none_either)) (simp (no1, e, none_either)))
        (λ g.
        let e : left ≡ some (whole true) = goes_on_lem (group ps) (breaks ps q) q.user (sym goes_same ∙ not-false goes g) in
        rw (← length-append (octets_in (group ps)) q.user)
        (of_either Plans (eqb (flags p) 0) (λ f. let z = eqb-true (flags p) 0 f in holds true (simp z) (rw e (simp z)))
        (λ no0.
        let z : flags p ≡ 2 = omega (arith, eqb-false (flags p) 3 no3, eqb-false (flags p) 1 no1, eqb-false (flags p) 0 no0) in
        ends true (rw e (simp z)) (simp z)))))))

  repeated : repeats ps q ≡ true → Plans (Ok (Sure Repeat))
  unfolding settle lane_after
  repeated e ls at = repeats_it e

  pub planned : Plans (packet_plan l p (length out))
  unfolding packet_plan accepted_plan settle
  planned =
      of_either Plans (not (eqb (refusal p) 0)) (λ r ls at. unread (eqb-false _ _ (not-true _ r)))
      (λ r. of_either Plans (not (eqb (fault (terms_of l) p) 0))
      (λ e ls at.
      let least = fault_least (terms_of l) p (eqb-true _ _ (not-false _ r)) (eqb-false _ _ (not-true _ e)) in
      refuses (named (fault (terms_of l) p)) (omega (arith, of_its_name (fault (terms_of l) p) (omega (arith, least)) (omega (arith, fault_most (terms_of l) p)), least)))
      (λ e. of_either Plans (lane.repeats l (count p)) (λ f. repeated (sym (repeats_same s ps p) ∙ f))
      (λ f. of_either Plans (leb most_packets (length ps)) (λ g ls at. refuses (named 18) (omega arith))
      (λ g. rw (← (accepted_data (terms_of l) p (eqb-true _ _ (not-false _ e))).1) (grouping (sym (repeats_same s ps p) ∙ f))))))
