-- A packet's step is ready to be carried out: it refuses, or the test for 24 has passed and its plan says so. And what is carried out is what
-- the call promises, since only an accepted packet's user data is used.
use Prim.Native.Nat.{ℕ, ◌+◌, ◌≤◌, ◌<◌}
use Prim.{tt}
use mathlib.Core.Path.{◌≡◌, refl, sym, ap, ◌∙◌}
use mathlib.Core.Bool.{Bool, true, false}
use mathlib.Core.List.{List}
use native.Mathlib.Omega.{arith}
use lib.ListN.{length, set, drop, get_or-eq_default}
use lib.Seq.{set_out}
use Rattle.octets.proofs.Order.{either}
use Rattle.lane.specs.declared.Lane.{Lane}
use Rattle.lane.proofs.Fine.{held_most}
use Rattle.std.specs.Prelude.{Result, Ok, Err}
use Rattle.refusal.specs.Refusal.{named}
use Rattle.grouping.specs.declared.Plan.{Plan}
use Rattle.grouping.specs.declared.Refused.{Refused}
use Rattle.grouping.specs.declared.Refused.TheVariants as refused
use Rattle.grouping.specs.declared.Step.TheVariants as step
use Rattle.lane.specs.Lane.{closed, holding, fine}
use Rattle.grouping.specs.Plans.{packet_plan}
use Rattle.grouping.specs.Steps.{Outcome, lane_after}
use Rattle.grouping.specs.Packets.{terms_of, fault, user_octets}
use Rattle.grouping.proofs.Accepted.{accepted_data}
use Rattle.grouping.proofs.Planned.{of_either, Planned, planned}
use Rattle.grouping.proofs.Planned as plan
use Rattle.state.specs.declared.State.{State}
use Rattle.intake.specs.declared.Answer.{Answer}
use Rattle.intake.specs.declared.Answered.{Answered}
use Rattle.state.specs.State.{lane_at, within, unsound}
use Rattle.intake.specs.Calls.{settle, packet_step}
use Rattle.intake.specs.After.{with_lane, user_of, marks_after, pool_after, out_after, answer_of, taking, taking_pool, taking_out}
use Rattle.intake.specs.Told.{told, telling}
use Rattle.intake.specs.Ready.{Ready}
use Rattle.state.proofs.Soundness.{then_sound, lane_fine, opened_small}
use Rattle.intake.proofs.Taken.{same_state, Leaves}

-- what comes after the header and the secondary octets
abbrev pub user_part : Lane → List ℕ → List ℕ
user_part l p = drop (6 + l.settings.secondary) p

-- ---- the step: 24, or what the plan is settled to
module _ (s : State) (i : ℕ) (p : List ℕ) (octets room : ℕ) where
  step_24 : unsound s octets ≡ true → packet_step s i p octets room ≡ Err (refused.Untaken (named 24))
  unfolding packet_step
  step_24 h = simp h

  is_step : unsound s octets ≡ false → settle s.lanes i (packet_plan (lane_at s i) p room) ≡ packet_step s i p octets room
  unfolding packet_step
  is_step passed = simp passed

  -- as the code has it: the lane l, what the test for 24 told, the plan and the step
  module _ (l : Lane) (el : l ≡ lane_at s i) (b : Bool) (eb : b ≡ unsound s octets) where
    pub refused_24 : b ≡ true → Err (refused.Untaken (named 24)) ≡ packet_step s i p octets room
    refused_24 h = sym (step_24 (sym eb ∙ h))

    module _ (h : b ≡ false) (r : Result Plan Refused) (er : r ≡ packet_plan l p room) where
      plan_settles : settle s.lanes i r ≡ packet_step s i p octets room
      plan_settles = rw (er, el) (is_step (sym eb ∙ h))

      pub refused_plan : (e : Refused) → r ≡ Err e → Err e ≡ packet_step s i p octets room
      unfolding settle
      refused_plan e is = rw is at plan_settles

      pub settled_step : (pl : Plan) → r ≡ Ok pl → (d : Outcome) → d ≡ settle s.lanes i (Ok pl) → d ≡ packet_step s i p octets room
      settled_step pl is d ed = ed ∙ (rw is at plan_settles)

-- ---- what is carried out
module _ (s : State) (eight : length s.lanes ≡ 8) (i : ℕ) (p : List ℕ) (octets room : ℕ) where
  abbrev own : Lane
  own = lane_at s i

  abbrev packet : Outcome
  packet = packet_step s i p octets room

  module _ (passed : unsound s octets ≡ false) where
    -- an accepted packet's user data is that part, of the plan's octets
    part_is : fault (terms_of own) p ≡ 0 → user_of s i p ≡ user_part own p
    part_is f = (accepted_data (terms_of own) p f).0

    part_octets : fault (terms_of own) p ≡ 0 → length (user_part own p) ≡ user_octets own.settings p
    part_octets f = ap length (sym (part_is f)) ∙ (accepted_data (terms_of own) p f).1

    good : fine own ≡ true
    good = lane_fine s (then_sound s octets passed).0 i

    small : own.opened ≡ true → i < 8
    small = opened_small s.lanes eight i

    ready : {d : Result Plan Refused} → Planned own p room d → Ready i own (settle s.lanes i d) (length (user_part own p)) octets room
    unfolding settle lane_after
    ready (plan.refuses n h) = tt
    ready (plan.unread u) = tt
    ready plan.repeats = tt
    ready (plan.strays a o f g) = (small o, g)
    ready (plan.ends a on n o f g e h) =
        ((small o, g), omega (arith, e, part_octets f), h, (held_most own (good)).1)
    ready (plan.holds a on n o f g e h) =
        of_either (λ (d : Outcome). Ready i own d (length (user_part own p)) octets room) (within (set s.lanes i (holding own n)))
        (λ r. ((small o, g), omega (arith, e, part_octets f), (held_most (lane_after own (Ok (step.Hold a on n))) g).1, (held_most own (good)).1, (then_sound s octets passed).1))
        (λ r. tt)

    -- the same part of the pool and of the output is written with either
    same_pool : {d : Result Plan Refused} (pool : List ℕ) → Planned own p room d
        → pool_after s.marks i own (settle s.lanes i d) (user_part own p) pool ≡ pool_after s.marks i own (settle s.lanes i d) (user_of s i p) pool
    unfolding settle pool_after
    same_pool pool (plan.refuses n h) = refl
    same_pool pool (plan.unread u) = refl
    same_pool pool plan.repeats = refl
    same_pool pool (plan.strays a o f g) = refl
    same_pool pool (plan.ends a on n o f g e h) = refl
    same_pool pool (plan.holds a on n o f g e h) = rw (part_is f)

    same_out : {d : Result Plan Refused} (pool out : List ℕ) → Planned own p room d
        → out_after s.marks i own (settle s.lanes i d) (user_part own p) pool out ≡ out_after s.marks i own (settle s.lanes i d) (user_of s i p) pool out
    unfolding settle out_after
    same_out pool out (plan.refuses n h) = refl
    same_out pool out (plan.unread u) = refl
    same_out pool out plan.repeats = refl
    same_out pool out (plan.strays a o f g) = refl
    same_out pool out (plan.ends a on n o f g e h) = rw (part_is f)
    same_out pool out (plan.holds a on n o f g e h) =
        of_either (λ (d : Outcome). out_after s.marks i own d (user_part own p) pool out ≡ out_after s.marks i own d (user_of s i p) pool out)
        (within (set s.lanes i (holding own n))) (λ r. refl) (λ r. refl)

  -- so of every step
  ready_any : Ready i own packet (length (user_part own p)) octets room
  ready_any = either (unsound s octets) (λ h. rw (step_24 s i p octets room h) tt) (λ h. rw (← is_step s i p octets room h) (ready h (planned own p room (good h))))

  pool_any : (pool : List ℕ) → pool_after s.marks i own packet (user_part own p) pool ≡ pool_after s.marks i own packet (user_of s i p) pool
  unfolding pool_after
  pool_any pool = either (unsound s octets) (λ h. rw (step_24 s i p octets room h)) (λ h. rw (← is_step s i p octets room h) (same_pool h pool (planned own p room (good h))))

  out_any : (pool out : List ℕ) → out_after s.marks i own packet (user_part own p) pool out ≡ out_after s.marks i own packet (user_of s i p) pool out
  unfolding out_after
  out_any pool out = either (unsound s octets) (λ h. rw (step_24 s i p octets room h)) (λ h. rw (← is_step s i p octets room h) (same_out h pool out (planned own p room (good h))))

  -- as the code has them: the lane l, what comes of the packet d and the user data u
  module _ (l : Lane) (el : l ≡ own) (d : Outcome) (ed : d ≡ packet) (u : List ℕ) (eu : u ≡ drop (6 + l.settings.secondary) p) where
    pub ready_step : Ready i l d (length u) octets room
    ready_step = rw (eu, ed, el) ready_any

    -- the lane k and the marks m after it are put into the state t, beside the answer a
    pub as_promised : (pool out : List ℕ) → octets ≡ length pool → room ≡ length out → (k : Lane) (m after-pool after-out : List ℕ)
        → Leaves s.marks i l d u pool out k m after-pool after-out → (a : Result Answer Refused) → a ≡ answer_of d → (t : State) → t ≡ with_lane s i k m
        → (record { answer = a; state = t } ≡ taking s i p (length pool) (length out)) × (after-pool ≡ taking_pool s i p (length out) pool) × (after-out ≡ taking_out s i p pool out)
    unfolding taking taking_pool taking_out
    as_promised pool out po ro k m after-pool after-out w a ea t et =
        let v : u ≡ user_part own p = rw (eu, el) in
        rw (← po, ← ro)
        (rw (et, ea, w.0, w.1, ed, el), w.2 ∙ rw (ed, v, el) (pool_any pool), w.3 ∙ rw (ed, v, el) (out_any pool out))

-- ---- the lane that is read, and the state once it is stored in its place
module _ (s : State) (eight : length s.lanes ≡ 8) (i : ℕ) where
  pub no_such_lane : 8 ≤ i → closed ≡ lane_at s i
  no_such_lane h = sym (get_or-eq_default s.lanes closed (omega (arith, eight, h)))

  pub nothing_stored : 8 ≤ i → (k : Lane) (m : List ℕ) → record { lanes = s.lanes; marks = m } ≡ with_lane s i k m
  nothing_stored h k m = rw (set_out s.lanes i k (omega (arith, eight, h)))

-- ---- a packet that is refused leaves all as it was
module _ (s : State) (i : ℕ) (p pool out : List ℕ) where
  pub refused_so : (e : Refused) → Err e ≡ packet_step s i p (length pool) (length out)
      → (record { answer = Err e; state = s } ≡ taking s i p (length pool) (length out)) × (pool ≡ taking_pool s i p (length out) pool) × (out ≡ taking_out s i p pool out)
  unfolding taking taking_pool taking_out lane_after marks_after pool_after out_after
  refused_so (refused.Unread u) ed = rw (← ed) (ap (λ (t : State). let a : Answered = record { answer = Err (refused.Unread u); state = t } in a) (same_state s i), refl, refl)
  refused_so (refused.Untaken r) ed = rw (← ed) (ap (λ (t : State). let a : Answered = record { answer = Err (refused.Untaken r); state = t } in a) (same_state s i), refl, refl)

-- the answer tells what the step does
step_told : (d : Outcome) → told (answer_of d) ≡ telling d
step_told (Err r) = refl
step_told (Ok step.Repeat) = refl
step_told (Ok (step.Stray a)) = refl
step_told (Ok (step.Hold a on n)) = refl
step_told (Ok (step.Unit a on n)) = refl

pub answer_told : (s : State) (i : ℕ) (p : List ℕ) (octets room : ℕ) (r : Answered) → r ≡ taking s i p octets room
    → told r.answer ≡ telling (packet_step s i p octets room)
unfolding taking
answer_told s i p octets room r e = rw e (step_told (packet_step s i p octets room))
