-- What a packet's step obeys in a sound state: what its plan does, and that there is room for the lane beside the others. So the state after it is
-- sound.
use Prim.Native.Nat.{ℕ, ◌+◌, ◌≤◌, ◌<◌}
use mathlib.Core.Path.{◌≡◌, refl, sym, ap, ◌∙◌}
use mathlib.Core.Bool.{Bool, true, false, cond}
use mathlib.Core.List.{List, map}
use native.Mathlib.Omega.{arith}
use lib.ListN.{length, set}
use lib.Seq.{set-get_or}
use Rattle.octets.proofs.Order.{either}
use Rattle.reading.specs.Reading.{refusal}
use Rattle.marks.specs.Blocks.{blocks_for}
use Rattle.marks.specs.Matching.{sum}
use Rattle.lane.specs.declared.Lane.{Lane}
use Rattle.lane.proofs.Fine.{none_held, held_most}
use Rattle.grouping.specs.declared.Added.{Added}
use Rattle.grouping.specs.Steps.{Outcome}
use Rattle.std.specs.Prelude.{Result, Ok, Err}
use Rattle.refusal.specs.Refusal.{number, named}
use Rattle.refusal.specs.declared.Refusal.{Refusal}
use Rattle.grouping.specs.Plans as plans
use Rattle.grouping.specs.declared.Refused.{Refused}
use Rattle.grouping.specs.declared.Refused.TheVariants.{Unread, Untaken}
use Rattle.grouping.specs.declared.Step.TheVariants.{Repeat, Stray, Hold, Unit}
use Rattle.grouping.specs.declared.Plan.{Plan}
use Rattle.lane.specs.Lane.{held, holding, fine}
use Rattle.grouping.specs.Steps.{lane_after}
use Rattle.grouping.proofs.Accepted.{accepted_data}
use Rattle.grouping.proofs.Planned.{of_either, Planned, planned}
use Rattle.grouping.proofs.Planned as plan
use Rattle.grouping.specs.Packets.{terms_of}
use Rattle.state.specs.declared.State.{State}
use Rattle.state.specs.State.{lane_at, within, unsound}
use Rattle.state.proofs.Within.{need_open, smaller, same_need}
use Rattle.intake.specs.Calls.{settle, packet_step}
use Rattle.intake.specs.After.{with_lane, marks_after, user_of, answered}
use Rattle.state.proofs.Soundness.{then_sound}
use Rattle.calls.specs.Order.{refusal_of}
use Rattle.calls.proofs.Lanes.{fine_set, held_set, held_within}
use Rattle.calls.proofs.Sound.{Sound, lane_fine, opened_small, changed}
use Rattle.calls.proofs.Marks.{blocks_kept, grown_length, emptied, grown_matching}

-- the lane is one of eight, and after the step d it is fine and there is room for it
pub record Fits (s : State) (i : ℕ) (d : Outcome) : Type 0 where
  pub small : i < 8
  pub good : fine (lane_after (lane_at s i) d) ≡ true
  pub room : within (set s.lanes i (lane_after (lane_at s i) d)) ≡ true

pub data Stepped (s : State) (i : ℕ) (p : List ℕ) (octets room : ℕ) : Outcome → Type 0 where
  refuses : (r : Refusal) → 8 ≤ number r → Stepped s i p octets room (Err (Untaken r))
  unread : (refusal p ≡ 0 → ⊥) → Stepped s i p octets room (Err (Unread (plans.unread p)))
  repeats : Stepped s i p octets room (Ok Repeat)
  strays : (a : Added) → Fits s i (Ok (Stray a)) → Stepped s i p octets room (Ok (Stray a))
  ends : (a : Added) (on : Bool) (n : ℕ) → Fits s i (Ok (Unit a on n)) → n ≡ cond on (lane_at s i).octets 0 + length (user_of s i p) → n ≤ room → Stepped s i p octets room (Ok (Unit a on n))
  holds : (a : Added) (on : Bool) (n : ℕ) → Fits s i (Ok (Hold a on n)) → n ≡ cond on (lane_at s i).octets 0 + length (user_of s i p) → Stepped s i p octets room (Ok (Hold a on n))

module _ (s : State) (k : Sound s) (i : ℕ) (p : List ℕ) (octets room : ℕ) where
  abbrev own : Lane
  own = lane_at s i

  -- a lane that holds nothing has room, since it had room before
  room_empty : (l : Lane) → own.opened ≡ true → l.opened ≡ true → l.octets ≡ 0 → l.settings.share ≡ own.settings.share → within (set s.lanes i l) ≡ true
  room_empty l o on none share = smaller s.lanes i l (omega (arith, need_open own o, need_open l on, ap blocks_for none ∙ none_held)) k.room

  settled : {d : Result Plan Refused} → Planned own p room d → Stepped s i p octets room (settle s.lanes i d)
  unfolding settle lane_after
  settled (plan.refuses n h) = refuses n h
  settled (plan.unread u) = unread u
  settled plan.repeats = repeats
  settled (plan.strays a o f g) = strays a (record { small = opened_small s k i o; good = g; room = room_empty (lane_after own (Ok (Stray a))) o o refl refl })
  settled (plan.ends a on n o f g e h) = ends a on n (record { small = opened_small s k i o; good = g; room = room_empty (lane_after own (Ok (Unit a on n))) o o refl refl })
      (omega (arith, (accepted_data (terms_of own) p f).1)) h
  settled (plan.holds a on n o f g e h) =
      of_either (Stepped s i p octets room) (within (set s.lanes i (holding own n)))
      (λ r. holds a on n (record { small = opened_small s k i o; good = g; room = same_need s.lanes i (holding own n) (lane_after own (Ok (Hold a on n))) (need_open (lane_after own (Ok (Hold a on n))) o ∙ sym (need_open (holding own n) o)) r })
      (omega (arith, (accepted_data (terms_of own) p f).1)))
      (λ r. refuses (named 27) (omega arith))

  pub stepped : Stepped s i p octets room (packet_step s i p octets room)
  unfolding packet_step
  stepped =
      of_either (Stepped s i p octets room) (unsound s octets) (λ e. refuses (named 24) (omega arith))
      (λ e. settled (planned own p room (lane_fine s k i)))

-- a step other than 24 was taken with a pool of 16,384 octets
pub pool_then : (s : State) (i : ℕ) (p : List ℕ) (octets room : ℕ) {d : Outcome} → packet_step s i p octets room ≡ d → (refusal_of d ≡ 24 → ⊥) → octets ≡ 16384
unfolding packet_step
pool_then s i p octets room e other = either (unsound s octets) (λ u. absurd (other (ap refusal_of (sym (simp u at e))))) (λ u. (then_sound s octets u).1)

-- ---- the state after a step
module _ (s : State) (k : Sound s) (i : ℕ) where
  stays : Sound (with_lane s i (lane_at s i) s.marks)
  stays = rw (set-get_or s.lanes i) k

  module _ (d : Outcome) (f : Fits s i d) where
    abbrev next : Lane
    next = lane_after (lane_at s i) d

    -- what all lanes hold then is within the pool
    sum_after : sum (set (map held s.lanes) i (held next)) ≤ 64
    sum_after =
        rw (← held_set s.lanes i next)
        (held_within (set s.lanes i next) (fine_set s.lanes k.lanes i next f.good) f.room)

  pub group_grows : (a : Added) (on : Bool) (n u : ℕ) → Fits s i (Ok (Hold a on n)) → n ≡ cond on (lane_at s i).octets 0 + u
      → (blocks_kept s.marks i (lane_at s i) on ≤ blocks_for n) × (blocks_for n ≤ 64)
  unfolding lane_after blocks_for
  group_grows a on n u f e = (more on e, (held_most (lane_after (lane_at s i) (Ok (Hold a on n))) f.good).0)
    where
      more : (on : Bool) → n ≡ cond on (lane_at s i).octets 0 + u → blocks_kept s.marks i (lane_at s i) on ≤ blocks_for n
      more true e = omega arith
      more false e = omega arith

  pub after_step : (p : List ℕ) (octets room : ℕ) {d : Outcome} → Stepped s i p octets room d → Sound (answered s i d).state
  unfolding lane_after marks_after
  after_step p octets room (refuses n h) = stays
  after_step p octets room (unread u) = stays
  after_step p octets room repeats = stays
  after_step p octets room (strays a f) = emptied s k i f.small (lane_after (lane_at s i) (Ok (Stray a))) f.good f.room refl
  after_step p octets room (ends a on n f e h) = emptied s k i f.small (lane_after (lane_at s i) (Ok (Unit a on n))) f.good f.room refl
  after_step p octets room (holds a on n f e) =
      let g = group_grows a on n (length (user_of s i p)) f e in
      changed s k i f.small (lane_after (lane_at s i) (Ok (Hold a on n))) _ f.good f.room (grown_length s.marks i (lane_at s i) on n ∙ k.shape.1)
      (grown_matching s k i f.small on n g.0 g.1 (sum_after (Ok (Hold a on n)) f))
