-- A lane as its source sees it: its struct, and the octets of its open group. A call of the lane changes them as the call's step says, wherever in
-- the pool the octets lie; and a call of another lane leaves them.
use Prim.Native.Nat.{ℕ, ◌<◌}
use mathlib.Core.Path.{◌≡◌, refl, sym, ap, ap₂, ◌∙◌}
use mathlib.Core.Bool.{Bool, true, false, cond}
use mathlib.Core.List.{List, [], ◌∷◌, ◌++◌}
use native.Mathlib.Decide.{dec_lt}
use native.Mathlib.Omega.{arith}
use lib.ListN.{length, get_or, set, get_or-eq_default}
use lib.Seq.{get_or-set_same}
use borrow.Author.Tests.{eqb-true}
use lib.Dec.{eqb}
use Rattle.std.specs.Prelude.{Ok, Err}
use Rattle.octets.specs.Output.{put, unless_refused}
use Rattle.pool.specs.Octets.{gathered}
use Rattle.lane.specs.declared.Settings.{Settings}
use Rattle.lane.specs.declared.Lane.{Lane}
use Rattle.grouping.specs.Steps.{Outcome}
use Rattle.grouping.specs.declared.Step.TheVariants.{Repeat, Stray, Hold, Unit}
use Rattle.lane.specs.Lane.{closed}
use Rattle.grouping.specs.Packets.{user_data}
use Rattle.grouping.specs.Plans.{packet_plan}
use Rattle.grouping.specs.Steps.{lane_after}
use Rattle.state.specs.declared.State.{State}
use Rattle.state.specs.State.{lane_at}
use Rattle.intake.specs.Calls.{opened_with, opening_refusal, closing_refusal, settle, packet_step}
use Rattle.intake.specs.After.{opening, closing, marks_after, pool_after, out_after, group_of, user_of, answer_of, answered, taking, taking_pool, taking_out}
use Rattle.intake.proofs.Taken.{same_state}
use Rattle.rule.proofs.Slots.{Slot, without, out_from, slot_after}
use Rattle.demands.specs.Runs.{ours, Handed, Call, opens, takes, closes, to_packet, reply, after, run, lane_of}
use Rattle.calls.specs.Groups.{group_in, Leaves}
use Rattle.calls.proofs.Sound.{Sound, not_unsound}
use Rattle.calls.proofs.Steps.{Stepped, refuses, unread, repeats, strays, ends, holds, stepped}
use Rattle.calls.proofs.Calls.{opened_at, closed_small}
use Rattle.demands.proofs.Reached.{after_shaped}
use Rattle.calls.proofs.Groups.{opening_leaves, closing_leaves, taking_leaves, held_gathered, pool_length}

abbrev pub slot_at : State → List ℕ → ℕ → Slot
slot_at s pool i = record { lane = lane_at s i; group = group_in s pool i }

abbrev pub slot_in : Handed → ℕ → Slot
slot_in x i = slot_at x.state x.pool i

abbrev pub step_for : Handed → ℕ → List ℕ → List ℕ → Outcome
step_for x i p out = packet_step x.state i p (length x.pool) (length out)

-- ---- a lane that was put in its place
put_there : (s : State) → Sound s → (i : ℕ) → i < 8 → (l : Lane) → get_or (set s.lanes i l) i closed ≡ l
put_there s k i small l = get_or-set_same s.lanes i l closed (omega (arith, k.shape.0))

-- and that has no octets
emptied : (s : State) → Sound s → (i : ℕ) → i < 8 → (l : Lane) (marks pool : List ℕ) → l.octets ≡ 0
    → slot_at (record { lanes = set s.lanes i l; marks = marks }) pool i ≡ without l
unfolding gathered
emptied s k i small l marks pool none = rw (put_there s k i small l) (simp none)

group_same : (s : State) (i : ℕ) (pool : List ℕ) (on : Bool) → group_of s.marks i (lane_at s i) on pool ≡ cond on (group_in s pool i) []
unfolding group_of
group_same s i pool on = refl

module _ (s : State) (k : Sound s) (i : ℕ) (p pool : List ℕ) (size : length pool ≡ 16384) where
  step_slot : {octets room : ℕ} {d : Outcome} → Stepped s i p octets room d
      → slot_at (answered s i d).state (pool_after s.marks i (lane_at s i) d (user_of s i p) pool) i ≡ slot_after (slot_at s pool i) p d
  unfolding lane_after marks_after pool_after
  step_slot (refuses n h) = ap (λ (t : State). slot_at t pool i) (sym (same_state s i))
  step_slot (unread u) = ap (λ (t : State). slot_at t pool i) (sym (same_state s i))
  step_slot repeats = ap (λ (t : State). slot_at t pool i) (sym (same_state s i))
  step_slot (strays a f) = emptied s k i f.small (lane_after (lane_at s i) (Ok (Stray a))) _ pool refl
  step_slot (ends a on n f e h) = emptied s k i f.small (lane_after (lane_at s i) (Ok (Unit a on n))) _ pool refl
  step_slot {octets} {room} (holds a on n f e) =
      ap₂ (λ (l : Lane) (g : List ℕ). record { lane = l; group = g }) (put_there s k i f.small (lane_after (lane_at s i) (Ok (Hold a on n))))
      ((held_gathered s k i p pool size a on n {octets = octets} {room = room} (holds a on n f e)).0 ∙ ap (λ (g : List ℕ). g ++ user_of s i p) (group_same s i pool on))

out_same : (s : State) (i : ℕ) (u pool out : List ℕ) (d : Outcome) → out_after s.marks i (lane_at s i) d u pool out ≡ out_from (group_in s pool i) u d out
unfolding out_after
out_same s i u pool out (Err r) = refl
out_same s i u pool out (Ok Repeat) = refl
out_same s i u pool out (Ok (Stray a)) = refl
out_same s i u pool out (Ok (Hold a on n)) = refl
out_same s i u pool out (Ok (Unit a on n)) = ap (λ (g : List ℕ). put out 0 (g ++ u)) (group_same s i pool on)

-- a refusal leaves the lane
unless_slot : (refusal i : ℕ) (new old : State) (pool : List ℕ) (v : Slot) → (refusal ≡ 0 → slot_at new pool i ≡ v)
    → slot_at (unless_refused refusal new old) pool i ≡ unless_refused refusal v (slot_at old pool i)
unless_slot refusal i new old pool v h = chosen (eqb refusal 0) (λ e. h (eqb-true _ _ e))
  where
    chosen : (b : Bool) → (b ≡ true → slot_at new pool i ≡ v) → slot_at (cond b new old) pool i ≡ cond b v (slot_at old pool i)
    chosen true f = f refl
    chosen false f = refl

-- ---- the calls
pub after_size : (x : Handed) (c : Call) → length (after x c).pool ≡ length x.pool
unfolding after
after_size x (opens i settings) = refl
after_size x (takes i p out) = pool_length x.state i p (length out) x.pool
after_size x (closes i out) = refl

pub run_size : (x : Handed) (calls : List Call) → length (run ours x calls).pool ≡ length x.pool
unfolding run
run_size x [] = refl
run_size x (c ∷ calls) = run_size (after x c) calls ∙ after_size x c

pub took_reply : (x : Handed) (i : ℕ) (p out : List ℕ)
    → reply x (takes i p out) ≡ to_packet (answer_of (step_for x i p out)) (out_from (slot_in x i).group (user_data (slot_in x i).lane.settings p) (step_for x i p out) out)
unfolding reply taking taking_out
took_reply x i p out = ap (to_packet (answer_of (step_for x i p out))) (out_same x.state i (user_of x.state i p) x.pool out (step_for x i p out))

module _ (x : Handed) (k : Sound x.state) (size : length x.pool ≡ 16384) where
  module _ (i : ℕ) where
    -- what is done is settled beside the others
    pub settled : (p out : List ℕ) → step_for x i p out ≡ settle x.state.lanes i (packet_plan (lane_at x.state i) p (length out))
    unfolding packet_step
    settled p out = rw size (simp (not_unsound x.state k))

    pub took_slot : (p out : List ℕ) → slot_in (after x (takes i p out)) i ≡ slot_after (slot_in x i) p (step_for x i p out)
    unfolding after taking taking_pool
    took_slot p out = step_slot x.state k i p x.pool size (stepped x.state k i p (length x.pool) (length out))

    pub opened_slot : (settings : Settings) → slot_in (after x (opens i settings)) i ≡ unless_refused (opening_refusal x.state i settings (length x.pool)) (without (opened_with settings)) (slot_in x i)
    unfolding after opening
    opened_slot settings =
        unless_slot (opening_refusal x.state i settings (length x.pool)) i _ x.state x.pool (without (opened_with settings))
        (λ e. emptied x.state k i (opened_at x.state k i settings (length x.pool) e).0 (opened_with settings) x.state.marks x.pool refl)

    pub closed_slot : (out : List ℕ) → slot_in (after x (closes i out)) i ≡ unless_refused (closing_refusal x.state i (length x.pool) (length out)) (without closed) (slot_in x i)
    unfolding after closing
    closed_slot out =
        unless_slot (closing_refusal x.state i (length x.pool) (length out)) i _ x.state x.pool (without closed)
        (λ e. emptied x.state k i (closed_small x.state k i (length x.pool) (length out) e) closed _ x.pool refl)

  -- ---- another lane's call; there is no lane above 7
  none_there : (s : State) → length s.lanes ≡ 8 → (j : ℕ) → (j < 8 → ⊥) → lane_at s j ≡ closed
  none_there s eight j big = get_or-eq_default s.lanes closed {n = j} (omega (arith, eight, big))

  left : (j : ℕ) (later : Handed) → Leaves j x.state x.pool later.state later.pool → slot_in later j ≡ slot_in x j
  left j later l = ap₂ (λ (a : Lane) (g : List ℕ). record { lane = a; group = g }) l.lane l.group

  other_small : (c : Call) (j : ℕ) → (lane_of c ≡ j → ⊥) → j < 8 → slot_in (after x c) j ≡ slot_in x j
  unfolding after
  other_small (opens i settings) j other small = left j (after x (opens i settings)) (opening_leaves x.state k i j other small x.pool settings (length x.pool))
  other_small (takes i p out) j other small = left j (after x (takes i p out)) (taking_leaves x.state k i j other small x.pool p (length out))
  other_small (closes i out) j other small = left j (after x (closes i out)) (closing_leaves x.state k i j other small x.pool (length x.pool) (length out))

  empty_slot : (y : Handed) → length y.state.lanes ≡ 8 → (j : ℕ) → (j < 8 → ⊥) → slot_in y j ≡ without closed
  unfolding gathered
  empty_slot y eight j big = rw (none_there y.state eight j big)

  pub other_slot : (c : Call) (j : ℕ) → (lane_of c ≡ j → ⊥) → slot_in (after x c) j ≡ slot_in x j
  other_slot c j other =
      elim (dec_lt j 8) [
        | yes small ↦ other_small c j other small
        | no big ↦ empty_slot (after x c) (after_shaped x k.shape c).0 j big ∙ sym (empty_slot x k.shape.0 j big)
      ]
