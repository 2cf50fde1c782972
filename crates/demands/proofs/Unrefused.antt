-- What has nothing amiss isn't refused, in any state that a run reaches: its plan is followed test by test. A lane in its share has the room, since its share was
-- promised.
use Prim.Native.Nat.{ℕ, ◌+◌, ◌≤◌, ◌<◌}
use Prim.{Unit}
use mathlib.Core.Path.{◌≡◌, refl, sym, ap, ap₂, subst, ◌∙◌}
use mathlib.Core.Bool.{Bool, true, false, not, ◌&&◌, ◌||◌}
use mathlib.Core.List.{List}
use native.Mathlib.Omega.{arith}
use borrow.Author.Tests.{eqb-false, eq-eqb, le-ltb, lt-leb}
use lib.Dec.{eqb, ltb, leb}
use lib.ListN.{length, get_or, set}
use Rattle.std.specs.Prelude.{Ok, Err}
use Rattle.octets.proofs.Order.{either, both}
use Rattle.packet.specs.Space.{counts, flags, count}
use Rattle.reading.specs.Reading.{refusal}
use Rattle.record.specs.Record.{most_packets, record_size}
use Rattle.marks.specs.Blocks.{blocks_for}
use Rattle.lane.specs.declared.Lane.{Lane}
use Rattle.grouping.specs.declared.Added.{Added}
use Rattle.grouping.specs.Steps.{Outcome}
use Rattle.grouping.specs.declared.Step.TheVariants.{Repeat, Stray, Hold}
use Rattle.grouping.specs.declared.Step.TheVariants as step
use Rattle.lane.specs.Lane.{held, holding, illegal, tallies_possible, fine, closed}
use Rattle.grouping.specs.Packets.{terms_of, fault, user_octets}
use Rattle.grouping.specs.Grouping.{repeats, goes_on, added_from}
use Rattle.grouping.proofs.Accepted.{accepted}
use Rattle.grouping.specs.Plans.{hold_plan, unit_plan, grouping_plan, accepted_plan, packet_plan}
use Rattle.state.specs.declared.State.{State}
use Rattle.intake.specs.declared.Answer.TheVariants as answer
use Rattle.state.specs.State.{lane_at, within}
use Rattle.intake.specs.Calls.{opened_with, opening_refusal, closing_refusal, settle}
use Rattle.intake.specs.After.{answer_of, opening, closing, taking, taking_pool, taking_out}
use Rattle.demands.specs.Runs as runs
use Rattle.demands.specs.Runs.{ours, Handed, Start, begun, Call, to_packet, reply, run, takes, is_refused}
use Rattle.calls.specs.Order.{would_group, would_hold, would_write}
use Rattle.demands.specs.Past.{lane_from}
use Rattle.demands.specs.Demand3.{NothingAmiss, HasRoom, RoomInShare, OpensIfFine, ClosesIfFine}
use Rattle.demands.specs.Laws.{GetsRoom, RepeatsChangeNothing}
use Rattle.calls.proofs.Sound.{not_unsound, lane_fine}
use Rattle.calls.proofs.Room.{room_in_share as has_room}
use Rattle.demands.proofs.Reached.{reached_sound}
use Rattle.demands.proofs.View.{step_for, run_size, settled, took_reply}
use Rattle.calls.proofs.Laws.{repeat_leaves}
use Rattle.demands.proofs.Followed.{lane_is, lanes_are}

-- ---- a step that is no refusal
abbrev Taken : Outcome → Type 0
Taken (Err r) = ⊥
Taken (Ok Repeat) = Unit {0}
Taken (Ok (Stray a)) = Unit {0}
Taken (Ok (Hold a on n)) = Unit {0}
Taken (Ok (step.Unit a on n)) = Unit {0}

taken_told : (d : Outcome) (out : List ℕ) → Taken d → is_refused (to_packet (answer_of d) out) ≡ false
taken_told (Err r) out h = absurd h
taken_told (Ok Repeat) out h = refl
taken_told (Ok (Stray a)) out h = refl
taken_told (Ok (Hold a on n)) out h = refl
taken_told (Ok (step.Unit a on n)) out h = refl

taken_reply : (x : Handed) (i : ℕ) (p out : List ℕ) → Taken (step_for x i p out) → is_refused (reply x (takes i p out)) ≡ false
unfolding reply taking
taken_reply x i p out h = taken_told (step_for x i p out) (taking_out x.state i p x.pool out) h

module _ (ls : List Lane) (i : ℕ) (p : List ℕ) (room : ℕ) where
  abbrev own : Lane
  own = get_or ls i closed

  pub held_if_room : (a : Added) (on : Bool) (n : ℕ) → blocks_for n ≤ own.settings.cap → within (set ls i (holding own n)) ≡ true → settle ls i (hold_plan own.settings a on n) ≡ Ok (Hold a on n)
  unfolding hold_plan settle
  held_if_room a on n most beside = simp (le-ltb own.settings.cap (blocks_for n) most, beside)

  to_hold : (a : Added) (on : Bool) (n : ℕ) → blocks_for n ≤ own.settings.cap → within (set ls i (holding own n)) ≡ true → Taken (settle ls i (hold_plan own.settings a on n))
  to_hold a on n most beside = subst Taken (sym (held_if_room a on n most beside)) tt

  to_end : (a : Added) (on : Bool) (n : ℕ) → n ≤ room → Taken (settle ls i (unit_plan room a on n))
  unfolding unit_plan settle
  to_end a on n fits = simp (le-ltb room n fits) tt

  grouping : would_hold own p ≤ own.settings.cap → within (set ls i (holding own (would_group own p))) ≡ true → would_write own p ≤ room
      → Taken (settle ls i (grouping_plan own (flags p) (count p) (user_octets own.settings p) room))
  unfolding grouping_plan would_group would_write settle
  grouping most beside fits =
      let f : ℕ = flags p in
      let a : Added = added_from own f (count p) in
      let user : ℕ = user_octets own.settings p in
      either (eqb f 3) (λ e. simp e (to_end a false user (simp e at fits)))
      (λ no3. simp no3 (either (eqb f 1) (λ e. simp e (to_hold a false user (simp e at most) (simp e at beside)))
      (λ no1. simp no1 (either (goes_on own f (count p))
      (λ on. simp on (either (eqb f 0) (λ e. simp e (to_hold a true (own.octets + user) (simp (no1, e, on) at most) (simp (no1, e, on) at beside)))
      (λ no0.
      let e : eqb f 2 ≡ true = eq-eqb f 2 (omega (arith, eqb-false f 3 no3, eqb-false f 1 no1, eqb-false f 0 no0)) in
      simp no0 (to_end a true (own.octets + user) (simp (no3, e, on) at fits)))))
      (λ on. simp on tt)))))

  takes_it : own.opened ≡ true → fault (terms_of own) p ≡ 0 → Taken (settle ls i (accepted_plan own (flags p) (count p) (user_octets own.settings p) room)) → Taken (settle ls i (packet_plan own p room))
  unfolding packet_plan
  takes_it open' sound h = simp (open', eq-eqb (refusal p) 0 (accepted (terms_of own) p sound).read, sound) h

  accepts : own.packets < most_packets → Taken (settle ls i (grouping_plan own (flags p) (count p) (user_octets own.settings p) room)) → Taken (settle ls i (accepted_plan own (flags p) (count p) (user_octets own.settings p) room))
  unfolding accepted_plan settle
  accepts few h = either (repeats own (count p)) (λ e. simp e tt) (λ e. simp (e, lt-leb most_packets own.packets few) h)

-- ---- a packet
module _ (start : Start) (calls : List Call) (i : ℕ) (packet out : List ℕ) where
  abbrev x : Handed
  x = run ours (begun start) calls

  abbrev l : Lane
  l = lane_at x.state i

  pub planned : step_for x i packet out ≡ settle x.state.lanes i (packet_plan l packet (length out))
  planned = settled x (reached_sound start calls) (run_size (begun start) calls ∙ start.whole) i packet out

  gets : NothingAmiss l packet out → HasRoom x.state.lanes i packet → is_refused (reply x (takes i packet out)) ≡ false
  gets (open', sound, few, fits) (most, beside) =
      let ls : List Lane = x.state.lanes in
      let h = takes_it ls i packet (length out) open' sound (accepts ls i packet (length out) few (grouping ls i packet (length out) most beside fits)) in
      taken_reply x i packet out (rw planned h)

  -- a share that was promised is there
  in_share : NothingAmiss l packet out → would_hold l packet ≤ l.settings.share → is_refused (reply x (takes i packet out)) ≡ false
  in_share fine' few =
      let k = reached_sound start calls in
      gets fine' (has_room x.state k i packet fine'.0 few)

  again : l.opened ≡ true → fault (terms_of l) packet ≡ 0 → repeats l (count packet) ≡ true
      → (reply x (takes i packet out) ≡ to_packet (Ok answer.Repeat) out) × (runs.after x (takes i packet out) ≡ x)
  unfolding packet_plan accepted_plan settle runs.after taking taking_pool
  again open' sound same =
      let step : step_for x i packet out ≡ Ok Repeat = planned ∙ simp (open', eq-eqb (refusal packet) 0 (accepted (terms_of l) packet sound).read, sound, same) in
      let left = repeat_leaves x.state i packet x.pool out step in
      (took_reply x i packet out ∙ rw step, ap₂ (λ (s : State) (p : List ℕ). record { state = s; pool = p }) left.0 left.1)

-- the lanes are those of their pasts
pub gets_room : GetsRoom
gets_room start calls i packet out fine' room =
    gets start calls i packet out (rw (lane_is start calls i) fine') (rw (lanes_are start calls) room)

pub room_in_share : RoomInShare ours
room_in_share start calls i packet out = rw (← lane_is start calls i) (in_share start calls i packet out)

pub repeats_change_nothing : RepeatsChangeNothing
repeats_change_nothing start calls i packet out = rw (← lane_is start calls i) (again start calls i packet out)

-- ---- an opening and a closing
pub opens_if_fine : OpensIfFine ours
unfolding reply opening opening_refusal
opens_if_fine start calls i settings small shut' legal fits =
    let x : Handed = run ours (begun start) calls in
    let closed' : (lane_at x.state i).opened ≡ false = ap (λ (l : Lane). l.opened) (lane_is start calls i ∙ ap lane_from shut') in
    let within' : within (set x.state.lanes i (opened_with settings)) ≡ true = rw (lanes_are start calls) fits in
    rw (run_size (begun start) calls ∙ start.whole)
    (simp (not_unsound x.state (reached_sound start calls), le-ltb 7 i (omega arith), closed', legal, within'))

tallies_possible_lem : (l : Lane) → fine l ≡ true → tallies_possible l ≡ true
unfolding fine
tallies_possible_lem l e =
    (both ((not l.opened || not (illegal l.settings)) && leb (held l) l.settings.cap && (l.grouped || eqb l.octets 0) && (l.opened || not l.grouped) && ltb l.last counts)
    (tallies_possible l) e).1

pub closes_if_fine : ClosesIfFine ours
unfolding reply closing closing_refusal
closes_if_fine start calls i out open' fits =
    let x : Handed = run ours (begun start) calls in
    let k = reached_sound start calls in
    let opened' : (lane_at x.state i).opened ≡ true = ap (λ (l : Lane). l.opened) (lane_is start calls i) ∙ open' in
    rw (run_size (begun start) calls ∙ start.whole)
    (simp (not_unsound x.state k, opened', le-ltb (length out) record_size fits, tallies_possible_lem (lane_at x.state i) (lane_fine x.state k i)))
