-- Octets not written stay, since storing sets places of the lane's group only; and a freed block is used again: it is free among the marks in which the next lane
-- looks, so where its place is due it gets that lane's mark.
use Prim.Native.Nat.{ℕ, ◌+◌, ◌/◌, ◌≤◌, ◌<◌}
use mathlib.Core.Path.{◌≡◌, refl, sym, ap, subst, ◌∙◌}
use mathlib.Core.Bool.{Bool, true, false, cond, ◌&&◌}
use mathlib.Core.List.{List, [], ◌∷◌}
use native.Mathlib.Omega.{arith}
use borrow.Author.Tests.{eqb-true, eq-eqb, le-ltb, lt-ltb, lt-leb}
use lib.Dec.{eqb}
use lib.ListN.{length, get_or, set}
use lib.Seq.{get_or-set_other}
use Rattle.std.specs.Prelude.{Ok}
use Rattle.octets.proofs.Order.{either, both}
use Rattle.packet.specs.Space.{flags, count}
use Rattle.reading.specs.Reading.{refusal}
use Rattle.record.specs.Record.{most_packets}
use Rattle.marks.specs.Blocks.{free, mark, blocks_for}
use Rattle.pool.specs.Octets.{place, stored}
use Rattle.marks.specs.Matching.{is_free}
use Rattle.lane.specs.declared.Lane.{Lane}
use Rattle.grouping.specs.declared.Added.{Added}
use Rattle.grouping.specs.Steps.{Outcome}
use Rattle.grouping.specs.declared.Step.TheVariants.{Hold}
use Rattle.lane.specs.Lane.{held, holding, closed}
use Rattle.grouping.specs.Packets.{terms_of, fault, user_octets}
use Rattle.grouping.specs.Grouping.{repeats, goes_on}
use Rattle.grouping.proofs.Accepted as before
use Rattle.grouping.specs.Plans.{hold_plan, grouping_plan, accepted_plan, packet_plan}
use Rattle.grouping.specs.Steps.{lane_after}
use Rattle.lane.proofs.Fine.{none_held}
use Rattle.state.specs.declared.State.{State}
use Rattle.intake.specs.declared.Answer.TheVariants.{Held}
use Rattle.state.specs.State.{lane_at, within}
use Rattle.intake.specs.Calls.{settle}
use Rattle.intake.specs.After.{marks_after, pool_after, user_of, taking, taking_pool}
use Rattle.demands.specs.Runs.{ours, Handed, begun, opens, takes, closes, to_packet, reply, after, run, lane_of}
use Rattle.rule.specs.Rule as rule
use Rattle.rule.specs.Rule.{taken_of, accepted}
use Rattle.rule.proofs.Ruled.{repeats_same}
use Rattle.demands.specs.Past.{Past, shut, since, settings_of, accepted_in, lane_from, past_of}
use Rattle.calls.specs.Order.{would_hold, would_group}
use Rattle.state.specs.Clauses.{mark_at}
use Rattle.demands.specs.Demand3.{NothingAmiss, HasRoom, Belongs, marks_for, place_for, WritesInItsOwn, UsedAgain}
use Rattle.demands.specs.Laws.{OctetsStay}
use Rattle.calls.proofs.Sound.{Sound}
use Rattle.calls.proofs.Steps.{Stepped, refuses, unread, repeats as again, strays, ends, holds, stepped}
use Rattle.demands.proofs.Reached.{after_sound, reached_sound}
use Rattle.rule.proofs.Slots.{Slot}
use Rattle.demands.proofs.View.{step_for, run_size, settled, took_reply, took_slot}
use Rattle.demands.proofs.Followed.{lane_is, lanes_are}
use Rattle.demands.proofs.Unrefused.{gets_room}
use Rattle.demands.proofs.Shared.{one_block, lowest_at}

-- ---- storing sets the places of the octets that are stored
stored_elsewhere : (marks : List ℕ) (i : ℕ) (pool : List ℕ) (k : ℕ) (ds : List ℕ) (at : ℕ) → ((j : ℕ) → k ≤ j → j < k + length ds → place marks i j ≡ at → ⊥)
    → get_or (stored marks i pool k ds) at 0 ≡ get_or pool at 0
unfolding stored
stored_elsewhere marks i pool k [] at other = refl
stored_elsewhere marks i pool k (d ∷ ds) at other =
    stored_elsewhere marks i (set pool (place marks i k) d) (k + 1) ds at (λ j low high. other j (omega arith) (omega arith))
    ∙ get_or-set_other pool (place marks i k) at d 0 (λ e. other k (omega arith) (omega arith) (sym e))

module _ (s : State) (i : ℕ) (p pool : List ℕ) (at octets room : ℕ) where
  step_stays : {d : Outcome} → Stepped s i p octets room d
      → ((k : ℕ) → k < (lane_after (lane_at s i) d).octets → place (marks_after s.marks i (lane_at s i) d) i k ≡ at → ⊥)
      → get_or (pool_after s.marks i (lane_at s i) d (user_of s i p) pool) at 0 ≡ get_or pool at 0
  unfolding pool_after marks_after lane_after
  step_stays (refuses n h) other = refl
  step_stays (unread u) other = refl
  step_stays again other = refl
  step_stays (strays a f) other = refl
  step_stays (ends a on n f e h) other = refl
  step_stays (holds a on n f e) other = stored_elsewhere _ i pool (cond on (lane_at s i).octets 0) (user_of s i p) at (λ j low high. other j (omega arith))

-- the lane after a packet is the step's
lane_after_lem : (x : Handed) → Sound x.state → length x.pool ≡ 16384 → (i : ℕ) (p out : List ℕ) → lane_at (after x (takes i p out)).state i ≡ lane_after (lane_at x.state i) (step_for x i p out)
lane_after_lem x k size i p out = ap (λ (v : Slot). v.lane) (took_slot x k size i p out)

pub octets_stay : OctetsStay
unfolding after taking taking_pool
octets_stay start calls (opens i settings) at other = refl
octets_stay start calls (closes i out) at other = refl
octets_stay start calls (takes i p out) at other =
    let x : Handed = run ours (begun start) calls in
    let k = reached_sound start calls in
    step_stays x.state i p x.pool at (length x.pool) (length out) (stepped x.state k i p (length x.pool) (length out))
    (λ j low. other j (rw (lane_after_lem x k (run_size (begun start) calls ∙ start.whole) i p out) low))

-- ---- a packet that needs a block, and has the room
module _ (ls : List Lane) (i : ℕ) (p : List ℕ) (room : ℕ) where
  abbrev own : Lane
  own = get_or ls i closed

  -- the step holds n octets
  abbrev HoldsThen : ℕ → Outcome → Type 0
  HoldsThen n d = (a : Added) × ((on : Bool) × (d ≡ Ok (Hold a on n)))

  fits_then : (a : Added) (on : Bool) (n : ℕ) → blocks_for n ≤ own.settings.cap → within (set ls i (holding own n)) ≡ true → HoldsThen n (settle ls i (hold_plan own.settings a on n))
  unfolding hold_plan settle
  fits_then a on n most beside = (a, (on, simp (le-ltb own.settings.cap (blocks_for n) most, beside)))

  holds_then : own.opened ≡ true → fault (terms_of own) p ≡ 0 → repeats own (count p) ≡ false → own.packets < most_packets
      → would_hold own p ≤ own.settings.cap → within (set ls i (holding own (would_group own p))) ≡ true → 0 < would_hold own p → HoldsThen (would_group own p) (settle ls i (packet_plan own p room))
  unfolding packet_plan accepted_plan grouping_plan would_group
  holds_then open' sound new few most beside some =
      let user : ℕ = user_octets own.settings p in
      simp (open', eq-eqb (refusal p) 0 (before.accepted (terms_of own) p sound).read, sound, new, lt-leb most_packets own.packets few)
      (either (eqb (flags p) 1)
      (λ f. let z = eqb-true (flags p) 1 f in simp z (fits_then _ false user (simp z at most) (simp z at beside)))
      (λ f. either (eqb (flags p) 0 && goes_on own (flags p) (count p))
      (λ h. let g = both (eqb (flags p) 0) (goes_on own (flags p) (count p)) h in
      let z = eqb-true (flags p) 0 g.0 in
      let on : goes_on own 0 (count p) ≡ true = rw z at g.1 in
      simp (z, on) (fits_then _ true (own.octets + user) (simp (z, on) at most) (simp (z, on) at beside)))
      (λ h. absurd (omega (arith, simp (f, h) at some, none_held)))))

-- ---- a freed block is used again
used : (x : Handed) → Sound x.state → length x.pool ≡ 16384 → (b j : ℕ) (p out : List ℕ) → b < 64 → get_or (marks_for x.state j p) b 0 ≡ free
    → NothingAmiss (lane_at x.state j) p out → repeats (lane_at x.state j) (count p) ≡ false → HasRoom x.state.lanes j p
    → place_for x.state j p b < would_hold (lane_at x.state j) p → mark_at (after x (takes j p out)).state b ≡ mark j (place_for x.state j p b)
unfolding lane_after
used x k size b j p out block block_is_free (open', sound, few, fits) new (most, beside) due =
    let s : State = x.state in
    let w : ℕ = would_hold (lane_at s j) p in
    let h = holds_then s.lanes j p (length out) open' sound new few most beside (omega (arith, due)) in
    let step : step_for x j p out ≡ Ok (Hold h.0 h.1.0 (would_group (lane_at s j) p)) = settled x k size j p out ∙ h.1.1 in
    let told : reply x (takes j p out) ≡ to_packet (Ok (Held h.0.missing h.0.given_up)) out = took_reply x j p out ∙ rw step in
    let holds' : held (lane_at (after x (takes j p out)).state j) ≡ w = rw (lane_after_lem x k size j p out, step) refl in
    let lowest = lowest_at x k j p out out h.0.missing h.0.given_up b block told in
    let seen : is_free (get_or (marks_for s j p) b 0) ≡ true = eq-eqb (get_or (marks_for s j p) b 0) free block_is_free in
    lowest ∙ rw holds' (simp (seen, lt-ltb (place_for s j p b) w due))

-- what is new to the rule is new to the lane
new_to_it : (past : Past) (p : List ℕ) → rule.repeats (accepted_in past) (taken_of (settings_of past) p) ≡ false → repeats (lane_from past) (count p) ≡ false
unfolding repeats
new_to_it shut p e = refl
new_to_it (since s ts) p e = repeats_same s (accepted ts) p ∙ e

pub used_again : UsedAgain ours
used_again start calls b j p out block block_is_free amiss new room due =
    let here = lane_is start calls j in (
      gets_room start calls j p out amiss room,
      used (run ours (begun start) calls) (reached_sound start calls) (run_size (begun start) calls ∙ start.whole) b j p out block block_is_free
          (rw here amiss) (rw here (new_to_it (past_of ours j start calls) p new)) (rw (lanes_are start calls) room)
          (subst (λ (l : Lane). place_for (run ours (begun start) calls).state j p b < would_hold l p) (sym here) due),
    )

-- ---- a call writes only in blocks that are then its lane's: an octet that is written lies in the group that the lane then has
pub writes_in_its_own : WritesInItsOwn ours
writes_in_its_own start calls c at other =
    let x : Handed = run ours (begun start) calls in
    let s : State = (after x c).state in
    let k : Sound s = after_sound x (reached_sound start calls) c in
    octets_stay start calls c at (λ q h e. other (subst (λ (o : ℕ). Belongs s (o / 256) (lane_of c)) e (one_block s k (lane_of c) (lane_of c) q q h h).0))
