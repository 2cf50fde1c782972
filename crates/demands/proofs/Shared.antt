-- Demand 3, of the blocks: every state that a run reaches is sound, so what holds of one sound state and of one call from there holds of the run.
use Prim.Native.Nat.{ℕ, ◌+◌, ◌/◌, ◌<◌}
use Prim.{Unit}
use mathlib.Core.Path.{◌≡◌, refl, sym, ap, ◌∙◌}
use mathlib.Core.Bool.{Bool, true, false, not, cond}
use mathlib.Core.List.{List, map}
use mathlib.Core.Logic.{inl, inr, ⊎_elim}
use native.Mathlib.Decide.{dec_lt}
use native.Mathlib.Omega.{arith}
use lib.Dec.{eqb, ltb, leb}
use lib.ListN.{length, get_or, set, length-map, get_or-eq_default}
use lib.Seq.{get_or-set_same}
use Rattle.std.specs.Prelude.{Result, Ok, Err}
use Rattle.grouping.specs.declared.Refused.{Refused}
use Rattle.octets.proofs.Order.{either}
use Rattle.packet.specs.Space.{flags}
use Rattle.packet.specs.Space as space
use Rattle.reading.specs.Reading.{refusal}
use Rattle.record.specs.Record.{most_packets}
use Rattle.marks.specs.Blocks.{mark, blocks_for, find}
use Rattle.pool.specs.Octets.{place}
use Rattle.marks.specs.Matching.{count, is_free, sum}
use Rattle.marks.proofs.Finding.{bears}
use Rattle.marks.proofs.Matched.{matched}
use Rattle.lane.specs.declared.Lane.{Lane}
use Rattle.grouping.specs.declared.Added.{Added}
use Rattle.grouping.specs.Steps.{Outcome}
use Rattle.grouping.specs.declared.Step.TheVariants as step
use Rattle.grouping.specs.declared.Plan.{Plan}
use Rattle.lane.specs.Lane.{closed, held, holding}
use Rattle.grouping.specs.Packets.{terms_of, fault, user_octets}
use Rattle.grouping.specs.Grouping.{repeats, goes_on, added_from}
use Rattle.grouping.specs.Plans.{hold_plan, unit_plan, grouping_plan, accepted_plan, packet_plan}
use Rattle.grouping.specs.Steps.{lane_after}
use Rattle.lane.proofs.Fine.{is_fine, held_most}
use Rattle.grouping.proofs.Planned.{of_either}
use Rattle.state.specs.declared.State.{State}
use Rattle.intake.specs.declared.Answer.{Answer}
use Rattle.intake.specs.declared.Answer.TheVariants.{Held}
use Rattle.state.specs.State.{lane_at, within, unsound}
use Rattle.intake.specs.Calls.{settle, packet_step}
use Rattle.intake.specs.After.{marks_after, user_of, answer_of, answered, taking}
use Rattle.demands.specs.Runs.{ours, Handed, begun, takes, to_packet, reply, after, run, lane_of}
use Rattle.calls.specs.Groups.{HeldPlace}
use Rattle.state.specs.Clauses.{mark_at}
use Rattle.demands.specs.Demand3.{Belongs, block_of, marks_for, WithinCap, NoBlockInTwo, NoneLost}
use Rattle.demands.specs.Laws.{marked, OnlyItsOwn, Freed, TakesLowest}
use Rattle.calls.proofs.Sound.{Sound, lane_fine}
use Rattle.calls.proofs.Blocks.{free_or_held}
use Rattle.calls.proofs.Marks.{kept, blocks_kept, just_its_blocks}
use Rattle.calls.proofs.Steps.{Stepped, stepped, group_grows}
use Rattle.calls.proofs.Steps as now
use Rattle.demands.proofs.Reached.{after_sound, reached_sound}
use Rattle.calls.proofs.Groups.{has_places}
use Rattle.demands.proofs.Followed.{lane_is, lanes_are}
use Rattle.demands.proofs.Moves.{grown_marked, call_moves, none_belongs, freed_released}

-- ---- No source ever holds more than its cap
pub within_cap : WithinCap ours
within_cap start calls i small =
    let s : State = (run ours (begun start) calls).state in
    let k : Sound s = reached_sound start calls in
    rw (← lane_is start calls i) ((just_its_blocks s k i small).0, (is_fine (lane_at s i) (lane_fine s k i)).within)

-- ---- No block belongs to two sources
-- a lane with octets is one of the eight
has_octets : (s : State) → Sound s → (i q : ℕ) → q < (lane_at s i).octets → i < 8
has_octets s k i q h =
    elim (dec_lt i 8) [
      | yes small ↦ small
      | no big ↦ absurd (omega (arith, h, ap (λ (l : Lane). l.octets) (get_or-eq_default s.lanes closed {n = i} (omega (arith, k.shape.0, big)))))
    ]

-- an octet lies in the block that bears its place
octet_bears : (s : State) → Sound s → (i q : ℕ) → q < (lane_at s i).octets → (block_of s i q < 64) × (mark_at s (block_of s i q) ≡ mark i (q / 256)) × (q / 256 < 64)
unfolding place
octet_bears s k i q h =
    let m : ℕ = mark i (q / 256) in
    let there = has_places s k i (has_octets s k i q h) q h in
    let block : block_of s i q ≡ find s.marks m = omega arith in
    (omega (arith, k.shape.1), rw block (bears s.marks m there), omega (arith, (held_most (lane_at s i) (lane_fine s k i)).1))

pub one_block : (s : State) → Sound s → (i j q r : ℕ) → q < (lane_at s i).octets → r < (lane_at s j).octets
    → Belongs s (block_of s i q) i × (block_of s i q ≡ block_of s j r → (i ≡ j) × (q / 256 ≡ r / 256))
one_block s k i j q r hq hr =
    let here = octet_bears s k i q hq in
    let there = octet_bears s k j r hr in (
      (here.0, has_octets s k i q hq, omega (arith, here.1, here.2)),
      λ e. let same : mark_at s (block_of s i q) ≡ mark_at s (block_of s j r) = ap (mark_at s) e in (omega (arith, same, here.1, here.2, there.1, there.2), omega (arith, same, here.1, here.2, there.1, there.2)),
    )

pub no_block_in_two : NoBlockInTwo ours
no_block_in_two start calls i j q r = rw (← lane_is start calls i, ← lane_is start calls j) (one_block (run ours (begun start) calls).state (reached_sound start calls) i j q r)

-- ---- no sequence of calls loses a block
pub none_lost : NoneLost ours
none_lost start calls =
    let s : State = (run ours (begun start) calls).state in
    let k : Sound s = reached_sound start calls in (
      λ b h. ⊎_elim inl (λ (p : HeldPlace s (mark_at s b)). inr (p.lane, (h, p.small, omega (arith, p.bears, p.holds, (held_most (lane_at s p.lane) (lane_fine s k p.lane)).0)))) (free_or_held s k b h),
      ap (λ (ls : List Lane). count is_free s.marks + sum (map held ls)) (sym (lanes_are start calls)) ∙ (matched s.marks (map held s.lanes) k.shape.1 (length-map s.lanes held ∙ k.shape.0) k.marks).whole,
    )

-- ---- a call moves blocks only between the free ones and its lane's
pub only_its_own : OnlyItsOwn
only_its_own start calls c b block = call_moves (run ours (begun start) calls) (reached_sound start calls) c b block

-- a block stays its lane's only where the lane has a group
pub freed : Freed
freed start calls c b its shut =
    let x : Handed = run ours (begun start) calls in
    let next : Sound (after x c).state = after_sound x (reached_sound start calls) c in
    ⊎_elim (λ same. none_belongs (after x c).state next (lane_of c) b (its.0, its.1, rw same its.2) shut)
    (λ moved. ⊎_elim (λ e. e) (λ still. none_belongs (after x c).state next (lane_of c) b still shut) moved.1)
    (only_its_own start calls c b its.0)

-- what was answered is what the step tells
pub step_told : (x : Handed) (i : ℕ) (p out left : List ℕ) (a : Result Answer Refused) → reply x (takes i p out) ≡ to_packet a left
    → answer_of (packet_step x.state i p (length x.pool) (length out)) ≡ a
unfolding reply taking
step_told x i p out left a e = cc

-- ---- flags 1 begin a group and flags 0 go on with one: a step that holds goes on unless the flags are 1
abbrev Flagged : List ℕ → Outcome → Type 0
Flagged p (Err r) = Unit {0}
Flagged p (Ok step.Repeat) = Unit {0}
Flagged p (Ok (step.Stray a)) = Unit {0}
Flagged p (Ok (step.Hold a on n)) = on ≡ not (eqb (flags p) 1)
Flagged p (Ok (step.Unit a on n)) = Unit {0}

module _ (ls : List Lane) (i : ℕ) (l : Lane) (p : List ℕ) (room : ℕ) where
  abbrev Says : Result Plan Refused → Type 0
  Says d = Flagged p (settle ls i d)

  to_hold : (a : Added) (on : Bool) (n : ℕ) → on ≡ not (eqb (flags p) 1) → Says (hold_plan l.settings a on n)
  unfolding hold_plan settle
  to_hold a on n e =
      of_either Says (ltb l.settings.cap (blocks_for n)) (λ f. tt)
      (λ f. of_either (Flagged p) (within (set ls i (holding (get_or ls i closed) n))) (λ g. e) (λ g. tt))

  to_end : (a : Added) (on : Bool) (n : ℕ) → Says (unit_plan room a on n)
  unfolding unit_plan settle
  to_end a on n = of_either Says (ltb room n) (λ f. tt) (λ f. tt)

  plan_flagged : Says (packet_plan l p room)
  unfolding packet_plan accepted_plan grouping_plan settle
  plan_flagged =
      let user : ℕ = user_octets l.settings p in
      let a : Added = added_from l (flags p) (space.count p) in
      of_either Says (not l.opened) (λ e. tt)
      (λ e. of_either Says (not (eqb (refusal p) 0)) (λ e. tt)
      (λ e. of_either Says (not (eqb (fault (terms_of l) p) 0)) (λ e. tt)
      (λ e. of_either Says (repeats l (space.count p)) (λ e. tt)
      (λ e. of_either Says (leb most_packets l.packets) (λ e. tt)
      (λ e. of_either Says (eqb (flags p) 3) (λ e. to_end a false user)
      (λ e. of_either Says (eqb (flags p) 1) (λ f. to_hold a false user (simp f))
      (λ f. of_either Says (not (goes_on l (flags p) (space.count p))) (λ e. tt)
      (λ e. of_either Says (eqb (flags p) 0) (λ e. to_hold a true (l.octets + user) (simp f)) (λ e. to_end a true (l.octets + user))))))))))

step_flagged : (s : State) (i : ℕ) (p : List ℕ) (octets room : ℕ) → Flagged p (packet_step s i p octets room)
unfolding packet_step
step_flagged s i p octets room = of_either (Flagged p) (unsound s octets) (λ e. tt) (λ e. plan_flagged s.lanes i (lane_at s i) p room)

-- ---- and gets the lowest-numbered free blocks
module _ (s : State) (k : Sound s) (i : ℕ) (p : List ℕ) where
  -- what is kept by the flags is what the step keeps
  kept_by_flags : i < 8 → (on : Bool) → on ≡ not (eqb (flags p) 1)
      → (marks_for s i p ≡ kept s.marks i (lane_at s i) on) × (cond (eqb (flags p) 1) 0 (held (lane_at s i)) ≡ blocks_kept s.marks i (lane_at s i) on)
  kept_by_flags small on e =
      either (eqb (flags p) 1)
      (λ f. let off : on ≡ false = simp f at e in simp (f, off) (freed_released s k i small, refl))
      (λ f. let goes : on ≡ true = simp f at e in simp (f, goes) (refl, refl))

  module _ (octets room b : ℕ) (block : b < 64) where
    abbrev Lowest : Outcome → Type 0
    Lowest d =
        get_or (answered s i d).state.marks b 0
        ≡ marked s i p b (held (lane_at (answered s i d).state i))

    held_lowest : {d : Outcome} {m : ℕ} {givenUp : Bool} → Stepped s i p octets room d → Flagged p d → answer_of d ≡ Ok (Held m givenUp) → Lowest d
    unfolding marks_after lane_after
    held_lowest (now.refuses n h) flagged told = cc
    held_lowest (now.unread u) flagged told = cc
    held_lowest now.repeats flagged told = cc
    held_lowest (now.strays a f) flagged told = cc
    held_lowest (now.ends a on n f e h) flagged told = cc
    held_lowest (now.holds a on n f e) flagged told =
        let g = group_grows s k i a on n (length (user_of s i p)) f e in
        let same = kept_by_flags f.small on flagged in
        let next : Lane = lane_after (lane_at s i) (Ok (step.Hold a on n)) in
        let here : get_or (set s.lanes i next) i closed ≡ next = get_or-set_same s.lanes i next closed (omega (arith, k.shape.0, f.small)) in
        rw (same.0, same.1, here) (grown_marked s k i b block f.small on n g.0 g.1)

pub lowest_at : (x : Handed) → Sound x.state → (i : ℕ) (p out left : List ℕ) (m : ℕ) (givenUp : Bool) (b : ℕ) → b < 64 → reply x (takes i p out) ≡ to_packet (Ok (Held m givenUp)) left
    → mark_at (after x (takes i p out)).state b ≡ marked x.state i p b (held (lane_at (after x (takes i p out)).state i))
unfolding after taking
lowest_at x k i p out left m givenUp b block e =
    held_lowest x.state k i p (length x.pool) (length out) b block (stepped x.state k i p (length x.pool) (length out))
    (step_flagged x.state i p (length x.pool) (length out)) (step_told x i p out left (Ok (Held m givenUp)) e)

pub takes_lowest : TakesLowest
takes_lowest start calls i p out left m givenUp b block e = lowest_at (run ours (begun start) calls) (reached_sound start calls) i p out left m givenUp b block e
