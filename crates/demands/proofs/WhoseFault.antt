-- The causes of 19 and 27 in their own words are those of a run's lanes (calls: `Room`). Beside closed lanes the others' sum is 0, so there is room up to the cap,
-- and what is planned for a packet that is to be held is done. A closing leaves the pasts of all other lanes, so all but one can be closed, one after another.
use Prim.Native.Nat.{ℕ, zero, suc, ◌+◌, ◌≤◌, ◌<◌}
use mathlib.Core.Path.{◌≡◌, refl, sym, ap, subst, ◌∙◌}
use mathlib.Core.Bool.{Bool, true, false, cond, true≢false}
use mathlib.Core.List.{List, [], ◌∷◌, ◌++◌, append_assoc, append-nil}
use mathlib.Core.Logic.{◌⊎◌, inl, inr}
use native.Mathlib.Omega.{arith}
use borrow.Author.Tests.{eqb-true, eqb-false, eq-eqb, ne_eqb, lt-leb}
use lib.Dec.{eqb}
use lib.ListN.{length, get_or, replicate, length-replicate}
use Rattle.std.specs.Prelude.{Ok}
use Rattle.octets.specs.Order.{first, numbers_of}
use Rattle.octets.proofs.Order.{either}
use Rattle.packet.specs.Space.{flags, count}
use Rattle.reading.specs.Reading.{refusal}
use Rattle.record.specs.Record.{most_packets, record_size}
use Rattle.lane.specs.declared.Lane.{Lane}
use Rattle.lane.specs.Lane.{closed, holding}
use Rattle.lane.proofs.Fine.{is_fine}
use Rattle.grouping.specs.declared.Added.{Added}
use Rattle.grouping.specs.declared.Step.TheVariants.{Hold}
use Rattle.grouping.specs.Packets.{terms_of, user_octets}
use Rattle.grouping.specs.Grouping.{added_from}
use Rattle.grouping.proofs.Accepted.{accepted}
use Rattle.grouping.specs.Plans.{grouping_plan, accepted_plan, packet_plan}
use Rattle.state.specs.State.{lane_at, within}
use Rattle.state.proofs.Within.{need_open, alone_fits, none_beside}
use Rattle.intake.specs.Calls.{settle}
use Rattle.calls.specs.Order.{would_group, would_hold, lanes_with, packet_causes}
use Rattle.calls.specs.Room.{NothingBefore, OverCap, ToHold}
use Rattle.calls.proofs.Room.{why, cap_exactly, sum_exactly, held_only}
use Rattle.calls.proofs.Sound.{Sound, lane_fine, opened_small}
use Rattle.demands.specs.Runs.{ours, Handed, Start, begun, Call, takes, closes, number_in, is_refused, reply, run, own}
use Rattle.demands.specs.Past.{Past, shut, since, lane_from, lanes_from, past_from, past_of}
use Rattle.demands.specs.WhoseFault.{packet_number, CapDecides, NoOtherDecides, SumDecides, OthersClosed, IsHeld, HeldIfOthersClosed, closings, OthersCanClose, Never27BesideClosed, Never27Alone, WhoseFault}
use Rattle.demands.proofs.Pasts.{past_more, own_only}
use Rattle.demands.proofs.Reached.{reached_sound}
use Rattle.demands.proofs.View.{step_for, took_reply}
use Rattle.demands.proofs.Followed.{lane_is, lanes_are, number_is}
use Rattle.demands.proofs.Unrefused.{held_if_room, planned, closes_if_fine}

-- ---- a packet that is to be held is, where its lane's cap and the others leave the room
module _ (ls : List Lane) (i : ℕ) (p : List ℕ) (room : ℕ) where
  abbrev mine : Lane
  mine = get_or ls i closed

  abbrev user : ℕ
  user = user_octets mine.settings p

  abbrev added : Added
  added = added_from mine (flags p) (count p)

  held_step : NothingBefore mine p → ToHold mine p → would_hold mine p ≤ mine.settings.cap → within (lanes_with ls i p) ≡ true
      → (on : Bool) × (n : ℕ) × (settle ls i (packet_plan mine p room) ≡ Ok (Hold added on n))
  unfolding packet_plan accepted_plan grouping_plan would_group
  held_step (o, f, r, k) (inl is1) few fits =
      let read = eq-eqb (refusal p) 0 (accepted (terms_of mine) p f).read in
      let no3 = ne_eqb (flags p) 3 (λ z. omega arith) in
      let yes1 = eq-eqb (flags p) 1 is1 in
      (false, user, simp (o, read, f, r, lt-leb most_packets mine.packets k, no3, yes1) (held_if_room ls i p room added false user (simp yes1 at few) (simp yes1 at fits)))
  held_step (o, f, r, k) (inr (is0, on)) few fits =
      let read = eq-eqb (refusal p) 0 (accepted (terms_of mine) p f).read in
      let no3 = ne_eqb (flags p) 3 (λ z. omega arith) in
      let no1 = ne_eqb (flags p) 1 (λ z. omega arith) in
      let yes0 = eq-eqb (flags p) 0 is0 in (
        true,
        mine.octets + user,
        simp (o, read, f, r, lt-leb most_packets mine.packets k, no3, no1, on, yes0)
            (held_if_room ls i p room added true (mine.octets + user) (simp (no1, yes0, on) at few) (simp (no1, yes0, on) at fits)),
      )

-- ---- one packet after a run
module _ (start : Start) (calls : List Call) where
  abbrev x : Handed
  x = run ours (begun start) calls

  abbrev all : List Lane
  all = x.state.lanes

  reached : Sound x.state
  reached = reached_sound start calls

  module _ (i : ℕ) (packet out : List ℕ) where
    abbrev l : Lane
    l = lane_at x.state i

    number_at : packet_number x i packet out ≡ first 0 (numbers_of (packet_causes all i packet (length out)))
    number_at = number_is start calls (takes i packet out) ∙ rw (lanes_are start calls)

    -- of a packet that is refused 27: nothing before 19 refuses it, it is to be held, and its lane's cap leaves the room
    refused_27 : packet_number x i packet out ≡ 27 → NothingBefore l packet × ToHold l packet × (would_hold l packet ≤ l.settings.cap)
    refused_27 z =
        let given = sym number_at ∙ z in
        let (asks, few, full) = (why all i packet (length out)).1 given in
        (asks, held_only x.state reached i packet (length out) 27 (inr refl) given, few)

    -- beside closed lanes it has the room
    module _ (alone : OthersClosed i (λ j. past_of ours j start calls)) where
      room_alone : l.opened ≡ true → would_hold l packet ≤ l.settings.cap → within (lanes_with all i packet) ≡ true
      room_alone o few =
          let law = (is_fine l (lane_fine x.state reached i)).legal o in
          let lane : Lane = holding l (would_group l packet) in
          alone_fits all i
          (none_beside all i (λ j h d. lane_is start calls j ∙ ap lane_from (alone j (omega (arith, reached.shape.0)) d)))
          (omega (arith, opened_small x.state reached i o, reached.shape.0)) lane (omega (arith, need_open lane o, law.share, law.cap))

      is_held : NothingBefore l packet → ToHold l packet → would_hold l packet ≤ l.settings.cap → IsHeld x i packet out
      is_held asks hold few =
          let (on, n, done) = held_step all i packet (length out) asks hold few (room_alone asks.0 few) in
          let step : step_for x i packet out ≡ Ok (Hold (added all i packet (length out)) on n) = planned start calls i packet out ∙ done in
          ((added all i packet (length out)).missing, (added all i packet (length out)).given_up, took_reply x i packet out ∙ rw step)

-- ---- 19
cap_decides : CapDecides
cap_decides start calls i packet out = rw (number_at start calls i packet out, ← lane_is start calls i) (cap_exactly (all start calls) i packet (length out))

no_other_decides : NoOtherDecides
no_other_decides start calls start' calls' i packet out out' same =
    let here = cap_decides start calls i packet out in
    let there = cap_decides start' calls' i packet out' in
    (λ z. there.1 (subst (λ (l : Lane). OverCap l packet) same (here.0 z)), λ z. here.1 (subst (λ (l : Lane). OverCap l packet) (sym same) (there.0 z)))

-- ---- 27
sum_decides : SumDecides
sum_decides start calls i packet out =
    rw (number_is start calls (takes i packet out)) (sum_exactly (lanes_from (λ j. past_of ours j start calls)) i packet (length out) refl)

held_if_others_closed : HeldIfOthersClosed
held_if_others_closed start calls start' calls' i packet out out' same alone z =
    let lanes-same = lane_is start calls i ∙ same ∙ sym (lane_is start' calls' i) in
    let (asks, hold, few) = subst (λ (l : Lane). NothingBefore l packet × ToHold l packet × (would_hold l packet ≤ l.settings.cap)) lanes-same (refused_27 start calls i packet out z) in
    is_held start' calls' i packet out' alone asks hold few

never_27_beside_closed : Never27BesideClosed
never_27_beside_closed start calls i packet out alone z =
    let (missing, givenUp, told) = held_if_others_closed start calls start calls i packet out out refl alone z in
    omega (arith, sym z ∙ ap number_in told)

-- ---- closing the others
-- the closing of an open lane is not refused, so a lane is closed after it
closed_after : (past : Past) (refused : Bool) → ((lane_from past).opened ≡ true → refused ≡ false) → cond refused past shut ≡ shut
closed_after shut true fine' = refl
closed_after shut false fine' = refl
closed_after (since s ps) true fine' = absurd (true≢false (fine' refl))
closed_after (since s ps) false fine' = refl

module _ (start : Start) (calls : List Call) (n : ℕ) where
  abbrev its_closing : Call
  its_closing = closes n (replicate record_size 0)

  abbrev more : List Call
  more = calls ++ (its_closing ∷ [])

  shuts : past_of ours n start more ≡ shut
  unfolding past_from
  shuts =
      past_more ours n shut (begun start) calls its_closing
      ∙ simp (eq-eqb n n refl) (closed_after (past_of ours n start calls) (is_refused (reply (run ours (begun start) calls) its_closing))
      (λ o. closes_if_fine start calls n (replicate record_size 0) o (omega (arith, length-replicate {A = ℕ} record_size 0))))

  stays : (j : ℕ) → (j ≡ n → ⊥) → past_of ours j start more ≡ past_of ours j start calls
  unfolding past_from
  stays j other = past_more ours j shut (begun start) calls its_closing ∙ simp (ne_eqb n j (λ z. other (sym z)))

-- ---- the closings of the lanes below n but for lane i
module _ (start : Start) (i : ℕ) where
  abbrev past_after : List Call → ℕ → Past
  past_after calls j = past_of ours j start calls

  -- what comes after the calls leaves lane i, closes the others below n, and leaves closed what is
  abbrev Closes : ℕ → List Call → List Call → Type 0
  Closes n calls then = (past_after then i ≡ past_after calls i) × ((j : ℕ) → (j ≡ i → ⊥) → (j < n) ⊎ (past_after calls j ≡ shut) → past_after then j ≡ shut)

  nothing_yet : (calls : List Call) → Closes 0 calls calls
  nothing_yet calls = (refl, left)
    where
      left : (j : ℕ) → (j ≡ i → ⊥) → (j < 0) ⊎ (past_after calls j ≡ shut) → past_after calls j ≡ shut
      left j other (inl h) = absurd (omega arith)
      left j other (inr e) = e

  passed_over : (n : ℕ) (calls then : List Call) → n ≡ i → Closes n calls then → Closes (suc n) calls then
  passed_over n calls then e h = (h.0, left)
    where
      left : (j : ℕ) → (j ≡ i → ⊥) → (j < suc n) ⊎ (past_after calls j ≡ shut) → past_after then j ≡ shut
      left j other (inl k) = let below : j ≡ n → ⊥ = λ z. other (z ∙ e) in h.1 j other (inl (omega arith))
      left j other (inr k) = h.1 j other (inr k)

  one_more : (n : ℕ) (calls then : List Call) → (n ≡ i → ⊥) → Closes n (more start calls n) then → Closes (suc n) calls then
  one_more n calls then not-i h = (h.0 ∙ stays start calls n i (λ z. not-i (sym z)), λ j other k. h.1 j other (before j k))
    where
      before : (j : ℕ) → (j < suc n) ⊎ (past_after calls j ≡ shut) → (j < n) ⊎ (past_after (more start calls n) j ≡ shut)
      before j k = either (eqb j n)
          (λ e. inr (ap (past_after (more start calls n)) (eqb-true j n e) ∙ shuts start calls n))
          (λ e. of_another j (eqb-false j n e) k)
        where
          of_another : (j : ℕ) → (j ≡ n → ⊥) → (j < suc n) ⊎ (past_after calls j ≡ shut) → (j < n) ⊎ (past_after (more start calls n) j ≡ shut)
          of_another j other (inl k) = inl (omega arith)
          of_another j other (inr k) = inr (stays start calls n j other ∙ k)

  closed_below : (n : ℕ) (calls : List Call) → Closes n calls (calls ++ closings i n)
  unfolding closings
  closed_below zero calls = rw append-nil (nothing_yet calls)
  closed_below (suc n) calls =
      either (eqb n i) (λ e. simp e (passed_over n calls (calls ++ closings i n) (eqb-true n i e) (closed_below n calls)))
      (λ e. simp e (one_more n calls (calls ++ (its_closing start calls n ∷ closings i n)) (eqb-false n i e)
      (subst (Closes n (more start calls n)) (append_assoc calls (its_closing start calls n ∷ []) (closings i n)) (closed_below n (more start calls n)))))

others_can_close : OthersCanClose
others_can_close start calls i = let all8 = closed_below start i 8 calls in (all8.0, λ j h d. all8.1 j d (inl h))

never_27_alone : Never27Alone
never_27_alone start calls i packet out = never_27_beside_closed start (own i calls) i packet out (λ j h d. own_only ours i j d calls (begun start))

pub whose_fault : WhoseFault
whose_fault = record {
  cap_decides = cap_decides;
  no_other_decides = no_other_decides;
  sum_decides = sum_decides;
  held_if_others_closed = held_if_others_closed;
  others_can_close = others_can_close;
  never_27_beside_closed = never_27_beside_closed;
  never_27_alone = never_27_alone;
}
