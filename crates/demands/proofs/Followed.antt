-- Along every run a lane with its group is the one that the grouping rule makes of its past, and each reply is the rule's word or a refusal for its cause: what
-- is known of one call, carried through the run.
use Prim.Native.Nat.{ℕ, zero, suc, ◌≤◌, ◌<◌}
use mathlib.Core.Path.{◌≡◌, refl, sym, ap, ap₂, subst, ◌∙◌}
use mathlib.Core.Bool.{Bool, cond}
use mathlib.Core.List.{List, [], ◌∷◌}
use mathlib.Core.Option.{Option, none, some}
use native.Mathlib.Omega.{arith}
use borrow.Author.Tests.{eqb-true, eqb-false, ne_eqb, le-leb, lt-leb}
use lib.Dec.{eqb}
use lib.ListN.{length, get_or}
use Rattle.std.specs.Prelude.{Ok, Err}
use Rattle.refusal.specs.Refusal.{number, named}
use Rattle.refusal.specs.declared.Refusal.{Refusal}
use Rattle.refusal.proofs.Named.{of_its_number}
use Rattle.refusal.proofs.Numbers.{of_its_name}
use Rattle.grouping.specs.declared.Refused.TheVariants.{Unread, Untaken}
use Rattle.grouping.specs.Plans as plans
use Rattle.octets.specs.Octets.{one}
use Rattle.octets.specs.Order.{first, numbers_of}
use Rattle.octets.specs.Output.{leading, unless_refused, put, output_after}
use Rattle.octets.proofs.Order.{either}
use Rattle.packet.specs.Space.{counts}
use Rattle.reading.specs.Reading.{refusal, place}
use Rattle.reading.proofs.Exactly.{refusal_most}
use Rattle.record.specs.Record.{record_octets}
use Rattle.lane.specs.declared.Settings.{Settings}
use Rattle.lane.specs.declared.Lane.{Lane}
use Rattle.lane.specs.Lane.{closed, credit_of}
use Rattle.lane.proofs.Fine.{is_fine}
use Rattle.grouping.specs.Steps.{Outcome}
use Rattle.grouping.specs.declared.Step.TheVariants as step
use Rattle.grouping.specs.Packets.{user_data}
use Rattle.grouping.specs.Plans.{packet_plan}
use Rattle.grouping.specs.Steps.{lane_after}
use Rattle.state.specs.State.{lane_at}
use Rattle.intake.specs.Calls.{opened_with, opening_refusal, closing_refusal, settle}
use Rattle.intake.specs.After.{opening, closing, closing_out, answer_of, taking}
use Rattle.intake.specs.Told.{told, unit_kind}
use Rattle.rule.specs.Rule.{Taken, taken_of, accepted, present, octets_in, missing, group, unit, gives_up, answer_with, answer_to, with_unit, endings, units, missing_in_all, broken, last_count}
use Rattle.rule.proofs.Slots.{Slot, without, slot_after, out_from}
use Rattle.rule.proofs.Ruled as ruled
use Rattle.rule.proofs.Ruled.{units_more, planned}
use Rattle.calls.specs.Order.{refusal_of}
use Rattle.demands.specs.Runs.{ours, Handed, Start, begun, Call, opens, takes, closes, Reply, to_opening, to_packet, to_closing, number_in, reply, after, run, lane_of, names}
use Rattle.demands.specs.Past.{Past, shut, since, accepted_in, lane_from, lanes_from, later, past_from, past_of}
use Rattle.demands.specs.Demand2.{causes, refused_with, reply_by}
use Rattle.demands.specs.Demand2 as by
use Rattle.demands.specs.Laws.{kind_of, units_told_after, units_told_from}
use Rattle.calls.proofs.Sound.{Sound, not_unsound, fresh, lane_fine}
use Rattle.calls.proofs.Order.{ordered}
use Rattle.demands.proofs.Reached.{after_sound}
use Rattle.demands.proofs.View.{slot_in, step_for, after_size, took_reply, settled, took_slot, opened_slot, closed_slot, other_slot}
use Rattle.demands.proofs.Alone.{begun_slot}

-- a lane with its group, by its past
abbrev pub slot_from : Past → Slot
slot_from past = record { lane = lane_from past; group = octets_in (group (accepted_in past)) }

-- after a call that was replied r the lane is v: it is its past's, the reply is the rule's unless it refuses, and how often Unit was answered since the opening
-- is how many packets ended one
pub record Follows (past : Past) (c : Call) (v : Slot) (r : Reply) : Type 0 where
  pub slot : v ≡ slot_from (later past c r)
  pub word : r ≡ cond (eqb (number_in r) 0) (by.ruled past c) (refused_with (number_in r) c)
  pub told : units_told_after (units (accepted_in past)) c r ≡ units (accepted_in (later past c r))

-- ---- an opening and a closing of the past's lane, by their refusals
module _ (past : Past) (i refusal : ℕ) where
  opening_follows : (settings : Settings) → Follows past (opens i settings) (unless_refused refusal (without (opened_with settings)) (slot_from past)) (to_opening refusal)
  unfolding accepted group endings missing_in_all broken last_count
  opening_follows settings =
      either (eqb refusal 0)
      (λ e. let z : refusal ≡ 0 = eqb-true refusal 0 e in rw z (record { slot = refl; word = refl; told = refl }))
      (λ e. record { slot = simp e; word = simp e; told = simp e })

  closing_follows : (out : List ℕ)
      → Follows past (closes i out) (unless_refused refusal (without closed) (slot_from past)) (to_closing refusal (output_after refusal (record_octets (credit_of (lane_from past))) out))
  unfolding output_after group endings missing_in_all broken one
  closing_follows out =
      either (eqb refusal 0)
      (λ e. let z : refusal ≡ 0 = eqb-true refusal 0 e in rw z (record { slot = refl; word = same past; told = refl }))
      (λ e. record { slot = simp e; word = simp e; told = simp e })
    where
      same : (past : Past) → to_closing 0 (put out 0 (record_octets (credit_of (lane_from past)))) ≡ by.ruled past (closes i out)
      same shut = refl
      same (since s ts) = refl

-- ---- a packet
-- what the rule's word tells: no refusal, and Unit where it makes a unit
word_tells : (u g : Option (List ℕ)) (m : ℕ) (givenUp : Bool) → (leading (told (Ok (answer_with u g m givenUp))) ≡ 0) × (eqb (kind_of (Ok (answer_with u g m givenUp))) unit_kind ≡ present u)
word_tells (some octets) g m givenUp = (refl, refl)
word_tells none (some octets) m givenUp = (refl, refl)
word_tells none none m givenUp = (refl, refl)

-- what is replied after the step d
abbrev reply_after : Past → List ℕ → List ℕ → Outcome → Reply
reply_after past p out d = to_packet (answer_of d) (out_from (octets_in (group (accepted_in past))) (user_data (lane_from past).settings p) d out)

abbrev Steps : Past → ℕ → List ℕ → List ℕ → Outcome → Type 0
Steps past i p out d = Follows past (takes i p out) (slot_after (slot_from past) p d) (reply_after past p out d)

refused_follows : (past : Past) (i : ℕ) (p out : List ℕ) (r : Refusal) → 8 ≤ number r → Steps past i p out (Err (Untaken r))
unfolding lane_after one
refused_follows past i p out r high =
    let e = ne_eqb (number r) 0 (λ z. omega arith) in
    record { slot = simp e; word = simp (e, lt-leb (number r) 7 (omega arith), of_its_number r); told = simp e (omega arith) }

-- the reader's number is one of 1 to 7, and its place the one that belongs to it
unread_follows : (past : Past) (i : ℕ) (p out : List ℕ) → (refusal p ≡ 0 → ⊥) → Steps past i p out (Err (Unread (plans.unread p)))
unfolding lane_after one place
unread_follows past i p out some' =
    let n = of_its_name (refusal p) (omega (arith, some')) (omega (arith, refusal_most p)) in
    let e = ne_eqb (refusal p) 0 some' in
    record { slot = simp (n, e); word = simp (n, e, le-leb (refusal p) 7 (refusal_most p)); told = simp (n, e) (omega arith) }

module _ (s : Settings) (ts : List Taken) (i : ℕ) (p out : List ℕ) where
  abbrev ps : List Taken
  ps = accepted ts

  abbrev q : Taken
  q = taken_of s p

  packet_follows : {d : Outcome} → ruled.Follows s ps p out d → Steps (since s ts) i p out d
  unfolding lane_after accepted one answer_to
  packet_follows (ruled.refuses k high) = refused_follows (since s ts) i p out k high
  packet_follows (ruled.unread some') = unread_follows (since s ts) i p out some'
  packet_follows (ruled.repeats_it e) = record { slot = simp e; word = simp e; told = simp e (omega arith) }
  packet_follows (ruled.accepts d new slot answer output) =
      let t = word_tells (unit ps q) (group (q ∷ ps)) (missing ps q) (gives_up ps q) in
      let same : reply_after (since s ts) p out d ≡ to_packet (Ok (answer_to ps q)) (with_unit out (unit ps q)) = ap₂ to_packet answer output in
      rw same
      (record {
        slot = simp (t.0, new) slot;
        word = simp (t.0, new);
        told = simp (t.0, t.1, new) (sym (units_more ps q));
      })

-- ---- a call, where the lane that it names is its past's
of_past : (past : Past) (i : ℕ) (p out : List ℕ) (ls : List Lane) → (lane_from past).last < counts → Steps past i p out (settle ls i (packet_plan (lane_from past) p (length out)))
unfolding packet_plan settle
of_past shut i p out ls few = refused_follows shut i p out (named 11) (omega arith)
of_past (since s ts) i p out ls few = packet_follows s ts i p out (planned s (accepted ts) few p out ls i)

module _ (x : Handed) (k : Sound x.state) (size : length x.pool ≡ 16384) (past : Past) where
  pub call_follows : (c : Call) → slot_in x (lane_of c) ≡ slot_from past → Follows past c (slot_in (after x c) (lane_of c)) (reply x c)
  unfolding reply opening closing closing_out
  call_follows (opens i settings) e = rw (opened_slot x k size i settings, e) (opening_follows past i (opening_refusal x.state i settings (length x.pool)) settings)
  call_follows (closes i out) e =
      rw (closed_slot x k size i out, e, ap (λ (v : Slot). v.lane) e) (closing_follows past i (closing_refusal x.state i (length x.pool) (length out)) out)
  call_follows (takes i p out) e =
      let few = (is_fine (lane_at x.state i) (lane_fine x.state k i)).last in
      rw (took_slot x k size i p out, took_reply x i p out, settled x k size i p out)
      (subst (λ (v : Slot). v.lane.last < counts → Follows past (takes i p out) (slot_after v p (settle x.state.lanes i (packet_plan v.lane p (length out))))
      (to_packet (answer_of (settle x.state.lanes i (packet_plan v.lane p (length out)))) (out_from v.group (user_data v.lane.settings p) (settle x.state.lanes i (packet_plan v.lane p (length out))) out)))
      (sym e) (of_past past i p out x.state.lanes) few)

  -- ---- it is refused exactly for the paper's causes, judged on the lanes
  step_number : (d : Outcome) → leading (told (answer_of d)) ≡ refusal_of d
  step_number (Err (Unread u)) = refl
  step_number (Err (Untaken r)) = refl
  step_number (Ok step.Repeat) = refl
  step_number (Ok (step.Stray a)) = refl
  step_number (Ok (step.Hold a on n)) = refl
  step_number (Ok (step.Unit a on n)) = refl

  pub call_number : (c : Call) → number_in (reply x c) ≡ first 0 (numbers_of (causes x.state.lanes c))
  unfolding reply opening opening_refusal closing closing_refusal taking
  call_number (opens i settings) = rw size (simp (not_unsound x.state k))
  call_number (closes i out) = rw size (simp (not_unsound x.state k))
  call_number (takes i p out) =
      step_number (step_for x i p out) ∙ ordered x.state k.shape i p (length x.pool) (length out) ∙ rw size (simp (not_unsound x.state k))

-- ---- what holds of lane i along a run: n is how often it was answered Unit since its opening
pub record At (i : ℕ) (x : Handed) (past : Past) (n : ℕ) : Type 0 where
  pub sound : Sound x.state
  pub size : length x.pool ≡ 16384
  pub slot : slot_in x i ≡ slot_from past
  pub told : n ≡ units (accepted_in past)

module _ (i : ℕ) where
  begun_at : (start : Start) → At i (begun start) shut 0
  unfolding endings group
  begun_at start = record { sound = fresh; size = start.whole; slot = begun_slot start i; told = refl }

  module _ (x : Handed) (past : Past) (n : ℕ) (h : At i x past n) (c : Call) where
    of_own : lane_of c ≡ i → At i (after x c) (later past c (reply x c)) (units_told_after n c (reply x c))
    of_own e =
        let f : Follows past c (slot_in (after x c) (lane_of c)) (reply x c) = call_follows x h.sound h.size past c (rw e h.slot) in
        record {
          sound = after_sound x h.sound c;
          size = after_size x c ∙ h.size;
          slot = subst (λ (j : ℕ). slot_in (after x c) j ≡ slot_from (later past c (reply x c))) e f.slot;
          told = rw h.told f.told;
        }

    of_another : (lane_of c ≡ i → ⊥) → At i (after x c) past n
    of_another other = record {
      sound = after_sound x h.sound c;
      size = after_size x c ∙ h.size;
      slot = other_slot x h.sound h.size c i other ∙ h.slot;
      told = h.told;
    }

    after_at : At i (after x c) (cond (names i c) (later past c (reply x c)) past) (cond (names i c) (units_told_after n c (reply x c)) n)
    after_at = either (names i c) (λ e. simp e (of_own (eqb-true _ _ e))) (λ e. simp e (of_another (eqb-false _ _ e)))

  run_at : (x : Handed) (past : Past) (n : ℕ) → At i x past n → (calls : List Call) → At i (run ours x calls) (past_from ours i past x calls) (units_told_from i n x calls)
  unfolding run past_from units_told_from
  run_at x past n h [] = h
  run_at x past n h (c ∷ calls) = run_at (after x c) _ _ (after_at x past n h c) calls

  pub reached_at : (start : Start) (calls : List Call) → At i (run ours (begun start) calls) (past_of ours i start calls) (units_told_from i 0 (begun start) calls)
  reached_at start calls = run_at (begun start) shut 0 (begun_at start) calls

-- ---- so the lanes are those of their pasts
-- a list by its elements
lanes_by : (ℕ → Lane) → ℕ → List Lane
lanes_by f zero = []
lanes_by f (suc n) = f 0 ∷ lanes_by (λ i. f (suc i)) n

listed : (ls : List Lane) → ls ≡ lanes_by (λ i. get_or ls i closed) (length ls)
unfolding lanes_by
listed [] = refl
listed (l ∷ ls) = ap (λ (rest : List Lane). l ∷ rest) (listed ls)

eight_lanes : (ls : List Lane) (past : ℕ → Past) → length ls ≡ 8 → ((i : ℕ) → get_or ls i closed ≡ lane_from (past i)) → ls ≡ lanes_from past
unfolding lanes_by
eight_lanes ls past eight same = listed ls ∙ ap (lanes_by (λ i. get_or ls i closed)) eight ∙ (λ j. lanes_by (λ i. same i j) 8)

module _ (start : Start) (calls : List Call) where
  abbrev x : Handed
  x = run ours (begun start) calls

  abbrev past : ℕ → Past
  past i = past_of ours i start calls

  pub lane_is : (i : ℕ) → lane_at x.state i ≡ lane_from (past i)
  lane_is i = ap (λ (v : Slot). v.lane) (reached_at i start calls).slot

  pub lanes_are : x.state.lanes ≡ lanes_from past
  lanes_are = eight_lanes x.state.lanes past (reached_at 0 start calls).sound.shape.0 lane_is

  pub number_is : (c : Call) → number_in (reply x c) ≡ first 0 (numbers_of (causes (lanes_from past) c))
  number_is c =
      let h = reached_at (lane_of c) start calls in
      call_number x h.sound h.size (past (lane_of c)) c ∙ ap (λ (ls : List Lane). first 0 (numbers_of (causes ls c))) lanes_are

  pub reply_is : (c : Call) → reply x c ≡ reply_by past c
  reply_is c =
      let h = reached_at (lane_of c) start calls in
      (call_follows x h.sound h.size (past (lane_of c)) c h.slot).word
      ∙ ap (λ (n : ℕ). cond (eqb n 0) (by.ruled (past (lane_of c)) c) (refused_with n c)) (number_is c)
