-- A source within its share is answered as if alone. The shared run and the run of its own calls go side by side: the lane looks the same in both, and in
-- the second no other lane is open. What is done is planned from the lane alone; where the plan asks for room, it asks for the share, and a share that
-- was promised fits in both.
use Prim.Native.Nat.{ℕ, zero, suc, ◌≤◌, ◌<◌}
use mathlib.Core.Path.{◌≡◌, refl, sym, ap, ap₂, subst, ◌∙◌}
use mathlib.Core.Bool.{true, false}
use mathlib.Core.List.{List, [], ◌∷◌}
use native.Mathlib.Omega.{arith}
use borrow.Author.Tests.{eqb-true, eqb-false, ltb-false}
use lib.Dec.{ltb}
use lib.ListN.{length, get_or, set, replicate, take}
use Rattle.octets.specs.Output.{unless_refused, output_after}
use Rattle.octets.proofs.Order.{either}
use Rattle.record.specs.Record.{record_octets}
use Rattle.marks.specs.Blocks.{blocks_for}
use Rattle.pool.specs.Octets.{gathered}
use Rattle.lane.specs.declared.Settings.{Settings}
use Rattle.lane.specs.declared.Lane.{Lane}
use Rattle.grouping.specs.Steps.{Outcome}
use Rattle.grouping.specs.declared.Step.TheVariants.{Hold}
use Rattle.grouping.specs.declared.Plan.{Plan}
use Rattle.grouping.specs.declared.Refused.{Refused}
use Rattle.std.specs.Prelude.{Result, Ok}
use Rattle.lane.specs.Lane.{closed, illegal, credit_of, holding}
use Rattle.grouping.specs.Packets.{user_data}
use Rattle.grouping.specs.Plans.{packet_plan}
use Rattle.grouping.specs.Steps.{lane_after}
use Rattle.lane.proofs.Fine.{is_fine, is_legal, none_held}
use Rattle.grouping.proofs.Planned.{Planned, planned, refuses, unread, repeats, strays, ends, holds}
use Rattle.state.specs.declared.State.{State}
use Rattle.state.specs.State.{fresh_state, lane_at, within}
use Rattle.state.proofs.Soundness.{opened_small}
use Rattle.state.proofs.Within.{others, need_open, others_same, share_fits, alone_fits, none_beside}
use Rattle.intake.specs.Calls.{opened_with, opening_refusal, closing_refusal, settle}
use Rattle.intake.specs.After.{opening, closing, closing_out, answer_of, taking}
use Rattle.demands.specs.Runs.{ours, Handed, Start, begun, Call, opens, takes, closes, Reply, to_opening, to_packet, reply, after, run, replies, lane_of, names, own, replies_to}
use Rattle.demands.specs.Runs as runs
use Rattle.demands.specs.Demand3.{InShare}
use Rattle.calls.proofs.Sound.{Sound, not_unsound, fresh, lane_fine, unless}
use Rattle.demands.proofs.Reached.{after_sound}
use Rattle.rule.proofs.Slots.{Slot, slot_after, out_from, without}
use Rattle.demands.proofs.View.{slot_in, step_for, after_size, settled, took_reply, took_slot, opened_slot, closed_slot, other_slot}

-- the lane that the state has stays in its share along a run
abbrev pub LaneInShare : ℕ → Handed → List Call → Type 0
LaneInShare i x calls = (k : ℕ) → InShare (lane_at (run ours x (take k calls)).state i)

-- no opening of lane i is replied 23 along a run
abbrev pub NeverUnpromised : ℕ → Handed → List Call → Type 0
NeverUnpromised i x calls =
    (k : ℕ) (settings : Settings) → get_or calls k (closes i []) ≡ opens i settings → reply (run ours x (take k calls)) (opens i settings) ≡ to_opening 23 → ⊥

-- and no other call is
no_packets_reply : (x : Handed) (j : ℕ) (p out : List ℕ) → reply x (takes j p out) ≡ to_opening 23 → ⊥
unfolding reply
no_packets_reply x j p out e = let z : ◌≡◌ {A = ℕ} 0 1 = cc in omega arith

no_closings_reply : (x : Handed) (j : ℕ) (out : List ℕ) → reply x (closes j out) ≡ to_opening 23 → ⊥
unfolding reply
no_closings_reply x j out e = let z : ◌≡◌ {A = ℕ} 0 1 = cc in omega arith

-- ---- a plan is settled alike beside others as beside none, where the lane then holds no more than its share and the share fits beside the others
module _ (xs ys : List Lane) (i : ℕ) (same : get_or xs i closed ≡ get_or ys i closed) (fits : within xs ≡ true) (none : others ys i ≡ 0) (eight : length ys ≡ 8) where
  abbrev theirs : Lane
  theirs = get_or ys i closed

  same_step : (p : List ℕ) (room : ℕ) {d : Result Plan Refused} → Planned theirs p room d → InShare (lane_after theirs (settle ys i d)) → settle xs i d ≡ settle ys i d
  unfolding settle lane_after
  same_step p room (refuses n h) w = refl
  same_step p room (unread u) w = refl
  same_step p room repeats w = refl
  same_step p room (strays a on f g) w = refl
  same_step p room (ends a on n op f g e h) w = refl
  same_step p room (holds a on n op f g e h) w =
      let good = is_fine (lane_after theirs (Ok (Hold a on n))) g in
      let small : i < 8 = opened_small ys eight i op in
      let alone : within (set ys i (holding theirs n)) ≡ true =
      alone_fits ys i none (omega (arith, small, eight)) (holding theirs n) (omega (arith, need_open (holding theirs n) op, good.within, (good.legal op).share, (good.legal op).cap)) in
      let few : blocks_for n ≤ theirs.settings.share = simp alone at w in
      let beside : within (set xs i (holding (get_or xs i closed) n)) ≡ true =
      share_fits xs i (rw same op) n (rw same few) fits in
      simp (alone, beside)

-- ---- the two runs side by side: x shared, y alone
record Alike (i : ℕ) (x y : Handed) : Type 0 where
  shared : Sound x.state
  alone : Sound y.state
  size : length x.pool ≡ 16384
  size_alone : length y.pool ≡ 16384
  slot : slot_in x i ≡ slot_in y i
  no_other : others y.state.lanes i ≡ 0

module _ (i : ℕ) (x y : Handed) (k : Alike i x y) where
  same_lane : lane_at x.state i ≡ lane_at y.state i
  same_lane = ap (λ (v : Slot). v.lane) k.slot

  abbrev Together : Call → Type 0
  Together c = (reply x c ≡ reply y c) × (slot_in (after x c) i ≡ slot_in (after y c) i)

  module _ (p out : List ℕ) where
    same_decision : InShare (lane_at (after y (takes i p out)).state i) → step_for x i p out ≡ step_for y i p out
    same_decision w =
        let l : Lane = lane_at y.state i in
        let theirs : step_for y i p out ≡ settle y.state.lanes i (packet_plan l p (length out)) = settled y k.alone k.size_alone i p out in
        let then : InShare (lane_after l (settle y.state.lanes i (packet_plan l p (length out)))) =
        subst InShare (ap (λ (v : Slot). v.lane) (took_slot y k.alone k.size_alone i p out) ∙ ap (lane_after l) theirs) w in
        settled x k.shared k.size i p out
        ∙ ap (λ (l : Lane). settle x.state.lanes i (packet_plan l p (length out))) same_lane
        ∙ same_step x.state.lanes y.state.lanes i same_lane k.shared.room k.no_other k.alone.shape.0 p (length out) (planned l p (length out) (lane_fine y.state k.alone i)) then
        ∙ sym theirs

    taken_together : InShare (lane_at (after y (takes i p out)).state i) → Together (takes i p out)
    taken_together w =
        let d : step_for x i p out ≡ step_for y i p out = same_decision w in
        let told : Slot → Outcome → Reply = λ v e. to_packet (answer_of e) (out_from v.group (user_data v.lane.settings p) e out) in (
          took_reply x i p out ∙ ap₂ told k.slot d ∙ sym (took_reply y i p out),
          took_slot x k.shared k.size i p out ∙ ap₂ (λ (v : Slot) (e : Outcome). slot_after v p e) k.slot d ∙ sym (took_slot y k.alone k.size_alone i p out),
        )

  module _ (settings : Settings) where
    -- alone, a share that is legal can be promised
    promised : ltb 7 i ≡ false → illegal settings ≡ false → within (set y.state.lanes i (opened_with settings)) ≡ true
    promised small legal =
        let law = is_legal settings legal in
        alone_fits y.state.lanes i k.no_other (omega (arith, k.alone.shape.0, ltb-false 7 i small)) (opened_with settings)
        (omega (arith, need_open (opened_with settings) refl, none_held, law.share, law.cap))

    same_opening : (opening_refusal x.state i settings 16384 ≡ 23 → ⊥) → opening_refusal x.state i settings 16384 ≡ opening_refusal y.state i settings 16384
    unfolding opening_refusal
    same_opening never =
        simp (not_unsound x.state k.shared, not_unsound y.state k.alone, same_lane)
        (either (ltb 7 i) (λ a. simp a)
        (λ a. simp a (either (lane_at y.state i).opened (λ b. simp b)
        (λ b. simp b (either (illegal settings) (λ c. simp c)
        (λ c. simp (c, promised a c) (either (within (set x.state.lanes i (opened_with settings)))
        (λ d. simp d)
        (λ d. absurd (never (simp (not_unsound x.state k.shared, same_lane, a, b, c, d)))))))))))

    opened_together : (reply x (opens i settings) ≡ to_opening 23 → ⊥) → Together (opens i settings)
    unfolding reply opening
    opened_together never =
        let same : opening_refusal x.state i settings (length x.pool) ≡ opening_refusal y.state i settings (length y.pool) =
        rw (k.size, k.size_alone) (same_opening (λ e. never (ap to_opening (rw k.size e)))) in (
          ap to_opening same,
          opened_slot x k.shared k.size i settings ∙ ap₂ (λ (n : ℕ) (v : Slot). unless_refused n (without (opened_with settings)) v) same k.slot
              ∙ sym (opened_slot y k.alone k.size_alone i settings),
        )

  module _ (out : List ℕ) where
    same_closing : closing_refusal x.state i (length x.pool) (length out) ≡ closing_refusal y.state i (length y.pool) (length out)
    unfolding closing_refusal
    same_closing = rw (k.size, k.size_alone) (simp (not_unsound x.state k.shared, not_unsound y.state k.alone, same_lane))

    closed_together : Together (closes i out)
    unfolding reply closing closing_out
    closed_together = (
      ap₂ (λ (n : ℕ) (l : Lane). runs.to_closing n (output_after n (record_octets (credit_of l)) out)) same_closing same_lane,
      closed_slot x k.shared k.size i out ∙ ap₂ (λ (n : ℕ) (v : Slot). unless_refused n (without closed) v) same_closing k.slot
          ∙ sym (closed_slot y k.alone k.size_alone i out),
    )

-- a call of the source itself, in its share, and with its share promised
together : (x y : Handed) (c : Call) (k : Alike (lane_of c) x y) → InShare (lane_at (after y c).state (lane_of c)) → (reply x c ≡ to_opening 23 → ⊥) → Together (lane_of c) x y k c
together x y (opens i settings) k w never = opened_together i x y k settings never
together x y (takes i p out) k w never = taken_together i x y k p out w
together x y (closes i out) k w never = closed_together i x y k out

-- its own calls open no other lane
still_no_other : (y : Handed) (c : Call) → others (after y c).state.lanes (lane_of c) ≡ others y.state.lanes (lane_of c)
unfolding after opening closing taking
still_no_other y (opens i settings) = unless (λ (t : State). others t.lanes i ≡ others y.state.lanes i) (opening_refusal y.state i settings (length y.pool)) refl (λ e. others_same y.state.lanes i _)
still_no_other y (takes i p out) = others_same y.state.lanes i _
still_no_other y (closes i out) = unless (λ (t : State). others t.lanes i ≡ others y.state.lanes i) (closing_refusal y.state i (length y.pool) (length out)) refl (λ e. others_same y.state.lanes i _)

module _ (i : ℕ) where
  own_call : (x y : Handed) (c : Call) → lane_of c ≡ i → Alike i x y → InShare (lane_at (after y c).state i) → (reply x c ≡ to_opening 23 → ⊥) → (reply x c ≡ reply y c) × Alike i (after x c) (after y c)
  own_call x y c e = subst (λ (j : ℕ). Alike j x y → InShare (lane_at (after y c).state j) → (reply x c ≡ to_opening 23 → ⊥) → (reply x c ≡ reply y c) × Alike j (after x c) (after y c)) e
      (λ k w never. let both = together x y c k w never in (
        both.0,
        record {
          shared = after_sound x k.shared c;
          alone = after_sound y k.alone c;
          size = after_size x c ∙ k.size;
          size_alone = after_size y c ∙ k.size_alone;
          slot = both.1;
          no_other = still_no_other y c ∙ k.no_other;
        },
      ))

  other_call : (x y : Handed) (c : Call) → (lane_of c ≡ i → ⊥) → Alike i x y → Alike i (after x c) y
  other_call x y c other k = record {
    shared = after_sound x k.shared c;
    alone = k.alone;
    size = after_size x c ∙ k.size;
    size_alone = k.size_alone;
    slot = other_slot x k.shared k.size c i other ∙ k.slot;
    no_other = k.no_other;
  }

  -- no opening of the lane is replied 23 along a run; so the first call isn't
  never_now : (x : Handed) (c : Call) (calls : List Call) → lane_of c ≡ i → NeverUnpromised i x (c ∷ calls) → reply x c ≡ to_opening 23 → ⊥
  unfolding run
  never_now x (opens j settings) calls e never r = never 0 settings (ap (λ (m : ℕ). opens m settings) e) (subst (λ (m : ℕ). reply x (opens m settings) ≡ to_opening 23) e r)
  never_now x (takes j p out) calls e never r = no_packets_reply x j p out r
  never_now x (closes j out) calls e never r = no_closings_reply x j out r

  along : (calls : List Call) (x y : Handed) → Alike i x y → LaneInShare i y (own i calls) → NeverUnpromised i x calls → replies_to ours i x calls ≡ replies ours y (own i calls)
  unfolding own replies_to replies run
  along [] x y k w never = refl
  along (c ∷ calls) x y k w never =
      either (names i c)
      (λ e.
      let w' : LaneInShare i y (c ∷ own i calls) = simp e at w in
      let both = own_call x y c (eqb-true (lane_of c) i e) k (w' 1) (never_now x c calls (eqb-true (lane_of c) i e) never) in
      simp e (ap₂ (λ (r : Reply) (rs : List Reply). r ∷ rs) both.0 (along calls (after x c) (after y c) both.1 (λ n. w' (suc n)) (λ m. never (suc m)))))
      (λ e. simp e (along calls (after x c) y (other_call x y c (eqb-false (lane_of c) i e) k) (simp e at w) (λ m. never (suc m))))

-- ---- at the fresh start the lane is closed in both, whatever lies in the pools
all_closed : (n i : ℕ) → get_or (replicate n closed) i closed ≡ closed
all_closed zero i = refl
all_closed (suc n) zero = refl
all_closed (suc n) (suc i) = all_closed n i

pub begun_slot : (start : Start) (i : ℕ) → slot_in (begun start) i ≡ without closed
unfolding fresh_state gathered
begun_slot start i = rw (all_closed 8 i)

pub alike_replies : (i : ℕ) (calls : List Call) (shared alone : Start) → LaneInShare i (begun alone) (own i calls) → NeverUnpromised i (begun shared) calls
    → replies_to ours i (begun shared) calls ≡ replies ours (begun alone) (own i calls)
unfolding fresh_state
alike_replies i calls shared alone w never =
    along i calls (begun shared) (begun alone)
    (record {
      shared = fresh;
      alone = fresh;
      size = shared.whole;
      size_alone = alone.whole;
      slot = begun_slot shared i ∙ sym (begun_slot alone i);
      no_other = none_beside (replicate 8 closed) i (λ j h other. all_closed 8 j);
    })
    w never
