-- The laws of the place (places: `Honest`) are of what the reader tells; and a packet's plan begins with the reader's refusal, so an open lane answers it.
use Prim.Native.Nat.{ℕ, ◌≤◌, ◌<◌}
use mathlib.Core.Path.{◌≡◌, refl, sym, ap, ◌∙◌}
use mathlib.Core.Bool.{true}
use mathlib.Core.List.{List}
use native.Mathlib.Omega.{arith}
use borrow.Author.Tests.{ne_eqb}
use lib.ListN.{length}
use Rattle.std.specs.Prelude.{Ok, Err}
use Rattle.refusal.specs.Refusal.{number, named}
use Rattle.refusal.specs.declared.Refusal.{Refusal}
use Rattle.refusal.proofs.Numbers.{of_its_name}
use Rattle.packet.specs.declared.Unread.{Unread}
use Rattle.reading.specs.Reading.{refusal, place}
use Rattle.reading.proofs.Exactly.{exactly, refused, refusal_most}
use Rattle.reading.proofs.Answers.{Says, says}
use Rattle.places.proofs.Honest as honest
use Rattle.lane.specs.declared.Lane.{Lane}
use Rattle.grouping.specs.declared.Refused.TheVariants as why
use Rattle.grouping.specs.Plans.{packet_plan}
use Rattle.grouping.specs.Plans as plans
use Rattle.grouping.specs.Steps.{Outcome}
use Rattle.grouping.proofs.Faulty.{as_read}
use Rattle.intake.specs.Calls.{settle}
use Rattle.intake.specs.After.{answer_of}
use Rattle.state.specs.declared.State.{State}
use Rattle.calls.proofs.Steps.{Stepped, stepped}
use Rattle.calls.proofs.Steps as steps
use Rattle.demands.specs.Runs.{ours, Handed, Start, begun, Call, takes, to_packet, reply, run}
use Rattle.demands.specs.Past.{lane_from, past_of}
use Rattle.demands.specs.WhichOctet.{RefusedAt, EachIsHonest, HeaderDecides, PassedOn, WhichOctet}
use Rattle.demands.proofs.Reached.{reached_sound}
use Rattle.demands.proofs.View.{step_for, took_reply}
use Rattle.demands.proofs.Shared.{step_told}
use Rattle.demands.proofs.Followed.{lane_is}
use Rattle.demands.proofs.Unrefused.{planned}

-- ---- the reader
-- what it tells is its refusal and the place
read_so : (s : List ℕ) (u : Unread) → RefusedAt ours s (number u.refusal) u.place → Says (Err u) s
read_so s u (e, some) = says (Err u) s (sym e)

-- and the other way round
read_back : (s : List ℕ) → (refusal s ≡ 0 → ⊥) → RefusedAt ours s (refusal s) (place s)
unfolding place
read_back s some = (sym (refused ((exactly s (refusal s) (omega (arith, some))).0 refl)), omega (arith, some))

each_is_honest : EachIsHonest ours
unfolding refusal
each_is_honest s some = (refusal s, place s, read_back s some, honest.honest s some)

header_decides : HeaderDecides ours
header_decides = honest.header_decides

-- ---- the lane
hands_on : (start : Start) (calls : List Call) (i : ℕ) (packet out : List ℕ) (u : Unread) → (lane_from (past_of ours i start calls)).opened ≡ true
    → RefusedAt ours packet (number u.refusal) u.place → reply (run ours (begun start) calls) (takes i packet out) ≡ to_packet (Err (why.Unread u)) out
unfolding packet_plan settle
hands_on start calls i packet out u open' at =
    let w = read_so packet u at in
    let opened = ap (λ (l : Lane). l.opened) (lane_is start calls i) ∙ open' in
    let step : step_for (run ours (begun start) calls) i packet out ≡ Err (why.Unread u) =
    planned start calls i packet out ∙ simp (opened, ne_eqb (refusal packet) 0 (λ z. omega (arith, w.0, w.1, z))) (rw (as_read u packet w)) in
    took_reply (run ours (begun start) calls) i packet out ∙ rw step

-- a step that has a place has the reader's, and one that has none has a number from 8 on
module _ {s : State} {i : ℕ} {p : List ℕ} {octets room : ℕ} where
  has_place : {d : Outcome} → Stepped s i p octets room d → (u : Unread) → answer_of d ≡ Err (why.Unread u) → RefusedAt ours p (number u.refusal) u.place
  has_place (steps.unread some) u e =
      let same : plans.unread p ≡ u = cc in
      let is : number (named (refusal p)) ≡ refusal p = of_its_name (refusal p) (omega (arith, some)) (omega (arith, refusal_most p)) in
      rw (← same, is) (read_back p some)
  has_place (steps.refuses r h) u e = let z : ◌≡◌ {A = ℕ} 0 1 = cc in absurd (omega arith)
  has_place steps.repeats u e = let z : ◌≡◌ {A = ℕ} 0 1 = cc in absurd (omega arith)
  has_place (steps.strays a f) u e = let z : ◌≡◌ {A = ℕ} 0 1 = cc in absurd (omega arith)
  has_place (steps.ends a on n f g h) u e = let z : ◌≡◌ {A = ℕ} 0 1 = cc in absurd (omega arith)
  has_place (steps.holds a on n f g) u e = let z : ◌≡◌ {A = ℕ} 0 1 = cc in absurd (omega arith)

  has_none : {d : Outcome} → Stepped s i p octets room d → (q : Refusal) → answer_of d ≡ Err (why.Untaken q) → 8 ≤ number q
  has_none (steps.refuses r h) q e = let same : r ≡ q = cc in rw (← same) h
  has_none (steps.unread some) q e = let z : ◌≡◌ {A = ℕ} 0 1 = cc in absurd (omega arith)
  has_none steps.repeats q e = let z : ◌≡◌ {A = ℕ} 0 1 = cc in absurd (omega arith)
  has_none (steps.strays a f) q e = let z : ◌≡◌ {A = ℕ} 0 1 = cc in absurd (omega arith)
  has_none (steps.ends a on n f g h) q e = let z : ◌≡◌ {A = ℕ} 0 1 = cc in absurd (omega arith)
  has_none (steps.holds a on n f g) q e = let z : ◌≡◌ {A = ℕ} 0 1 = cc in absurd (omega arith)

passed_on : PassedOn ours
passed_on start calls i packet out open' =
    let x : Handed = run ours (begun start) calls in
    let d = stepped x.state (reached_sound start calls) i packet (length x.pool) (length out) in (
      λ u. (λ e. has_place d u (step_told x i packet out out (Err (why.Unread u)) e), hands_on start calls i packet out u open'),
      λ r e. has_none d r (step_told x i packet out out (Err (why.Untaken r)) e),
    )

pub which_octet : WhichOctet ours
which_octet = record { each_is_honest = each_is_honest; header_decides = header_decides; passed_on = passed_on }
