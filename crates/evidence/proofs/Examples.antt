-- The checker computes the runs. All that a run does, but for the octets of a unit, depends on the pool by its length alone; so the run that fills
-- the pool is computed on the states, with 16,384 for that length, and nothing is stored.
use Prim.Native.Nat.{ℕ, zero, suc, ◌≤◌, ◌<◌}
use mathlib.Core.Path.{◌≡◌, refl, sym, ap, ap₂, ◌∙◌}
use mathlib.Core.Bool.{Bool, true, false, not, ◌&&◌, true≢false}
use mathlib.Core.List.{List, [], ◌∷◌}
use native.Mathlib.Omega.{arith}
use borrow.Author.Tests.{eq-eqb, ne_eqb}
use lib.ListN.{length, get_or, take, get_or-append}
use lib.Dec.{eqb}
use Rattle.octets.specs.Octets.{octet}
use Rattle.octets.proofs.Order.{either, both}
use Rattle.places.specs.AtFault.{head}
use Rattle.lane.specs.declared.Settings.{Settings}
use Rattle.state.specs.declared.State.{State}
use Rattle.pool.specs.Octets.{pool_octets}
use Rattle.state.specs.State.{fresh_state, lane_at}
use Rattle.intake.specs.Calls.{packet_step}
use Rattle.intake.specs.After.{opening, closing, closing_out, out_after, user_of, taking, taking_out}
use Rattle.demands.specs.Runs.{ours, Handed, Start, begun, Call, opens, takes, closes, Reply, to_opening, to_packet, to_closing, reply, after, run, replies, names, own, replies_to}
use Rattle.demands.specs.Demand3.{InShare, StaysInShare, NoneUnpromised}
use Rattle.evidence.specs.Examples.{zeros, ones, interleaved, told_lane0, told_lane1, crowded, told_crowded, told_uncrowded, unpromised, all64, told_all64, free_blocks, free_around, free_all64, shares20, told_shares20, whose_fault, told_whose_fault, lane0_closed, extended_wrongly, which_octet, told_which_octet, other_content, Told, opened, one_octet, two_blocks, lane_after_run, lanes_after_run, MeetsUsedAgain, MeetsWhoseFault, MeetsWhichOctet, Examples}
use Rattle.demands.specs.Past.{shut, past_of}
use Rattle.demands.specs.Demand3.{NothingAmiss, HasRoom}
use Rattle.calls.specs.Order.{would_hold}
use Rattle.demands.proofs.View.{after_size}
use Rattle.demands.proofs.Followed.{lane_is}
use Rattle.evidence.proofs.Computed.{calling, running, remembering}

-- ---- a list without the refusal 23, by looking
is23 : Reply → Bool
is23 (to_opening refusal) = eqb refusal 23
is23 (to_packet answer out) = false
is23 (to_closing refusal out) = false

none23 : List Reply → Bool
none23 [] = true
none23 (r ∷ rs) = not (is23 r) && none23 rs

none_of : (rs : List Reply) → none23 rs ≡ true → (n : ℕ) → get_or rs n (to_opening 0) ≡ to_opening 23 → ⊥
unfolding is23 none23
none_of [] e n z = let q : ◌≡◌ {A = ℕ} 0 23 = cc in omega arith
none_of (r ∷ rs) e zero z = true≢false (sym (both (not (is23 r)) (none23 rs) e).0 ∙ ap (λ (q : Reply). not (is23 q)) z)
none_of (r ∷ rs) e (suc n) z = none_of rs (both (not (is23 r)) (none23 rs) e).1 n z

-- a reply to the lane's own opening is one of those to the lane
among : (i : ℕ) (x : Handed) (calls : List Call) (rs : List Reply) → replies_to ours i x calls ≡ rs → none23 rs ≡ true
    → (k : ℕ) (settings : Settings) → get_or calls k (closes i []) ≡ opens i settings → reply (run ours x (take k calls)) (opens i settings) ≡ to_opening 23 → ⊥
unfolding replies_to run none23
among i x [] rs told e k settings same r = let z : ◌≡◌ {A = ℕ} 0 1 = cc in omega arith
among i x (c ∷ calls) rs told e zero settings same r =
    let mine : names i c ≡ true = ap (names i) same ∙ eq-eqb i i refl in
    let first' : rs ≡ reply x c ∷ replies_to ours i (after x c) calls = sym told ∙ simp mine in
    none_of rs e 0 (ap (λ (all : List Reply). get_or all 0 (to_opening 0)) first' ∙ ap (reply x) same ∙ r)
among i x (c ∷ calls) rs told e (suc k) settings same r =
    either (names i c)
    (λ mine.
    let split : reply x c ∷ replies_to ours i (after x c) calls ≡ rs = simp mine at told in
    among i (after x c) calls (replies_to ours i (after x c) calls) refl
    (both (not (is23 (reply x c))) (none23 (replies_to ours i (after x c) calls)) (ap none23 split ∙ e)).1 k settings same r)
    (λ other. among i (after x c) calls rs (simp other at told) e k settings same r)

none_unpromised : (i : ℕ) (start : Start) (calls : List Call) (rs : List Reply) → replies_to ours i (begun start) calls ≡ rs → none23 rs ≡ true → NoneUnpromised ours i start calls
none_unpromised i start calls rs told e k settings same cause = among i (begun start) calls rs told e k settings same

-- ---- whether a lane stays in its share can be seen call by call
abbrev InItsShare : ℕ → Handed → Type 0
InItsShare i x = InShare (lane_at x.state i)

seen : ℕ → Handed → List Call → Type 0
seen i x [] = InItsShare i x
seen i x (c ∷ calls) = InItsShare i x × seen i (after x c) calls

stays_seen : (i : ℕ) (x : Handed) (calls : List Call) → seen i x calls → (k : ℕ) → InItsShare i (run ours x (take k calls))
unfolding seen run
stays_seen i x [] h zero = h
stays_seen i x [] h (suc n) = h
stays_seen i x (c ∷ calls) h zero = h.0
stays_seen i x (c ∷ calls) h (suc n) = stays_seen i (after x c) calls h.1 n

stays : (i : ℕ) (start : Start) (calls : List Call) → seen i (begun start) calls → StaysInShare ours i start calls
stays i start calls h k = rw (← lane_is start (take k calls) i) (stays_seen i (begun start) calls h k)

-- ---- the calls on a state, with a pool of 16,384 octets; its content is asked for only where a unit is written
state_after : State → Call → State
state_after s (opens i settings) = (opening s i settings pool_octets).state
state_after s (takes i packet out) = (taking s i packet pool_octets (length out)).state
state_after s (closes i out) = (closing s i pool_octets (length out)).state

reply_on : State → List ℕ → Call → Reply
reply_on s pool (opens i settings) = to_opening (opening s i settings pool_octets).refusal
reply_on s pool (takes i packet out) =
    to_packet (taking s i packet pool_octets (length out)).answer (out_after s.marks i (lane_at s i) (packet_step s i packet pool_octets (length out)) (user_of s i packet) pool out)
reply_on s pool (closes i out) = to_closing (closing s i pool_octets (length out)).refusal (closing_out s i pool_octets out)

replies_on : State → Handed → List Call → List Reply
replies_on s x [] = []
replies_on s x (c ∷ calls) = reply_on s x.pool c ∷ replies_on (state_after s c) (after x c) calls

free_on : State → List Call → List ℕ
free_on s [] = free_blocks s ∷ []
free_on s (c ∷ calls) = free_blocks s ∷ free_on (state_after s c) calls

module _ (x : Handed) (size : length x.pool ≡ pool_octets) where
  same_state : (c : Call) → (after x c).state ≡ state_after x.state c
  unfolding after state_after
  same_state (opens i settings) = rw size
  same_state (takes i packet out) = rw size
  same_state (closes i out) = rw size

  same_reply : (c : Call) → reply x c ≡ reply_on x.state x.pool c
  unfolding reply reply_on taking_out
  same_reply (opens i settings) = rw size
  same_reply (takes i packet out) = rw size
  same_reply (closes i out) = rw size

same_replies : (x : Handed) → length x.pool ≡ pool_octets → (calls : List Call) → replies ours x calls ≡ replies_on x.state x calls
unfolding replies replies_on
same_replies x size [] = refl
same_replies x size (c ∷ calls) =
    ap₂ (λ (r : Reply) (rs : List Reply). r ∷ rs) (same_reply x size c)
    (same_replies (after x c) (after_size x c ∙ size) calls ∙ ap (λ (s : State). replies_on s (after x c) calls) (same_state x size c))

same_free : (x : Handed) → length x.pool ≡ pool_octets → (calls : List Call) → free_around x calls ≡ free_on x.state calls
unfolding free_around free_on
same_free x size [] = refl
same_free x size (c ∷ calls) =
    ap (λ (ns : List ℕ). free_blocks x.state ∷ ns)
    (same_free (after x c) (after_size x c ∙ size) calls ∙ ap (λ (s : State). free_on s calls) (same_state x size c))

-- ---- computed
-- each lane's replies, where units are joined
lane0_told : Told 0 interleaved told_lane0 told_lane0
unfolding running
lane0_told = record { in_company = refl; alone = refl }

lane1_told : Told 1 interleaved told_lane1 told_lane1
unfolding running
lane1_told = record { in_company = refl; alone = refl }

crowded_told : Told 0 crowded told_crowded told_uncrowded
unfolding running
crowded_told = record { in_company = refl; alone = refl }

unpromised_told : Told 0 unpromised (to_opening 23 ∷ []) (to_opening 0 ∷ [])
unfolding running
unpromised_told = record { in_company = refl; alone = refl }

-- a lane's own calls, alone, stay in its share
abbrev Seen : ℕ → List Call → Type 0
Seen i calls = seen i (begun ones) (own i calls)

in_share : Seen 0 interleaved × Seen 1 interleaved × Seen 0 unpromised
unfolding running seen
in_share = (omega arith, omega arith, omega arith)

all64_on : (x : Handed) → (replies_on fresh_state x all64 ≡ told_all64) × (free_on fresh_state all64 ≡ free_all64)
unfolding calling state_after reply_on replies_on free_on
all64_on x = (refl, refl)

shares20_on : (x : Handed) → replies_on fresh_state x shares20 ≡ told_shares20
unfolding calling state_after reply_on replies_on
shares20_on x = refl

whose_fault_on : (x : Handed) → replies_on fresh_state x whose_fault ≡ told_whose_fault
unfolding calling state_after reply_on replies_on
whose_fault_on x = refl

which_octet_on : (x : Handed) → replies_on fresh_state x which_octet ≡ told_which_octet
unfolding calling state_after reply_on replies_on
which_octet_on x = refl

-- packets that meet the hypotheses
in_its_share : NothingAmiss (lane_after_run 0 opened) one_octet [] × (would_hold (lane_after_run 0 opened) one_octet ≤ (lane_after_run 0 opened).settings.share)
unfolding remembering
in_its_share = ((refl, refl, omega arith, omega arith), omega arith)

above_share : NothingAmiss (lane_after_run 0 opened) two_blocks [] × HasRoom (lanes_after_run opened) 0 two_blocks
unfolding remembering
above_share = ((refl, refl, omega arith, omega arith), (omega arith, refl))

meets_used_again : MeetsUsedAgain
unfolding remembering
meets_used_again = record {
  was_held = (omega arith, omega arith, refl);
  block_is_free = refl;
  nothing_amiss = (refl, refl, omega arith, omega arith);
  new = refl;
  has_room = (omega arith, refl);
  is_due = omega arith;
}

-- lane 0 was closed, and no other but lane 1 was opened
none_but_1 : (j : ℕ) → (j ≡ 1 → ⊥) → past_of ours j zeros lane0_closed ≡ shut
unfolding remembering
none_but_1 j not1 =
    either (eqb 0 j)
    (λ e. simp (e, ne_eqb 1 j (λ z. not1 (sym z))))
    (λ e. simp (e, ne_eqb 1 j (λ z. not1 (sym z))))

meets_whose_fault : MeetsWhoseFault
unfolding remembering
meets_whose_fault = record { is_19 = refl; is_27 = refl; same_lane = refl; others_closed = λ j h not1. none_but_1 j not1 }

-- the octets before the content are the same
below_8 : (k : ℕ) → k < 8 → octet other_content k ≡ octet extended_wrongly k
below_8 k h = get_or-append header' (0x66 ∷ []) 0 k h ∙ sym (get_or-append header' (0x55 ∷ []) 0 k h)
  where
    header' : List ℕ
    header' = 0xEB ∷ 0x03 ∷ 0x00 ∷ 0x01 ∷ 0x00 ∷ 0x00 ∷ 0x00 ∷ 0x09 ∷ []

meets_which_octet : MeetsWhichOctet
unfolding remembering head
meets_which_octet = record {
  is_refused = (refl, omega arith);
  is_open = refl;
  another = λ e. let z : ◌≡◌ {A = ℕ} 0x55 0x66 = ap (λ s. octet s 8) e in omega arith;
  same_length = refl;
  same_header = below_8;
}

-- ---- all of it
-- a lane that is told one thing in company and another alone isn't replied as alone
told_apart : {i : ℕ} {calls : List Call} {shared single : List Reply} → Told i calls shared single
    → replies_to ours i (begun zeros) calls ≡ replies ours (begun ones) (own i calls) → shared ≡ single
told_apart t e = sym t.in_company ∙ e ∙ t.alone

pub examples : Examples
unfolding is23 none23
examples = record {
  lane0 = lane0_told;
  lane0_in_share = stays 0 ones (own 0 interleaved) in_share.0;
  lane0_promised = none_unpromised 0 zeros interleaved told_lane0 lane0_told.in_company refl;
  lane1 = lane1_told;
  lane1_in_share = stays 1 ones (own 1 interleaved) in_share.1;
  lane1_promised = none_unpromised 1 zeros interleaved told_lane1 lane1_told.in_company refl;
  crowded_differs = crowded_told;
  share_is_needed = λ h.
      let e = told_apart crowded_told (h 0 crowded zeros ones (none_unpromised 0 zeros crowded told_crowded crowded_told.in_company refl)) in
      let z : ◌≡◌ {A = ℕ} 0 1 = cc in omega arith;
  unpromised_differs = unpromised_told;
  promise_is_needed = λ h.
      let e = told_apart unpromised_told (h 0 unpromised zeros ones (stays 0 ones (own 0 unpromised) in_share.2)) in
      let z : ◌≡◌ {A = ℕ} 23 0 = cc in omega arith;
  all64_told = λ start. same_replies (begun start) start.whole all64 ∙ (all64_on (begun start)).0;
  all64_free = λ start. same_free (begun start) start.whole all64 ∙ (all64_on (begun start)).1;
  in_share = in_its_share;
  above_share = above_share;
  used_again = meets_used_again;
  whose_fault = meets_whose_fault;
  which_octet = meets_which_octet;
  shares20_told = λ start. same_replies (begun start) start.whole shares20 ∙ shares20_on (begun start);
  whose_fault_told = λ start. same_replies (begun start) start.whole whose_fault ∙ whose_fault_on (begun start);
  which_octet_told = λ start. same_replies (begun start) start.whole which_octet ∙ which_octet_on (begun start);
}
