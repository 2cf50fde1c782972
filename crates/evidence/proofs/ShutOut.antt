-- An intake that meets demand 2 replies as ours does, and its lanes have the pasts of ours (`same_pasts`). So small runs, computed, show what each of these would
-- have to do; and for missing counts and credit the replies are the grouping rule's, which demand 2 says.
use Prim.Native.Nat.{ℕ, zero, suc}
use mathlib.Core.Path.{◌≡◌, refl, sym, ap, subst, ◌∙◌}
use mathlib.Core.Bool.{Bool, false, cond, true≢false}
use mathlib.Core.List.{List, [], ◌∷◌, ◌++◌, append_assoc, append-nil}
use mathlib.Core.Option.{Option, none, some}
use native.Mathlib.Omega.{arith}
use borrow.Author.Tests.{ne_eqb}
use lib.ListN.{get_or, take, drop, replicate}
use lib.Dec.{eqb, leb}
use Rattle.octets.specs.Order.{first, numbers_of}
use Rattle.octets.proofs.Order.{either}
use Rattle.reading.specs.Reading.{fields, reading}
use Rattle.pool.specs.Octets.{place}
use Rattle.lane.specs.declared.Lane.{Lane}
use Rattle.state.specs.State.{lane_at}
use Rattle.intake.specs.declared.Answer.{Answer}
use Rattle.intake.specs.declared.Answer.TheVariants.{Stray, Held, Unit}
use Rattle.std.specs.Prelude.{Result, Ok, Err}
use Rattle.refusal.specs.Refusal.{named}
use Rattle.grouping.specs.declared.Refused.{Refused}
use Rattle.grouping.specs.declared.Refused.TheVariants.{Untaken}
use Rattle.rule.specs.Rule.{Taken, taken_of, repeats, missing, answer_with, answer_to, unit, group, gives_up, with_unit}
use Rattle.rule.specs.Rule as rule
use Rattle.calls.specs.Groups.{group_in}
use Rattle.demands.specs.Runs.{ours, Handed, Start, begun, Call, opens, takes, closes, Reply, to_packet, to_closing, is_refused, AnyIntake, reply, after, run, names}
use Rattle.demands.specs.Past.{Past, shut, since, settings_of, accepted_in, lane_from, lanes_from, later, past_from, past_of}
use Rattle.demands.specs.Demand2.{causes, reply_by, Demand2}
use Rattle.demands.specs.Demand3.{Demand3}
use Rattle.demands.proofs.Pasts.{past_more}
use Rattle.demands.proofs.Demand2.{demand2}
use Rattle.evidence.specs.Examples.{zeros, settings, beginning, unsegmented, room}
use Rattle.evidence.specs.ShutOut.{answer_in, missing_told, MakesUpMissing, MakesUpCredit, ShutOut, RefusesEverything, RefusesAllButTheFirst, AnswersConstantly, ReadsConstantly, StoresNothing, OnlyNods, IsShutOut, CanBeWritten}
use Rattle.evidence.proofs.Computed.{running, remembering}

-- ---- an intake that meets demand 2
module _ (n : AnyIntake) (d : Demand2 n) (start : Start) where
  abbrev SamePasts : List Call → Type 0
  SamePasts calls = (i : ℕ) → past_of n i start calls ≡ past_of ours i start calls

  module _ (calls : List Call) (same : SamePasts calls) (c : Call) where
    reply_same : n.reply_to (run n (begun start) calls) c ≡ reply (run ours (begun start) calls) c
    reply_same = d.replies_are_the_rules start calls c ∙ (λ j. reply_by (λ i. same i j) c) ∙ sym (demand2.replies_are_the_rules start calls c)

    one_more : SamePasts (calls ++ c ∷ [])
    one_more i =
        past_more n i shut (begun start) calls c
        ∙ (λ j. cond (names i c) (later (same i j) c (reply_same j)) (same i j))
        ∙ sym (past_more ours i shut (begun start) calls c)

  from_there : (front calls : List Call) → SamePasts front → SamePasts (front ++ calls)
  from_there front [] same = rw (append-nil front) same
  from_there front (c ∷ calls) same = subst SamePasts (append_assoc front (c ∷ []) calls) (from_there (front ++ c ∷ []) calls (one_more front same c))

  same_pasts : (calls : List Call) → SamePasts calls
  unfolding past_from
  same_pasts calls = from_there [] calls (λ i. refl)

  replies_as : (calls : List Call) (c : Call) → n.reply_to (run n (begun start) calls) c ≡ reply (run ours (begun start) calls) c
  replies_as calls = reply_same calls (same_pasts calls)

  lane_as : (calls : List Call) (i : ℕ) → lane_at (run n (begun start) calls).state i ≡ lane_from (past_of ours i start calls)
  lane_as calls i = (d.lanes_are_the_rules start calls i).0 ∙ ap lane_from (same_pasts calls i)

-- ---- small runs: lane 0 is opened; a first packet comes, and an unsegmented one
abbrev just_opened : List Call
just_opened = opens 0 (settings 1 2) ∷ []

abbrev first' : List ℕ
first' = beginning 0 (1 ∷ [])

abbrev whole : List ℕ
whole = unsegmented 1 (2 ∷ [])

-- the opened lane holds the first packet and makes a unit of the other; the first is stored, and the other changes the tallies
refuses_everything : IsShutOut Demand2 RefusesEverything
unfolding running
refuses_everything n h d = true≢false (sym (h zeros just_opened 0 first' []) ∙ ap is_refused (replies_as n d zeros just_opened (takes 0 first' [])))

refuses_all_but_the_first : IsShutOut Demand2 RefusesAllButTheFirst
unfolding remembering
refuses_all_but_the_first n h d =
    let calls : List Call = opens 0 (settings 1 2) ∷ takes 0 first' [] ∷ [] in
    true≢false (sym (h zeros calls 0 whole (room 1) (omega (arith, ap (λ (l : Lane). l.packets) (lane_as n d zeros calls 0)))) ∙ ap is_refused (replies_as n d zeros calls (takes 0 whole (room 1))))

answers_constantly : IsShutOut Demand2 AnswersConstantly
unfolding running
answers_constantly n h d =
    let e : ◌≡◌ {A = Option (Result Answer Refused)} (some (Ok (Held 0 false))) (some (Ok (Unit 1 0 false))) =
    sym (ap answer_in (replies_as n d zeros just_opened (takes 0 first' (room 1)))) ∙ h zeros just_opened 0 first' whole (room 1)
    ∙ ap answer_in (replies_as n d zeros just_opened (takes 0 whole (room 1))) in
    let z : ◌≡◌ {A = ℕ} 0 1 = cc in omega arith

-- the flags are told after the refusal, the version, the type, the secondary header flag and the APID
reads_constantly : IsShutOut Demand2 ReadsConstantly
unfolding running reading fields
reads_constantly n h d =
    let e : ◌≡◌ {A = ℕ} 1 3 = ap (λ (told : List ℕ). get_or told 5 0) (sym (d.agrees.reads first') ∙ h first' whole ∙ d.agrees.reads whole) in
    omega arith

-- in a pool of zeros the first octet of a group is no 1
all_zeros : (n k : ℕ) → ◌≡◌ {A = List ℕ} (take 1 (drop k (replicate n 0)) ++ []) (1 ∷ []) → ⊥
all_zeros zero zero e = let z : ◌≡◌ {A = ℕ} 0 1 = cc in omega arith
all_zeros zero (suc k) e = let z : ◌≡◌ {A = ℕ} 0 1 = cc in omega arith
all_zeros (suc n) zero e = let z : ◌≡◌ {A = ℕ} 0 1 = cc in omega arith
all_zeros (suc n) (suc k) e = all_zeros n k e

stores_nothing : IsShutOut Demand2 StoresNothing
unfolding remembering
stores_nothing n h d =
    let calls : List Call = opens 0 (settings 1 2) ∷ takes 0 first' [] ∷ [] in
    let x : Handed = n.leaves (begun zeros) (opens 0 (settings 1 2)) in
    let y : Handed = n.leaves x (takes 0 first' []) in
    let held : group_in y.state y.pool 0 ≡ 1 ∷ [] = (d.lanes_are_the_rules zeros calls 0).1 ∙ ap (λ (p : Past). rule.octets_in (group (accepted_in p))) (same_pasts n d zeros calls 0) in
    let octets : (lane_at y.state 0).octets ≡ 1 = ap (λ (l : Lane). l.octets) (lane_as n d zeros calls 0) in
    let same : y.pool ≡ replicate 16384 0 = h zeros just_opened (takes 0 first' []) ∙ h zeros [] (opens 0 (settings 1 2)) in
    all_zeros 16384 (place y.state.marks 0 0) (rw (octets, same) at held)

only_nods : IsShutOut Demand2 OnlyNods
unfolding remembering
only_nods n h d =
    let calls : List Call = opens 0 (settings 1 2) ∷ takes 0 first' [] ∷ [] in
    let some' = ap (λ (l : Lane). l.packets) (lane_as n d zeros calls 0) in
    let more = ap (λ (l : Lane). l.packets) (lane_as n d zeros (opens 0 (settings 1 2) ∷ takes 0 first' [] ∷ takes 0 whole (room 1) ∷ []) 0) in
    let e : ◌≡◌ {A = ℕ} 2 1 = sym more ∙ ap (λ (four : List ℕ). get_or four 1 0) (h zeros calls 0 whole (room 1) (omega (arith, some'))) ∙ some' in
    omega arith

-- ---- alone, by demand 3: the opening has nothing amiss, and then the packet is in the lane's share
in_its_share : IsShutOut Demand3 RefusesEverything
unfolding remembering
in_its_share n h d =
    let opens' : is_refused (n.reply_to (begun zeros) (opens 0 (settings 1 2))) ≡ false = d.opens_if_fine zeros [] 0 (settings 1 2) (omega arith) refl refl refl in
    let past : past_of n 0 zeros just_opened ≡ since (settings 1 2) [] = simp opens' in
    true≢false (sym (h zeros just_opened 0 first' []) ∙ d.room_in_share zeros just_opened 0 first' [] (rw past (refl, refl, omega arith, omega arith)) (rw past (omega arith)))

-- ---- made-up numbers: a reply that isn't a refusal is the rule's
some_missing : (u open' : Option (List ℕ)) (m tells : ℕ) (givenUp : Bool) (out : List ℕ) → missing_told (to_packet (Ok (answer_with u open' m givenUp)) out) ≡ some tells → m ≡ tells
some_missing (some octets) open' m tells givenUp out e = cc
some_missing none (some octets) m tells givenUp out e = cc
some_missing none none m tells givenUp out e = cc

by_rule : (past : ℕ → Past) (i : ℕ) (packet out : List ℕ) (tells : ℕ) → missing_told (reply_by past (takes i packet out)) ≡ some tells
    → missing (accepted_in (past i)) (taken_of (settings_of (past i)) packet) ≡ tells
unfolding answer_to
by_rule past i packet out tells e =
    let number : ℕ = first 0 (numbers_of (causes (lanes_from past) (takes i packet out))) in
    let ps : List Taken = accepted_in (past i) in
    let q : Taken = taken_of (settings_of (past i)) packet in
    either (eqb number 0)
    (λ z. either (repeats ps q) (λ r. absurd (let y = simp (z, r) at e in let k : ◌≡◌ {A = ℕ} 0 1 = cc in omega arith))
    (λ r. some_missing (unit ps q) (group (q ∷ ps)) (missing ps q) tells (gives_up ps q) (with_unit out (unit ps q)) (simp (z, r) at e)))
    (λ z. either (leb number 7) (λ w. absurd (let y = simp (z, w) at e in let k : ◌≡◌ {A = ℕ} 0 1 = cc in omega arith))
    (λ w. absurd (let y = simp (z, w) at e in let k : ◌≡◌ {A = ℕ} 0 1 = cc in omega arith)))

makes_up_missing : IsShutOut Demand2 MakesUpMissing
makes_up_missing n h d =
    h.otherwise (by_rule (λ i. past_of n i h.start h.calls) h.lane h.packet h.out h.tells
    (ap missing_told (sym (d.replies_are_the_rules h.start h.calls (takes h.lane h.packet h.out))) ∙ h.told))

credit_by_rule : (number : ℕ) (out written credited : List ℕ) → cond (eqb number 0) (to_closing 0 written) (to_closing number out) ≡ to_closing 0 credited → written ≡ credited
credit_by_rule number out written credited e =
    either (eqb number 0) (λ z. let y = simp z at e in cc)
    (λ z. absurd (let y = simp z at e in let k : number ≡ 0 = cc in true≢false (sym (ap (λ (m : ℕ). eqb m 0) k) ∙ z)))

makes_up_credit : IsShutOut Demand2 MakesUpCredit
makes_up_credit n h d =
    let number : ℕ = first 0 (numbers_of (causes (lanes_from (λ i. past_of n i h.start h.calls)) (closes h.lane h.out))) in
    h.otherwise (credit_by_rule number h.out _ h.credited
    (sym (d.replies_are_the_rules h.start h.calls (closes h.lane h.out)) ∙ h.writes))

pub shut_out : ShutOut
shut_out = record {
  refuses_everything = refuses_everything;
  refuses_everything_in_its_share = in_its_share;
  refuses_all_but_the_first = refuses_all_but_the_first;
  answers_constantly = answers_constantly;
  reads_constantly = reads_constantly;
  stores_nothing = stores_nothing;
  only_nods = only_nods;
  makes_up_missing = makes_up_missing;
  makes_up_credit = makes_up_credit;
}

-- ---- each of them can be written: ours with another reader, other replies, or other things left
abbrev varied : (List ℕ → List ℕ) → (Handed → Call → Reply) → (Handed → Call → Handed) → AnyIntake
varied reads' replies' leaves' = record {
  reads = reads';
  hands = ours.hands;
  writes_space = ours.writes_space;
  writes_encapsulation = ours.writes_encapsulation;
  reads_record = ours.reads_record;
  reads_file = ours.reads_file;
  writes_record = ours.writes_record;
  reply_to = replies';
  leaves = leaves';
}

abbrev calling : (Handed → Call → Reply) → (Handed → Call → Handed) → AnyIntake
calling = varied ours.reads

-- one answer to every packet, and else the promised replies
saying : Result Answer Refused → Handed → Call → Reply
saying answer x (opens i settings) = reply x (opens i settings)
saying answer x (takes i packet out) = to_packet answer out
saying answer x (closes i out) = reply x (closes i out)

abbrev says : Result Answer Refused → AnyIntake
says answer = calling (saying answer) after

-- the first packet of a lane is handled, and every later one refused
refusing : Handed → Call → Reply
refusing x (opens i settings) = reply x (opens i settings)
refusing x (takes i packet out) = cond (eqb (lane_at x.state i).packets 0) (reply x (takes i packet out)) (to_packet (Err (Untaken (named 19))) out)
refusing x (closes i out) = reply x (closes i out)

abbrev refuses : AnyIntake
refuses = calling refusing after

-- a closing that leaves the output as the credit
abbrev crediting : Handed → Call → Reply
crediting x (opens i settings) = reply x (opens i settings)
crediting x (takes i packet out) = reply x (takes i packet out)
crediting x (closes i out) = to_closing 0 out

abbrev credits : AnyIntake
credits = calling crediting after

-- the state as promised, and the pool as it was
abbrev forgets : AnyIntake
forgets = calling reply (λ x c. record { state = (after x c).state; pool = x.pool })

-- the first packet of a lane is handled, and no further one
nodding : Handed → Call → Handed
nodding x (opens i settings) = after x (opens i settings)
nodding x (takes i packet out) = cond (eqb (lane_at x.state i).packets 0) (after x (takes i packet out)) x
nodding x (closes i out) = after x (closes i out)

abbrev nods : AnyIntake
nods = calling reply nodding

-- after the opening no packet is missing, and the credit begins with the station 7
missing_made_up : MakesUpMissing (says (Ok (Stray 1 false)))
unfolding remembering saying
missing_made_up = record {
  start = zeros;
  calls = just_opened;
  lane = 0;
  packet = first';
  out = [];
  tells = 1;
  told = refl;
  otherwise = λ e. let z : ◌≡◌ {A = ℕ} 0 1 = e in omega arith;
}

credit_made_up : MakesUpCredit credits
unfolding remembering
credit_made_up = record {
  start = zeros;
  calls = just_opened;
  lane = 0;
  out = room 20;
  credited = room 20;
  writes = refl;
  otherwise = λ e. let z : ◌≡◌ {A = ℕ} 0 9 = cc in omega arith;
}

pub can_be_written : CanBeWritten
unfolding saying refusing nodding
can_be_written = record {
  refuses_everything = (says (Err (Untaken (named 19))), λ start calls i packet out. refl);
  refuses_all_but_the_first = (refuses, λ start calls i packet out some. simp (ne_eqb (lane_at (run refuses (begun start) calls).state i).packets 0 (λ z. omega arith)));
  answers_constantly = (says (Ok (Held 0 false)), λ start calls i packet other out. refl);
  reads_constantly = (varied (λ s. []) reply after, λ s other. refl);
  stores_nothing = (forgets, λ start calls c. refl);
  only_nods = (nods, λ start calls i packet out some. simp (ne_eqb (lane_at (run nods (begun start) calls).state i).packets 0 (λ z. omega arith)));
  makes_up_missing = (says (Ok (Stray 1 false)), missing_made_up);
  makes_up_credit = (credits, credit_made_up);
}
