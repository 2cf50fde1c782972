-- Opening, packet and closing meet demand 1, in Rattle and in C. Their order gives the number of the definition, and the laws of the calls say that a refusal
-- leaves state, pool and output.
use Prim.Native.Nat.{ℕ}
use mathlib.Core.Path.{◌≡◌, refl, sym, ap, ◌∙◌}
use mathlib.Core.Bool.{true, false, cond}
use mathlib.Core.List.{List, [], ◌∷◌}
use lib.Dec.{eqb}
use lib.ListN.{length}
use Rattle.octets.specs.Octets.{one}
use Rattle.octets.specs.Output.{leading}
use Rattle.std.specs.Prelude.{Result, Ok, Err}
use Rattle.refusal.specs.Refusal.{number, named}
use Rattle.refusal.proofs.Named.{of_its_number}
use Rattle.grouping.specs.declared.Refused.{Refused}
use Rattle.grouping.specs.declared.Refused.TheVariants.{Unread, Untaken}
use Rattle.grouping.specs.declared.Step.TheVariants.{Repeat, Stray, Hold, Unit}
use Rattle.grouping.specs.Steps.{Outcome}
use Rattle.intake.specs.declared.Answer.{Answer}
use Rattle.intake.specs.declared.Answer.TheVariants as answer
use Rattle.intake.specs.declared.Answered.{Answered}
use Rattle.intake.specs.Calls.{opening_refusal, closing_refusal, packet_step}
use Rattle.intake.specs.After.{opening, closing, answer_of, taking}
use Rattle.intake.specs.Told.{told, telling}
use Rattle.intake.proofs.Given.{answer_told}
use Rattle.lanes.specs.declared.Numbered.{Numbered}
use Rattle.lanes.specs.Numbers.{telling as inNumbers, numbered}
use Rattle.calls.specs.Order.{refusal_of}
use Rattle.entries.specs.Entry.{number_for, Asked}
use Rattle.entries.specs.Entries.{Taking, open_lane_entry, taking_of, take_packet_entry, close_lane_entry}
use Rattle.entries.specs.Exported.{told_numbered, take_packet_c}
use Rattle.calls.proofs.Laws.{packet_order, Untouched, refused_leaves, unread_leaves, refused_opening_leaves, refused_closing_leaves}
use Rattle.entries.proofs.Refusals.{Ordered, demand}
use Rattle.entries.proofs.EachEntry.{one_fixes}

pub opens_lane : Asked open_lane_entry
unfolding opening opening_refusal
opens_lane =
    demand open_lane_entry (λ g. (number_for open_lane_entry g, refl)) (λ g. refl) (λ a b same. ap leading same)
    (λ g. refused_opening_leaves g.state g.lane g.settings (length g.pool))

pub closes_lane : Asked close_lane_entry
unfolding closing closing_refusal
closes_lane =
    demand close_lane_entry (λ g. (number_for close_lane_entry g, refl)) (λ g. refl) (λ a b same. ap leading same)
    (λ g refused. let left = refused_closing_leaves g.state g.lane (length g.pool) g.out refused in λ i. (left.0 i, left.1 i))

-- ---- a packet: what an answer tells can be read back
abbrev as_told : List ℕ → Result Answer Refused
as_told [] = Ok answer.Repeat
as_told (k ∷ []) = Err (Untaken (named k))
as_told (k ∷ place ∷ []) = Err (Unread (record { refusal = named k; place = place }))
as_told (k ∷ kind ∷ missing ∷ []) = Ok answer.Repeat
as_told (k ∷ kind ∷ missing ∷ givenUp ∷ []) =
    cond (eqb kind 1) (Ok answer.Repeat) (cond (eqb kind 2) (Ok (answer.Stray missing (eqb givenUp 1))) (Ok (answer.Held missing (eqb givenUp 1))))
as_told (k ∷ kind ∷ missing ∷ givenUp ∷ octets ∷ more) = Ok (answer.Unit octets missing (eqb givenUp 1))

read_back : (a : Result Answer Refused) → as_told (told a) ≡ a
unfolding one
read_back (Err (Untaken r)) = ap (λ q. Err (Untaken q)) (of_its_number r)
read_back (Err (Unread u)) = ap (λ q. Err (Unread (record { refusal = q; place = u.place }))) (of_its_number u.refusal)
read_back (Ok answer.Repeat) = refl
read_back (Ok (answer.Stray m true)) = refl
read_back (Ok (answer.Stray m false)) = refl
read_back (Ok (answer.Held m true)) = refl
read_back (Ok (answer.Held m false)) = refl
read_back (Ok (answer.Unit n m true)) = refl
read_back (Ok (answer.Unit n m false)) = refl

pub told_fixes : (a b : Result Answer Refused) → told a ≡ told b → a ≡ b
told_fixes a b same = sym (read_back a) ∙ ap as_told same ∙ read_back b

begins : (d : Outcome) → leading (telling d) ≡ refusal_of d
begins (Err (Unread u)) = refl
begins (Err (Untaken r)) = refl
begins (Ok Repeat) = refl
begins (Ok (Stray a)) = refl
begins (Ok (Hold a on n)) = refl
begins (Ok (Unit a on n)) = refl

abbrev step_of : Taking → Outcome
step_of g = packet_step g.state g.lane g.packet (length g.pool) (length g.out)

ordered : Ordered take_packet_entry
ordered g = begins (step_of g) ∙ packet_order g.state g.shaped g.lane g.packet (length g.pool) (length g.out)

-- a step that refuses leaves all as it was
left_by : (g : Taking) (d : Outcome) → step_of g ≡ d → (leading (telling d) ≡ 0 → ⊥) → Untouched g.state g.lane g.packet g.pool g.out
left_by g (Err (Untaken r)) e h = refused_leaves g.state g.lane g.packet g.pool g.out r e
left_by g (Err (Unread u)) e h = unread_leaves g.state g.lane g.packet g.pool g.out u e
left_by g (Ok Repeat) e h = absurd (h refl)
left_by g (Ok (Stray a)) e h = absurd (h refl)
left_by g (Ok (Hold a on n)) e h = absurd (h refl)
left_by g (Ok (Unit a on n)) e h = absurd (h refl)

left_if_refused : (g : Taking) → (number_for take_packet_entry g ≡ 0 → ⊥) → take_packet_entry.leaves g ≡ take_packet_entry.before g
left_if_refused g refused =
    let left = left_by g (step_of g) refl refused in
    λ i. (left.0 i, left.1 i, left.2 i)

answer_of_taking : (g : Taking) → told (taking_of g).answer ≡ take_packet_entry.tells g
answer_of_taking g = answer_told g.state g.lane g.packet (length g.pool) (length g.out) (taking_of g) refl

pub takes_packet : Asked take_packet_entry
takes_packet = demand take_packet_entry (λ g. ((taking_of g).answer, answer_of_taking g)) ordered told_fixes left_if_refused

-- what is told and the state fix the whole
pub same_answered : (g : Taking) (r : Answered) → told r.answer ≡ take_packet_entry.tells g → r.state ≡ (taking_of g).state → r ≡ taking_of g
same_answered g r same state i = record { answer = told_fixes r.answer (taking_of g).answer (same ∙ sym (answer_of_taking g)) i; state = state i }

-- in numbers: the refusal is the answer's
same_number : (d : Outcome) → (inNumbers (answer_of d)).refusal ≡ leading (telling d)
same_number (Err (Unread u)) = refl
same_number (Err (Untaken r)) = refl
same_number (Ok Repeat) = refl
same_number (Ok (Stray a)) = refl
same_number (Ok (Hold a on n)) = refl
same_number (Ok (Unit a on n)) = refl

pub takes_packet_C : Asked take_packet_c
unfolding numbered taking
takes_packet_C =
    demand take_packet_c (λ g. (take_packet_c.tells g, refl)) (λ g. same_number (step_of g) ∙ ordered g) (λ a b same. same)
    (λ g refused. left_if_refused g (λ z. refused (same_number (step_of g) ∙ z)))

-- the numbers and the state fix it too
pub same_numbered : (a b : Numbered) → told_numbered a ≡ told_numbered b → a.state ≡ b.state → a ≡ b
same_numbered a b same state =
    let refusal : a.refusal ≡ b.refusal = cc in
    let kind : a.kind ≡ b.kind = cc in
    let givenUp : a.given_up ≡ b.given_up = one_fixes a.given_up b.given_up (cc) in
    let missing : a.missing ≡ b.missing = cc in
    let octets : a.octets ≡ b.octets = cc in
    let place : a.place ≡ b.place = cc in
    λ i. record { refusal = refusal i; kind = kind i; given_up = givenUp i; missing = missing i; octets = octets i; place = place i; state = state i }
