-- A packet's step gives the refusal that the one list of tests gives: the plan is followed test by test, and what is left over, the tests for 19 and 27
-- and the one for 20, fails where the answer isn't of that kind.
use Prim.Native.Nat.{ℕ, ◌+◌}
use mathlib.Core.Path.{◌≡◌, refl, sym, ◌∙◌}
use mathlib.Core.Bool.{Bool, true, false, cond, not, ◌&&◌}
use mathlib.Core.List.{List, [], ◌∷◌, ◌++◌}
use native.Mathlib.Omega.{arith}
use borrow.Author.Tests.{le-ltb, eqb-true, eqb-false, eq-eqb, ne_eqb, not-true, not-false}
use lib.Dec.{eqb, ltb, leb}
use lib.ListN.{get_or, set}
use Rattle.octets.specs.Order.{Test, ◌gives◌, first, numbers_of}
use Rattle.octets.proofs.Order.{either, first_append, Numbers, numbers_append, numbers_of_append, first_unless}
use Rattle.packet.specs.Space.{flags, count}
use Rattle.reading.specs.Reading.{is_space, reading_tests, refusal}
use Rattle.reading.proofs.Exactly.{in_order, refusal_most}
use Rattle.record.specs.Record.{most_packets}
use Rattle.marks.specs.Blocks.{blocks_for}
use Rattle.lane.specs.declared.Lane.{Lane}
use Rattle.grouping.specs.declared.Added.{Added}
use Rattle.std.specs.Prelude.{Ok}
use Rattle.grouping.specs.declared.Step.TheVariants.{Stray}
use Rattle.refusal.proofs.Numbers.{of_its_name}
use Rattle.grouping.specs.declared.Plan.TheVariants.{Sure}
use Rattle.lane.specs.Lane.{holding, closed}
use Rattle.grouping.specs.Packets.{terms_of, lane_tests, fault, user_octets}
use Rattle.grouping.specs.Grouping.{repeats, goes_on, added_from}
use Rattle.grouping.specs.Plans.{hold_plan, unit_plan, grouping_plan, accepted_plan, packet_plan}
use Rattle.lane.proofs.Fine.{none_held}
use Rattle.grouping.specs.declared.Terms.{Terms}
use Rattle.grouping.proofs.Accepted.{fault_read, fault_most}
use Rattle.state.specs.declared.State.{State}
use Rattle.state.specs.State.{lane_at, within, unsound}
use Rattle.state.proofs.Within.{share_fits}
use Rattle.intake.specs.Calls.{settle, packet_step}
use Rattle.state.proofs.Soundness.{then_sound}
use Rattle.state.specs.Clauses.{Shaped}
use Rattle.calls.specs.Order.{refusal_of, would_group, would_write, packet_tests}
use Rattle.calls.proofs.Sound.{is_sound}

and_false : (b : Bool) → b && false ≡ false
and_false true = refl
and_false false = refl

-- ---- the last three tests, for lane i, which would have a group of n octets beside the others, and would write u
module _ (ls : List Lane) (i room : ℕ) where
  abbrev l : Lane
  l = get_or ls i closed

  abbrev pub Last : ℕ → ℕ → ℕ
  Last n u =
      first 0
      ((ltb l.settings.cap (blocks_for n) gives 19)
      ∷ (not (within (set ls i (holding l n))) gives 27)
      ∷ (ltb room u gives 20)
      ∷ [])

  to_hold : (a : Added) (on : Bool) (n : ℕ) → refusal_of (settle ls i (hold_plan l.settings a on n)) ≡ Last n 0
  unfolding hold_plan settle
  to_hold a on n =
      either (ltb l.settings.cap (blocks_for n)) (λ e. simp e)
      (λ e. simp e (either (within (set ls i (holding l n))) (λ r. simp (r, le-ltb room 0 (omega arith))) (λ r. simp r)))

  module _ (fits : within (set ls i (holding l 0)) ≡ true) where
    none_to_hold : (u : ℕ) → Last 0 u ≡ first 0 ((ltb room u gives 20) ∷ [])
    none_to_hold u = simp (le-ltb l.settings.cap (blocks_for 0) (omega (arith, none_held)), fits)

    to_end : (a : Added) (on : Bool) (n : ℕ) → refusal_of (settle ls i (unit_plan room a on n)) ≡ Last 0 n
    unfolding unit_plan settle
    to_end a on n = rw (none_to_hold n) (either (ltb room n) (λ e. simp e) (λ e. simp e))

    to_stray : (a : Added) → refusal_of (settle ls i (Ok (Sure (Stray a)))) ≡ Last 0 0
    unfolding settle
    to_stray a = rw (none_to_hold 0) (simp (le-ltb room 0 (omega arith)))

    module _ (p : List ℕ) where
      abbrev f : ℕ
      f = flags p

      abbrev a : Added
      a = added_from l f (count p)

      abbrev user : ℕ
      user = user_octets l.settings p

      not_if : (m n : ℕ) → eqb f m ≡ true → (m ≡ n → ⊥) → eqb f n ≡ false
      not_if m n e d = ne_eqb f n (λ z. d (sym (eqb-true f m e) ∙ z))

      grouping : refusal_of (settle ls i (grouping_plan l f (count p) user room)) ≡ Last (would_group l p) (would_write l p)
      unfolding grouping_plan would_group would_write
      grouping =
          either (eqb f 3)
          (λ e. simp (e, not_if 3 1 e (λ z. omega arith), not_if 3 0 e (λ z. omega arith)) (to_end a false user))
          (λ e. either (eqb f 1) (λ g. simp (e, g, not_if 1 2 g (λ z. omega arith)) (to_hold a false user))
          (λ g. either (goes_on l f (count p))
          (λ on. either (eqb f 0)
          (λ h. simp (e, g, h, not_if 0 2 h (λ z. omega arith), on) (to_hold a true (l.octets + user)))
          (λ h.
          let ends : eqb f 2 ≡ true = eq-eqb f 2 (omega (arith, eqb-false f 3 e, eqb-false f 1 g, eqb-false f 0 h)) in
          simp (e, g, h, ends, on) (to_end a true (l.octets + user))))
          (λ on. simp (e, g, on, and_false) (to_stray a))))

-- ---- all tests: reading and 12 to 17 come to `fault`, and where that is 0 the rest is asked
reading_numbers : (p : List ℕ) → Numbers (numbers_of (reading_tests p))
unfolding reading_tests
reading_numbers p = either (is_space p) (λ e. simp e (omega arith)) (λ e. simp e (omega arith))

lane_numbers : (t : Terms) (p : List ℕ) → Numbers (numbers_of (lane_tests t p))
lane_numbers t p = omega arith

pub faults : (t : Terms) (p : List ℕ) (rest : List (Test (List ℕ)))
    → first 0 (numbers_of (reading_tests p ++ lane_tests t p ++ rest)) ≡ cond (not (eqb (fault t p) 0)) (fault t p) (first 0 (numbers_of rest))
unfolding refusal fault
faults t p rest =
    let read = numbers_of (reading_tests p) in
    let lane = numbers_of (lane_tests t p) in
    let same : first 0 (read ++ lane) ≡ fault t p = first_append 0 read lane ∙ first_unless (first 0 lane) read (reading_numbers p) ∙ rw (in_order p) in
    rw (numbers_of_append (reading_tests p ++ lane_tests t p) rest, numbers_of_append (reading_tests p) (lane_tests t p))
    (first_append 0 (read ++ lane) (numbers_of rest)
    ∙ first_unless (first 0 (numbers_of rest)) (read ++ lane) (numbers_append read lane (reading_numbers p) (lane_numbers t p)) ∙ rw same)

pub ordered : (s : State) → Shaped s → (i : ℕ) (p : List ℕ) (octets room : ℕ) → refusal_of (packet_step s i p octets room) ≡ first 0 (numbers_of (packet_tests s i p octets room))
unfolding packet_step packet_plan accepted_plan settle
ordered s shape i p octets room =
    let l : Lane = lane_at s i in
    either (unsound s octets) (λ e. simp e)
    (λ e. simp e (either (not l.opened) (λ a. simp a)
    (λ a. simp a (rw (faults (terms_of l) p _) (either (not (eqb (refusal p) 0))
    (λ r.
    let some = eqb-false _ _ (not-true _ r) in
    let e = of_its_name (refusal p) (omega (arith, some)) (omega (arith, refusal_most p)) in
    rw (fault_read (terms_of l) p some) (simp (r, e)))
    (λ r. simp r (either (not (eqb (fault (terms_of l) p) 0))
    (λ b.
    let some = eqb-false _ _ (not-true _ b) in
    let e = of_its_name (fault (terms_of l) p) (omega (arith, some)) (omega (arith, fault_most (terms_of l) p)) in
    simp (b, e))
    (λ b. simp b (either (repeats l (count p)) (λ c. simp c)
    (λ c. simp c (either (leb most_packets l.packets) (λ d. simp d)
    (λ d. simp d (grouping s.lanes i room (share_fits s.lanes i (not-false _ a) 0 (omega (arith, none_held)) (is_sound s shape (then_sound s octets e).0).room) p)))))))))))))
