-- What a plan for a packet obeys, from a fine lane. What carries it: a packet that is counted keeps the lane fine (`counted_fine`), and the plan
-- is followed test by test.
use Rattle.std.proofs.Common.{◌≡◌, ℕ, ◌+◌, ◌-◌, ◌*◌, ◌%◌, ◌<◌, ◌≤◌, Bool, true, false, cond, not, ◌&&◌, eqb, ltb, leb, List, sym, refl, ◌∙◌, true≢false, zero-add, arith, ltb-false, eqb-true, leb-false}
use borrow.Author.Tests.{eqb-false, not-true, not-false}
use Rattle.octets.proofs.Order.{both}
use Rattle.packet.specs.Space.{flags, counts, count}
use Rattle.reading.specs.Reading.{refusal}
use Rattle.record.specs.Record.{most_packets, most_between}
use Rattle.marks.specs.Blocks.{blocks_for}
use Rattle.lane.specs.declared.Lane.{Lane}
use Rattle.grouping.specs.declared.Added.{Added}
use Rattle.std.specs.Prelude.{Result, Ok, Err}
use Rattle.refusal.specs.Refusal.{number, named}
use Rattle.refusal.specs.declared.Refusal.{Refusal}
use Rattle.refusal.proofs.Numbers.{of_its_name}
use Rattle.grouping.specs.declared.Refused.{Refused}
use Rattle.grouping.specs.declared.Refused.TheVariants as refused
use Rattle.grouping.specs.declared.Step.TheVariants.{Repeat, Stray, Hold, Unit}
use Rattle.grouping.specs.declared.Plan.{Plan}
use Rattle.grouping.specs.declared.Plan.TheVariants.{Sure, Ask}
use Rattle.octets.specs.Octets.{one}
use Rattle.lane.specs.Lane.{fine}
use Rattle.grouping.specs.Packets.{terms_of, fault, user_octets}
use Rattle.grouping.specs.Grouping.{missing_before, breaks, gives_up, goes_on, added_from}
use Rattle.grouping.specs.Grouping as rule
use Rattle.grouping.specs.Plans.{hold_plan, unit_plan, grouping_plan, accepted_plan, packet_plan}
use Rattle.grouping.specs.Plans as plans
use Rattle.grouping.specs.Steps.{counted, lane_after}
use Rattle.grouping.proofs.Accepted.{fault_least, fault_most}
use Rattle.lane.proofs.Fine.{Tallies, Fine, is_fine, fine_is}

-- what holds of both outcomes of a test holds of the choice
pub of_either : {A : Type 0} (P : A → Type 0) (b : Bool) {x y : A} → (b ≡ true → P x) → (b ≡ false → P y) → P (cond b x y)
of_either P true f g = f refl
of_either P false f g = g refl

pub data Planned (l : Lane) (s : List ℕ) (room : ℕ) : Result Plan Refused → Type 0 where
  refuses : (r : Refusal) → 8 ≤ number r → Planned l s room (Err (refused.Untaken r))
  unread : (refusal s ≡ 0 → ⊥) → Planned l s room (Err (refused.Unread (plans.unread s)))
  repeats : Planned l s room (Ok (Sure Repeat))
  strays : (a : Added) → l.opened ≡ true → fault (terms_of l) s ≡ 0 → fine (lane_after l (Ok (Stray a))) ≡ true → Planned l s room (Ok (Sure (Stray a)))
  ends : (a : Added) (on : Bool) (n : ℕ) → l.opened ≡ true → fault (terms_of l) s ≡ 0 → fine (lane_after l (Ok (Unit a on n))) ≡ true
      → n ≡ cond on l.octets 0 + user_octets l.settings s → n ≤ room → Planned l s room (Ok (Sure (Unit a on n)))
  holds : (a : Added) (on : Bool) (n : ℕ) → l.opened ≡ true → fault (terms_of l) s ≡ 0 → fine (lane_after l (Ok (Hold a on n))) ≡ true
      → n ≡ cond on l.octets 0 + user_octets l.settings s → (on ≡ true → l.grouped ≡ true) → Planned l s room (Ok (Ask n (named 27) (Hold a on n)))

-- ---- the lane after a packet is counted
-- a packet that is no repeat misses at most 16,382
missing_most : (l : Lane) (c : ℕ) → rule.repeats l c ≡ false → c < counts → l.last < counts → l.missing ≤ most_between * (l.packets - 1)
    → l.missing + missing_before l c ≤ most_between * l.packets
unfolding rule.repeats missing_before
missing_most l c new small last h =
    of_either (λ (m : ℕ). l.missing + m ≤ most_between * l.packets) (eqb l.packets 0) (λ e. omega (arith, eqb-true l.packets 0 e))
    (λ e.
    let other : eqb c l.last ≡ false = simp e at new in
    let few : (c + 65536 - (l.last + 1)) % counts ≤ most_between = omega (arith, eqb-false c l.last other) in
    omega (arith, eqb-false l.packets 0 e))

given_up_most : (a b : Bool) → one (a && b) ≤ one a
unfolding one
given_up_most true true = omega arith
given_up_most true false = omega arith
given_up_most false b = omega arith

module _ (l : Lane) (f c : ℕ) (is : Fine l) (on : l.opened ≡ true) (new : rule.repeats l c ≡ false) (few : l.packets < most_packets) (small : c < counts) where
  counted_fine : (units : ℕ) (grouped : Bool) (n : ℕ) → units + one grouped ≤ 1 → blocks_for n ≤ l.settings.cap → (grouped ≡ false → n ≡ 0)
      → fine (counted l (added_from l f c) units grouped n) ≡ true
  unfolding gives_up
  counted_fine units grouped n single cap none =
      let t : Tallies l = is.tallies in
      fine_is (counted l (added_from l f c) units grouped n) (record {
        legal = is.legal;
        within = cap;
        nothing = none;
        shut = λ e. absurd (true≢false (sym on ∙ e));
        last = omega arith;
        tallies = record {
          apid = t.apid;
          packets = omega arith;
          units = omega (arith, t.units, given_up_most l.grouped (breaks (missing_before l c) f));
          missing = let m : l.missing + missing_before l c ≤ most_between * l.packets = missing_most l c new small is.last t.missing in omega arith;
        };
      })

-- ---- the plan, test by test
module _ (l : Lane) (s : List ℕ) (room : ℕ) (is : Fine l) where
  abbrev Obeys : Result Plan Refused → Type 0
  Obeys = Planned l s room

  abbrev added : Added
  added = added_from l (flags s) (count s)

  abbrev on : Bool
  on = goes_on l (flags s) (count s)

  abbrev user : ℕ
  user = user_octets l.settings s

  on_grouped : on ≡ true → l.grouped ≡ true
  unfolding goes_on
  on_grouped e = (both l.grouped (not (breaks (missing_before l (count s)) (flags s))) e).0

  module _ (open' : l.opened ≡ true) (good : fault (terms_of l) s ≡ 0) (new : rule.repeats l (count s) ≡ false) (few : l.packets < most_packets) where
    after : (units : ℕ) (grouped : Bool) (k : ℕ) → units + one grouped ≤ 1 → blocks_for k ≤ l.settings.cap → (grouped ≡ false → k ≡ 0)
        → fine (counted l added units grouped k) ≡ true
    after = counted_fine l (flags s) (count s) is open' new few (omega arith)

    to_hold : (on : Bool) (n : ℕ) → n ≡ cond on l.octets 0 + user → (on ≡ true → l.grouped ≡ true) → Obeys (hold_plan l.settings added on n)
    unfolding hold_plan one lane_after
    to_hold on n is-joined grouped =
        of_either Obeys (ltb l.settings.cap (blocks_for n)) (λ e. refuses (named 19) (omega arith))
        (λ e. holds added on n open' good (after 0 true n (omega arith) (ltb-false _ _ e) (λ z. absurd (true≢false z))) is-joined grouped)

    to_end : (on : Bool) (n : ℕ) → n ≡ cond on l.octets 0 + user → Obeys (unit_plan room added on n)
    unfolding unit_plan one lane_after blocks_for
    to_end on n is-joined =
        of_either Obeys (ltb room n) (λ e. refuses (named 20) (omega arith))
        (λ e. ends added on n open' good (after 1 false 0 (omega arith) (omega arith) (λ z. refl)) is-joined (ltb-false _ _ e))

    to_stray : Obeys (Ok (Sure (Stray added)))
    unfolding one lane_after blocks_for
    to_stray = strays added open' good (after 0 false 0 (omega arith) (omega arith) (λ z. refl))

    grouping : Obeys (grouping_plan l (flags s) (count s) user room)
    unfolding grouping_plan
    grouping =
        of_either Obeys (eqb (flags s) 3) (λ e. to_end false user (sym (zero-add user)))
        (λ e. of_either Obeys (eqb (flags s) 1) (λ f. to_hold false user (sym (zero-add user)) (λ z. absurd (true≢false (sym z))))
        (λ f. of_either Obeys (not on) (λ g. to_stray)
        (λ g. of_either Obeys (eqb (flags s) 0)
        (λ h. to_hold true (l.octets + user) refl (λ z. on_grouped (not-false on g)))
        (λ h. to_end true (l.octets + user) refl))))

pub planned : (l : Lane) (s : List ℕ) (room : ℕ) → fine l ≡ true → Planned l s room (packet_plan l s room)
unfolding packet_plan accepted_plan
planned l s room h =
    let is : Fine l = is_fine l h in
    let P : Result Plan Refused → Type 0 = Planned l s room in
    of_either P (not l.opened) (λ e. refuses (named 11) (omega arith))
    (λ e. of_either P (not (eqb (refusal s) 0)) (λ r. unread (eqb-false _ _ (not-true _ r)))
    (λ r. of_either P (not (eqb (fault (terms_of l) s) 0))
    (λ f.
    let least = fault_least (terms_of l) s (eqb-true _ _ (not-false _ r)) (eqb-false _ _ (not-true _ f)) in
    refuses (named (fault (terms_of l) s)) (omega (arith, of_its_name (fault (terms_of l) s) (omega arith) (omega (arith, fault_most (terms_of l) s)), least)))
    (λ f. of_either P (rule.repeats l (count s)) (λ g. repeats)
    (λ g. of_either P (leb most_packets l.packets) (λ k. refuses (named 18) (omega arith))
    (λ k. grouping l s room is (not-false _ e) (eqb-true _ _ (not-false _ f)) g (leb-false _ _ k))))))
