-- Why a packet is refused before the grouping rule, from what the reader says of its octets: one law for each way out.
use Rattle.std.proofs.Common.{◌≡◌, ℕ, ◌-◌, ◌<◌, ◌≤◌, Bool, true, false, cond, not, eqb, ltb, List, length, refl, sym, ap, ap₂, ◌∙◌, subst, arith, lt-ltb, le-ltb, ltb-false, eq-eqb, ne_eqb, eqb-true}
use Rattle.std.specs.Prelude.{Result, Ok, Err}
use Prim.{Unit, tt}
use borrow.Author.Tests.{eqb-false}
use Rattle.octets.proofs.Order.{either}
use Rattle.refusal.specs.Refusal.{named}
use Rattle.refusal.specs.declared.Refusal.{Refusal}
use Rattle.refusal.proofs.Named.{of_its_number}
use Rattle.packet.specs.Space.{version}
use Rattle.reading.specs.Reading.{size, refusal, reading}
use Rattle.reading.specs.Causes.{Whole, space, encapsulation}
use Rattle.packet.specs.Told.{told, size_of}
use Rattle.packet.specs.declared.Packet.{Packet}
use Rattle.packet.specs.declared.Packet.TheVariants.{Space, Encapsulation}
use Rattle.packet.specs.declared.Unread.{Unread}
use Rattle.reading.proofs.Exactly.{exactly_whole}
use Rattle.reading.proofs.Answers.{Says, says, size_told, read_told}
use Rattle.lane.specs.declared.Lane.{Lane}
use Rattle.grouping.specs.declared.Terms.{Terms}
use Rattle.grouping.specs.declared.Refused.TheVariants as refused
use Rattle.grouping.specs.Packets.{misflags, terms_of, fault}
use Rattle.grouping.specs.Faults.{judged, space_fault}
use Rattle.grouping.specs.Plans.{refusing, unread, packet_plan, accepted_plan}

-- a packet that is read is of version 0 or 7
version_read : (s : List ℕ) → refusal s ≡ 0 → (version s ≡ 0 → ⊥) → version s ≡ 7
version_read s e no0 = of_whole ((exactly_whole s).0 e)
  where
    of_whole : Whole s → version s ≡ 7
    of_whole (space t h) = absurd (no0 t.0.0.1)
    of_whole (encapsulation t h) = t.0.0.0.0.0.1

encapsulated : (p : Packet) (s : List ℕ) → Says (Ok p) s → ((t x a f c n : ℕ) → p ≡ Space t x a f c n → ⊥) → version s ≡ 7
encapsulated (Space t x a f c n) s w k = absurd (k t x a f c n refl)
encapsulated (Encapsulation i u x h n) s w k = version_read s w.0 w.1

-- the reader's refusal is that of its number
pub as_read : (u : Unread) (s : List ℕ) → Says (Err u) s → u ≡ unread s
as_read u s w = ap₂ (λ (r : Refusal) (q : ℕ). let v : Unread = record { refusal = r; place = q } in v) (sym (of_its_number u.refusal) ∙ ap named (sym w.0)) w.2

-- what is judged
judged_fine : (k : ℕ) → ◌≡◌ {A = Result (Unit {0}) Refusal} (Ok tt) (judged k) → k ≡ 0
judged_fine k e = either (eqb k 0) (λ b. eqb-true k 0 b) (λ b. let z : ◌≡◌ {A = Result (Unit {0}) Refusal} (Ok tt) (Err (named k)) = simp b at e in absurd (cc))

judged_faulty : (r : Refusal) (k : ℕ) → ◌≡◌ {A = Result (Unit {0}) Refusal} (Err r) (judged k) → (k ≡ 0 → ⊥) × (r ≡ named k)
judged_faulty r k e =
    either (eqb k 0) (λ b. let z : ◌≡◌ {A = Result (Unit {0}) Refusal} (Err r) (Ok tt) = simp b at e in absurd (cc))
    (λ b. let z : ◌≡◌ {A = Result (Unit {0}) Refusal} (Err r) (Err (named k)) = simp b at e in (eqb-false k 0 b, cc))

-- a Space Packet that is not refused has its secondary octets
some_fault : (b c d : Bool) → ◌≡◌ {A = ℕ} (cond b 14 (cond c 15 (cond d 16 17))) 0 → ⊥
some_fault true c d e = omega arith
some_fault false true d e = omega arith
some_fault false false true e = omega arith
some_fault false false false e = omega arith

pub long_enough : (terms : Terms) (t x a d : ℕ) → ◌≡◌ {A = Result (Unit {0}) Refusal} (Ok tt) (judged (space_fault terms t x a d)) → terms.settings.secondary ≤ d
unfolding space_fault
long_enough terms t x a d e =
    let z = judged_fine (space_fault terms t x a d) e in
    either (ltb d terms.settings.secondary) (λ b. absurd (some_fault (eqb t 1) (not (eqb a terms.settings.apid)) (misflags x terms.settings.secondary) (simp b at z))) (ltb-false d terms.settings.secondary)

-- the ways out of the plan for a packet
module _ (l : Lane) (s : List ℕ) (room : ℕ) where
  pub not_open : not l.opened ≡ true → refusing 11 ≡ packet_plan l s room
  unfolding packet_plan
  not_open h = simp h

  module _ (open' : not l.opened ≡ false) (r : Result Packet Unread) (read : told r ≡ reading s) where
    pub not_read : (u : Unread) → r ≡ Err u → Err (refused.Unread u) ≡ packet_plan l s room
    unfolding packet_plan
    not_read u is =
        let w : Says (Err u) s = says (Err u) s (ap told (sym is) ∙ read) in
        simp (open', ne_eqb (refusal s) 0 (λ z. omega (arith, w.0, w.1, z))) (rw (as_read u s w))

    module _ (p : Packet) (is : r ≡ Ok p) where
      said : Says (Ok p) s
      said = says (Ok p) s (ap told (sym is) ∙ read)

      was_read : refusal s ≡ 0
      was_read = read_told p s said

      sized : size_of (Ok p) ≡ size s
      sized = (size_told p s said).1

      pub octets_after : size_of (Ok p) < length s → refusing 12 ≡ packet_plan l s room
      unfolding packet_plan fault
      octets_after h =
          let b : ltb (size s) (length s) ≡ true = rw (← sized) (lt-ltb _ _ h) in
          simp (open', eq-eqb (refusal s) 0 was_read, b)

      module _ (none : length s ≤ size_of (Ok p)) where
        nothing_after : ltb (size s) (length s) ≡ false
        nothing_after = rw (← sized) (le-ltb _ _ none)

        pub not_space : ((t x a f c n : ℕ) → p ≡ Space t x a f c n → ⊥) → refusing 13 ≡ packet_plan l s room
        unfolding packet_plan fault
        not_space h = simp (open', eq-eqb (refusal s) 0 was_read, nothing_after, eq-eqb (version s) 7 (encapsulated p s said h))

        module _ (t x a f c n : ℕ) (space_packet : p ≡ Space t x a f c n) where
          in_space : Says (Ok (Space t x a f c n)) s
          in_space = subst (λ (q : Packet). Says (Ok q) s) space_packet said

          abbrev judge : ℕ
          judge = space_fault (terms_of l) t x a n

          -- a Space Packet is refused by its fields
          same_fault : judge ≡ fault (terms_of l) s
          unfolding space_fault fault
          same_fault =
              let w = in_space in
              simp (eq-eqb (refusal s) 0 was_read, nothing_after, ne_eqb (version s) 7 (λ e. omega (arith, w.1)), w.2, w.3, w.4, w.7)

          pub faulty : (e : Refusal) → ◌≡◌ {A = Result (Unit {0}) Refusal} (Err e) (judged judge) → Err (refused.Untaken e) ≡ packet_plan l s room
          unfolding packet_plan
          faulty e h =
              let j = judged_faulty e judge h in
              simp (open', eq-eqb (refusal s) 0 was_read, ← same_fault, ne_eqb judge 0 j.0) (rw j.1)

          pub fine : ◌≡◌ {A = Result (Unit {0}) Refusal} (Ok tt) (judged judge) → accepted_plan l f c (n - l.settings.secondary) room ≡ packet_plan l s room
          unfolding packet_plan
          fine h =
              let w = in_space in
              simp (open', eq-eqb (refusal s) 0 was_read, eq-eqb (fault (terms_of l) s) 0 (sym same_fault ∙ judged_fine judge h), ← w.5, ← w.6, ← w.7)
