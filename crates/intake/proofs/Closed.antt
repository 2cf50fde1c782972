-- The ways out of a closing: once the lane is open, the record writer's refusals are the closing's.
use Prim.Native.Nat.{ℕ}
use mathlib.Core.Path.{◌≡◌, refl, sym, ap, ◌∙◌}
use mathlib.Core.Bool.{Bool, true, false, not}
use mathlib.Core.List.{List, [], ◌∷◌}
use borrow.Author.Tests.{ne_eqb}
use native.Mathlib.Omega.{arith}
use lib.ListN.{length, set}
use Rattle.octets.specs.Output.{leading, output_after}
use Rattle.octets.proofs.Order.{leads_first}
use Rattle.record.specs.Record.{record_size}
use Rattle.record.specs.Writing.{writing_tests, record_told, writing_refusal, record_after}
use Rattle.record.specs.Told.{told_written}
use Rattle.record.specs.declared.Record.{Record}
use Rattle.std.specs.Prelude.{Result, Ok, Err}
use Rattle.refusal.specs.Refusal.{number, named}
use Rattle.refusal.specs.declared.Refusal.{Refusal}
use Rattle.refusal.proofs.Named.{some}
use Rattle.lane.specs.declared.Lane.{Lane}
use Rattle.lane.specs.Lane.{closed, credit_of, tallies_possible}
use Rattle.state.specs.declared.State.{State}
use Rattle.intake.specs.declared.Changed.{Changed}
use Rattle.state.specs.State.{lane_at, unsound}
use Rattle.intake.specs.Calls.{closing_refusal}
use Rattle.intake.specs.After.{changed_by, released_from, closing, closing_out}

abbrev pub Closes : State → ℕ → ℕ → List ℕ → Changed → List ℕ → Type 0
Closes s i n out r after = (r ≡ closing s i n (length out)) × (after ≡ closing_out s i n out)

module _ (s : State) (i n : ℕ) (out : List ℕ) (u : Bool) (eu : u ≡ unsound s n) where
  -- a refusal
  refused : (k : Refusal) → closing_refusal s i n (length out) ≡ number k → Closes s i n out (changed_by s (Err k)) out
  unfolding closing closing_out output_after
  refused k e = rw e (simp (ne_eqb (number k) 0 (λ z. omega (arith, some k, z))) (refl, refl))

  pub not_sound : u ≡ true → Closes s i n out (changed_by s (Err (named 24))) out
  unfolding closing_refusal
  not_sound h = refused (named 24) (simp (sym eu ∙ h))

  module _ (h24 : u ≡ false) (l : Lane) (el : l ≡ lane_at s i) where
    pub not_open : not l.opened ≡ true → Closes s i n out (changed_by s (Err (named 11))) out
    unfolding closing_refusal
    not_open h = refused (named 11) (simp (sym eu ∙ h24, ← el, h))

    module _ (h11 : not l.opened ≡ false) (credit : Record) (ec : credit ≡ credit_of l) where
      -- the writer's refusal is the closing's
      abbrev written : ℕ
      written = writing_refusal credit (length out)

      same : written ≡ closing_refusal s i n (length out)
      unfolding closing_refusal record_told tallies_possible
      same =
          let h : not (lane_at s i).opened ≡ false = rw (← el) h11 in
          leads_first (0 ∷ record_size ∷ []) (writing_tests credit (length out)) ∙ rw (ec, el) (simp (sym eu ∙ h24, h))

      module _ (w : Result ℕ Refusal) (ew : told_written w ≡ record_told credit (length out)) where
        out_after : (after : List ℕ) → after ≡ record_after credit out → after ≡ closing_out s i n out
        unfolding closing_out
        out_after after ea = ea ∙ rw (← same, ec, el)

        pub refuses : (k : Refusal) → w ≡ Err k → (after : List ℕ) → after ≡ record_after credit out → Closes s i n out (changed_by s (Err k)) after
        unfolding closing
        refuses k e after ea =
            let is : written ≡ number k = sym (ap leading (ap told_written (sym e) ∙ ew)) in
            (rw (← same, is) (simp (ne_eqb (number k) 0 (λ y. omega (arith, some k, y)))), out_after after ea)

        pub closes : (m : ℕ) → w ≡ Ok m → (after : List ℕ) → after ≡ record_after credit out → (marks : List ℕ) → marks ≡ released_from s.marks i l
            → (ls : List Lane) → ls ≡ set s.lanes i closed → Closes s i n out (changed_by s (Ok (record { lanes = ls; marks = marks }))) after
        unfolding closing
        closes m e after ea marks em ls els =
            let done : written ≡ 0 = sym (ap leading (ap told_written (sym e) ∙ ew)) in
            (rw (← same, done, els, em, el), out_after after ea)
