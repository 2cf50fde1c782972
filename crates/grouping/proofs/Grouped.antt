-- What the code works out in steps is the grouping rule's: one law for each way out.
use Rattle.std.proofs.Common.{◌≡◌, ℕ, ◌+◌, Bool, true, false, cond, not, ◌&&◌, ◌||◌, eqb, ltb, ◌⊎◌, refl, ◌∙◌, inl, inr, zero-add, eq-eqb, ne_eqb}
use borrow.Author.Tests.{not-false}
use Rattle.lane.specs.declared.Lane.{Lane}
use Rattle.grouping.specs.declared.Added.{Added}
use Rattle.std.specs.Prelude.{Result, Ok}
use Rattle.grouping.specs.declared.Step.TheVariants.{Stray}
use Rattle.grouping.specs.declared.Refused.{Refused}
use Rattle.grouping.specs.declared.Plan.{Plan}
use Rattle.grouping.specs.declared.Plan.TheVariants.{Sure}
use Rattle.grouping.specs.Grouping.{missing_before, breaks, gives_up, goes_on}
use Rattle.grouping.specs.Plans.{hold_plan, unit_plan, grouping_plan}

-- flags 1 and 3 break an open group
or_first : (a b : Bool) → a || true || b ≡ true
or_first true b = refl
or_first false b = refl

or_last : (a : Bool) → a || true ≡ true
or_last true = refl
or_last false = refl

and_false : (a : Bool) → a && false ≡ false
and_false true = refl
and_false false = refl

breaks_anew : (m f : ℕ) → (f ≡ 1) ⊎ (f ≡ 3) → breaks m f ≡ true
unfolding breaks
breaks_anew m f (inl e) = rw (eq-eqb f 1 e) (or_first (ltb 0 m) (eqb f 3))
breaks_anew m f (inr e) = rw (eq-eqb f 3 e) (or_last (ltb 0 m || eqb f 1))

-- m packets are missing, b says whether that or the flags break a group, and k octets are those of the group and the user data
module _ (l : Lane) (f c n room m : ℕ) (em : m ≡ missing_before l c) (b : Bool) (eb : b ≡ breaks m f)
    (k : ℕ) (ek : k ≡ cond (l.grouped && not b) l.octets 0 + n) where
  abbrev taken : Added
  taken = record { missing = m; given_up = l.grouped && b; count = c }

  abbrev on : Bool
  on = l.grouped && not b

  abbrev Plans : Result Plan Refused → Type 0
  Plans p = p ≡ grouping_plan l f c n room

  -- the old group does not go on
  module _ (new : (f ≡ 1) ⊎ (f ≡ 3)) where
    off : on ≡ false
    off = rw (eb ∙ breaks_anew m f new) (and_false l.grouped)

    alone : k ≡ n
    alone = ek ∙ rw (off, zero-add)

  pub unsegmented : (p : Result Plan Refused) → p ≡ unit_plan room taken on k → f ≡ 3 → Plans p
  unfolding grouping_plan gives_up
  unsegmented p e h = e ∙ rw (off (inr h), alone (inr h)) (simp (eb, em, eq-eqb f 3 h))

  module _ (not3 : f ≡ 3 → ⊥) where
    pub begins : (p : Result Plan Refused) → p ≡ hold_plan l.settings taken on k → f ≡ 1 → Plans p
    unfolding grouping_plan gives_up
    begins p e h = e ∙ rw (off (inl h), alone (inl h)) (simp (eb, em, ne_eqb f 3 not3, eq-eqb f 1 h))

    module _ (not1 : f ≡ 1 → ⊥) where
      goes_as : (t : Bool) → not on ≡ t → not (goes_on l f c) ≡ t
      unfolding goes_on
      goes_as t h = rw (← em, ← eb) h

      pub strays : not on ≡ true → Plans (Ok (Sure (Stray taken)))
      unfolding grouping_plan gives_up
      strays h = simp (goes_as true h, eb, em, ne_eqb f 3 not3, ne_eqb f 1 not1)

      module _ (goes : not on ≡ false) where
        joins : on ≡ true
        joins = not-false on goes

        together : k ≡ l.octets + n
        together = ek ∙ rw joins

        pub continues : (p : Result Plan Refused) → p ≡ hold_plan l.settings taken on k → f ≡ 0 → Plans p
        unfolding grouping_plan gives_up
        continues p e h = e ∙ rw (joins, together) (simp (goes_as false goes, eb, em, ne_eqb f 3 not3, ne_eqb f 1 not1, eq-eqb f 0 h))

        pub ends : (p : Result Plan Refused) → p ≡ unit_plan room taken on k → (f ≡ 0 → ⊥) → Plans p
        unfolding grouping_plan gives_up
        ends p e h = e ∙ rw (joins, together) (simp (goes_as false goes, eb, em, ne_eqb f 3 not3, ne_eqb f 1 not1, ne_eqb f 0 h))
