-- A test has two outcomes: what a proof needs to follow an order of refusals; and an answer is given exactly when it has its cause.
use Prim.Native.Nat.{ℕ, ◌<◌}
use Prim.{Unit}
use mathlib.Core.Path.{◌≡◌, refl, sym, ap, subst, ◌∙◌}
use mathlib.Core.List.{List, [], ◌∷◌, ◌++◌}
use mathlib.Core.Bool.{Bool, true, false, cond, not, ◌&&◌, ◌||◌, true≢false}
use native.Mathlib.Omega.{arith}
use borrow.Author.Tests.{eq-eqb, ne_eqb}
use lib.Dec.{eqb}
use lib.ListN.{length}
use Rattle.octets.specs.Output.{leading, unless_refused}
use Rattle.octets.specs.Order.{Test, ◌gives◌, first, Because, none, holds, fails, numbers_of}

pub either : {A : Type 0} (b : Bool) → (b ≡ true → A) → (b ≡ false → A) → A
either true f g = f refl
either false f g = g refl

-- a test that joins two
pub neither : (a b : Bool) → a || b ≡ false → (a ≡ false) × (b ≡ false)
neither true b e = absurd (true≢false e)
neither false b e = (refl, e)

pub both : (a b : Bool) → a && b ≡ true → (a ≡ true) × (b ≡ true)
both true b e = (refl, e)
both false b e = absurd (true≢false (sym e))

module _ {A : Type 0} (otherwise : A) where
  given : (tests : List (Test A)) (a : A) → Because otherwise tests a → first otherwise tests ≡ a
  given [] a none = refl
  given ((b gives c) ∷ tests) a (holds e) = simp e
  given ((b gives c) ∷ tests) a (fails e why) = simp e (given tests a why)

  verdict : (tests : List (Test A)) → Because otherwise tests (first otherwise tests)
  verdict [] = none
  verdict ((true gives c) ∷ tests) = holds refl
  verdict ((false gives c) ∷ tests) = fails refl (verdict tests)

  -- the law, for every order of refusals
  pub exactly : (tests : List (Test A)) (a : A) → (first otherwise tests ≡ a → Because otherwise tests a) × (Because otherwise tests a → first otherwise tests ≡ a)
  exactly tests a = (λ e. subst (Because otherwise tests) e (verdict tests), given tests a)

-- ---- orders one after another
pub first_append : {A : Type 0} (otherwise : A) (tests more : List (Test A)) → first otherwise (tests ++ more) ≡ first (first otherwise more) tests
first_append otherwise [] more = refl
first_append otherwise ((b gives a) ∷ tests) more = ap (cond b a) (first_append otherwise tests more)

-- none of the numbers is 0
abbrev pub Numbers : List (Test ℕ) → Type 0
Numbers [] = Unit {0}
Numbers ((b gives n) ∷ tests) = (0 < n) × Numbers tests

pub numbers_append : (tests more : List (Test ℕ)) → Numbers tests → Numbers more → Numbers (tests ++ more)
numbers_append [] more t m = m
numbers_append ((b gives n) ∷ tests) more t m = (t.0, numbers_append tests more t.1 m)

-- then what comes after the tests is asked where they give 0
pub first_unless : (rest : ℕ) (tests : List (Test ℕ)) → Numbers tests → first rest tests ≡ cond (not (eqb (first 0 tests) 0)) (first 0 tests) rest
first_unless rest [] t = refl
first_unless rest ((true gives n) ∷ tests) t = simp (ne_eqb n 0 (λ z. omega (arith, t.0)))
first_unless rest ((false gives n) ∷ tests) t = first_unless rest tests t.1

-- ---- the order of the numbers alone
pub numbers_of_append : (tests more : List (Test (List ℕ))) → numbers_of (tests ++ more) ≡ numbers_of tests ++ numbers_of more
numbers_of_append [] more = refl
numbers_of_append ((b gives told) ∷ tests) more = ap (λ rest. (b gives leading told) ∷ rest) (numbers_of_append tests more)

-- the number of what is told is what the order of the numbers gives
pub leads_first : (otherwise : List ℕ) (tests : List (Test (List ℕ))) → leading (first otherwise tests) ≡ first (leading otherwise) (numbers_of tests)
leads_first otherwise [] = refl
leads_first otherwise ((true gives told) ∷ tests) = refl
leads_first otherwise ((false gives told) ∷ tests) = leads_first otherwise tests

-- and where none of the numbers is 0, what was told says whether the call refused
pub told_values : (values : List ℕ) (tests : List (Test (List ℕ))) → Numbers (numbers_of tests) → (told : List ℕ) → 0 ∷ told ≡ first (0 ∷ values) tests → told ≡ values
told_values values [] some told e = cc
told_values values ((true gives t) ∷ tests) some told e = absurd (omega (arith, ap leading e, some.0))
told_values values ((false gives t) ∷ tests) some told e = told_values values tests some.1 told e

pub told_number : (v : ℕ) (rest : List ℕ) (tests : List (Test (List ℕ))) → Numbers (numbers_of tests) → (number : ℕ) → number ∷ [] ≡ first (0 ∷ v ∷ rest) tests → 0 < number
told_number v rest [] some number e = absurd (omega (arith, ap length e))
told_number v rest ((true gives t) ∷ tests) some number e = omega (arith, ap leading e, some.0)
told_number v rest ((false gives t) ∷ tests) some number e = told_number v rest tests some.1 number e

-- the other way round: a number that was settled first is what is told, where each test tells its number alone
abbrev pub Alone : List (Test (List ℕ)) → Type 0
Alone [] = Unit {0}
Alone ((b gives told) ∷ tests) = (told ≡ leading told ∷ []) × Alone tests

pub settled_number : (values : List ℕ) (tests : List (Test (List ℕ))) → Alone tests → (k : ℕ) → k ≡ leading (first (0 ∷ values) tests) → (k ≡ 0 → ⊥)
    → k ∷ [] ≡ first (0 ∷ values) tests
settled_number values [] alone k e u = absurd (u e)
settled_number values ((true gives told) ∷ tests) alone k e u = ap (λ n. n ∷ []) e ∙ sym alone.0
settled_number values ((false gives told) ∷ tests) alone k e u = settled_number values tests alone.1 k e u

pub settled_values : (values : List ℕ) (tests : List (Test (List ℕ))) → Numbers (numbers_of tests) → leading (first (0 ∷ values) tests) ≡ 0
    → 0 ∷ values ≡ first (0 ∷ values) tests
settled_values values [] some e = refl
settled_values values ((true gives told) ∷ tests) some e = absurd (omega (arith, e, some.0))
settled_values values ((false gives told) ∷ tests) some e = settled_values values tests some.1 e

-- ---- the two ways in which something lent ends
module _ {A : Type 0} (refusal : ℕ) (new old : A) where
  pub set_anew : (x : A) → refusal ≡ 0 → x ≡ new → (0 ≡ refusal) × (x ≡ unless_refused refusal new old)
  set_anew x r e = (sym r, simp (eq-eqb refusal 0 r) e)

  pub kept : (number : ℕ) → (refusal ≡ number) × (0 < refusal) → (number ≡ refusal) × (old ≡ unless_refused refusal new old)
  kept number (r, some) = (sym r, simp (ne_eqb refusal 0 (λ z. omega arith)))
