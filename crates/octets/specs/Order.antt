-- An order of refusals is a list of tests, each with what it gives. The answer is what the first test that holds gives.
use Rattle.std.specs.Prelude.{ℕ, List, [], ◌∷◌, Bool, true, false, cond, ◌≡◌}
use Rattle.octets.specs.Output.{leading}

infix 15 ◌gives◌
pub data Test (A : Type 0) : Type 0 where
  ◌gives◌ : Bool → A → Test A

-- what the first test that holds gives, and `otherwise` where none does
abbrev pub first : {A : Type 0} → A → List (Test A) → A
first otherwise [] = otherwise
first otherwise ((b gives a) ∷ tests) = cond b a (first otherwise tests)

-- the same as a fact: why a is the answer. The test that gives it holds and every test before it fails; or all fail
pub data Because {A : Type 0} (otherwise : A) : List (Test A) → A → Type 0 where
  none : Because otherwise [] otherwise
  holds : {b : Bool} {a : A} {tests : List (Test A)} → b ≡ true → Because otherwise ((b gives a) ∷ tests) a
  fails : {b : Bool} {a c : A} {tests : List (Test A)} → b ≡ false → Because otherwise tests a → Because otherwise ((b gives c) ∷ tests) a

-- the order of the numbers alone, where each test gives what is told
abbrev pub numbers_of : List (Test (List ℕ)) → List (Test ℕ)
numbers_of [] = []
numbers_of ((b gives told) ∷ tests) = (b gives leading told) ∷ numbers_of tests
