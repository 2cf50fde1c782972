-- Demand 1: a public entry as its caller sees it, and what is asked of every one.
use Rattle.std.specs.Prelude.{ℕ, ◌≡◌, List}
use Rattle.octets.specs.Order.{Test, Because, numbers_of}
use Rattle.octets.specs.Output.{leading}

pub record Entry : Type 1 where
  -- all that it is given, what it answers, and what a call may change: state, pool, output, numbers
  pub Given : Type 0
  pub Answer : Type 0
  pub Lent : Type 0
  -- what it may change, as it is given
  pub before : Given → Lent
  -- what an answer tells: 0 and its values, or the refusal's number and what belongs to it
  pub told : Answer → List ℕ
  -- the causes of refusal with what each tells, in the paper's order
  pub tests : Given → List (Test (List ℕ))
  -- its promise: what is told, and what is left of what it may change
  pub tells : Given → List ℕ
  pub leaves : Given → Lent

-- what the promise permits: an answer, and what it may change as it is after the call
abbrev pub Permits : (e : Entry) → e.Given → e.Answer → e.Lent → Type 0
Permits e g a l = (e.told a ≡ e.tells g) × (l ≡ e.leaves g)

-- the refusal's number, and 0 for none
abbrev pub number_for : (e : Entry) → e.Given → ℕ
number_for e g = leading (e.tells g)

pub record Asked (e : Entry) : Type 0 where
  -- every input has an answer
  pub answers : (g : e.Given) → (a : e.Answer) × (e.told a ≡ e.tells g)
  -- a number is given exactly when a cause of it holds and no earlier one does, and 0 where none holds, or first one that gives 0
  pub exactly : (g : e.Given) (n : ℕ)
      → (number_for e g ≡ n → Because 0 (numbers_of (e.tests g)) n) × (Because 0 (numbers_of (e.tests g)) n → number_for e g ≡ n)
  -- refused means unchanged
  pub unchanged : (g : e.Given) → (number_for e g ≡ 0 → ⊥) → e.leaves g ≡ e.before g
  -- two answers that tell the same are equal; so two permitted ones are, of every entry
  pub one_answer : (a b : e.Answer) → e.told a ≡ e.told b → a ≡ b
