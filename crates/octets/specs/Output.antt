-- What a call tells, and what it leaves of something that was lent to it. A refusal is the paper's number, and 0 stands for none.
use Rattle.std.specs.Prelude.{ℕ, ◌+◌, List, ◌++◌, cond, length, take, drop, get_or, eqb, leb}

-- what a call tells is a list of numbers: 0 and its values; or the refusal and what belongs to it. The refusal alone is the number in front
abbrev pub leading : List ℕ → ℕ
leading told = get_or told 0 0

-- what it leaves of something lent: the new value; or, where it refuses, the old one
abbrev pub unless_refused : {A : Type 0} → ℕ → A → A → A
unless_refused refusal new old = cond (eqb refusal 0) new old

-- an output d with text in it from index at on, where the text fits; every other octet stays
unfoldable pub put : List ℕ → ℕ → List ℕ → List ℕ
put d at text = take at d ++ text ++ drop (at + length text) d

-- the same, and d where the text doesn't fit
unfoldable pub put_if_fits : List ℕ → ℕ → List ℕ → List ℕ
put_if_fits d at text = cond (leb (at + length text) (length d)) (put d at text) d

-- a writer leaves its text at the front of the output
unfoldable pub output_after : ℕ → List ℕ → List ℕ → List ℕ
output_after refusal text out = unless_refused refusal (put out 0 text) out
