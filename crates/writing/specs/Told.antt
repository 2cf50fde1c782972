-- What the writers' answers tell, as the paper's number and value.
use Rattle.std.specs.Prelude.{ℕ, List, [], ◌∷◌, Result, Ok, Err, ⊤}
use Rattle.refusal.specs.Refusal.{number}
use Rattle.refusal.specs.declared.Refusal.{Refusal}

-- no refusal (0) and the octets written; or the number of the refusal
abbrev pub told : Result ℕ Refusal → List ℕ
told (Ok n) = 0 ∷ n ∷ []
told (Err refusal) = number refusal ∷ []

-- what was found before anything is written: no refusal (0), or the number of the refusal
abbrev pub checked : Result ⊤ Refusal → ℕ
checked (Ok done) = 0
checked (Err refusal) = number refusal
