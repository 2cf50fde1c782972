-- What the writers tell fixes the answer, so each promise permits one.
use Prim.Native.Nat.{ℕ}
use mathlib.Core.Path.{◌≡◌, sym, ap, ◌∙◌}
use mathlib.Core.List.{List, [], ◌∷◌}
use native.Mathlib.Omega.{arith}
use Rattle.std.specs.Prelude.{Result, Ok, Err, IsErr, IsErrAnd}
use Rattle.refusal.specs.Refusal.{number}
use Rattle.refusal.specs.declared.Refusal.{Refusal}
use Rattle.refusal.proofs.Named.{alike, some as above_0}
use Rattle.writing.specs.Told.{told}

told_fixes : (a b : Result ℕ Refusal) → told a ≡ told b → a ≡ b
told_fixes (Ok n) (Ok m) e = cc
told_fixes (Err k) (Err m) e = let f = alike k m cc in cc
told_fixes (Ok n) (Err m) e = let z : number m ≡ 0 = cc in absurd (omega (arith, above_0 m))
told_fixes (Err k) (Ok m) e = let z : number k ≡ 0 = cc in absurd (omega (arith, above_0 k))

pub one_answer : (a b : Result ℕ Refusal) (t : List ℕ) → told a ≡ t → told b ≡ t → a ≡ b
one_answer a b t e f = told_fixes a b (e ∙ sym f)

-- a refusal that `?` hands on is told as it was
pub handed_on : (r : Result ℕ Refusal) (refusal : Refusal) → IsErr r → IsErrAnd r (λ k. k ≡ refusal) → told r ≡ number refusal ∷ []
handed_on (Ok n) refusal is same = elim same [ ]
handed_on (Err k) refusal is same = ap (λ q. number q ∷ []) same
