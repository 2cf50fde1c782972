-- A number of the table is that of the refusal that it names, since the list has them in its order.
use Prim.Native.Nat.{ℕ, zero, suc, ◌+◌, ◌≤◌, ◌<◌}
use mathlib.Core.Path.{◌≡◌, refl}
use mathlib.Core.Bool.{Bool, true, false, ◌&&◌}
use mathlib.Core.List.{List, [], ◌∷◌}
use native.Mathlib.Omega.{arith}
use borrow.Author.Tests.{eqb-true}
use lib.Dec.{eqb}
use lib.ListN.{length, get_or}
use Rattle.refusal.specs.declared.Refusal.{Refusal}
use Rattle.refusal.specs.declared.Refusal.TheVariants as refusal
use Rattle.refusal.specs.Refusal.{number, every, named}

-- their numbers go up by one from n
abbrev counts_from : ℕ → List Refusal → Bool
counts_from n [] = true
counts_from n (r ∷ rs) = eqb (number r) n && counts_from (suc n) rs

both : (a b : Bool) → a && b ≡ true → (a ≡ true) × (b ≡ true)
both true b e = (refl, e)
both false b e = absurd (cc)

at : (n i : ℕ) (rs : List Refusal) → counts_from n rs ≡ true → i < length rs → number (get_or rs i refusal.CutShort) ≡ n + i
at n i [] e h = absurd (omega arith)
at n zero (r ∷ rs) e h = omega (arith, eqb-true (number r) n (both _ _ e).0)
at n (suc i) (r ∷ rs) e h = omega (arith, at (suc n) i rs (both _ _ e).1 (omega arith))

pub of_its_name : (k : ℕ) → 0 < k → k ≤ 28 → number (named k) ≡ k
of_its_name zero some few = absurd (omega arith)
of_its_name (suc i) some few = omega (arith, at 1 i every refl (omega arith))
