-- A writer that refuses leaves the output as it was; one that doesn't puts its text there: the two ways in which each writer ends.
use Prim.Native.Nat.{ℕ, ◌<◌}
use mathlib.Core.Path.{◌≡◌, sym, ap}
use mathlib.Core.List.{List, [], ◌∷◌}
use native.Mathlib.Omega.{arith}
use borrow.Author.Tests.{eq-eqb, ne_eqb}
use Rattle.octets.specs.Order.{Test, first, numbers_of}
use Rattle.octets.specs.Output.{leading, unless_refused, put, output_after}
use Rattle.octets.proofs.Order.{Numbers, told_values, told_number, set_anew, kept}

module _ (refusal : ℕ) (text out : List ℕ) where
  pub accepted : refusal ≡ 0 → put out 0 text ≡ output_after refusal text out
  unfolding output_after
  accepted e = simp (eq-eqb refusal 0 e)

  pub refused : 0 < refusal → out ≡ output_after refusal text out
  unfolding output_after
  refused h = simp (ne_eqb refusal 0 (λ z. omega arith))

-- the other way round: what a writer told says how it ended, also for a number of octets that is lent by pointer
module _ (octets : ℕ) (tests : List (Test (List ℕ))) (some : Numbers (numbers_of tests)) (old : ℕ) where
  abbrev told : List ℕ
  told = first (0 ∷ octets ∷ []) tests

  pub told_octets : (n : ℕ) → 0 ∷ n ∷ [] ≡ told → (0 ≡ leading told) × (n ≡ unless_refused (leading told) octets old)
  told_octets n e = set_anew (leading told) octets old n (sym (ap leading e)) (ap leading (told_values (octets ∷ []) tests some (n ∷ []) e))

  pub told_refusal : (number : ℕ) → number ∷ [] ≡ told → (number ≡ leading told) × (old ≡ unless_refused (leading told) octets old)
  told_refusal number e = kept (leading told) octets old number (sym (ap leading e), omega (arith, ap leading e, told_number octets [] tests some number e))
