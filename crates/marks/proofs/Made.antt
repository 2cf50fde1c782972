-- What an array is that is made of another element by element, where the closure stays as it is and gives h of the element there.
use Prim.Native.Nat.{ℕ, zero, suc, ◌+◌, ◌≤◌, ◌<◌}
use mathlib.Core.Path.{◌≡◌, ap, refl}
use mathlib.Core.List.{List, ◌∷◌, map}
use native.Mathlib.Numerals.{add-one}
use native.Mathlib.Omega.{arith}
use denote.Param.Members.{Mut, Called}
use lib.ListN.{length, get_or, drop, drop_of_length-le}
use lib.Seq.{drop-cons}
use Rattle.std.specs.Array.{IsFromFnResultFrom, IsFromFnResult}

module _ {F : Type 0} (g : Mut F (ℕ × Unit {0}) ℕ) (h : ℕ → ℕ) (xs : List ℕ) (f : F)
    (pure : (i r : ℕ) (q : F) → Called g f (i, tt) r q → (q ≡ f) × (r ≡ h (get_or xs i 0))) where
  left : (q : F) → q ≡ f → (ys : List ℕ) (i n : ℕ) → length xs ≡ i + n → length ys ≡ i + n → IsFromFnResultFrom g q ys i n → drop i ys ≡ map h (drop i xs)
  left q e ys i zero long-xs long-ys m =
      let end-xs : length xs ≤ i = omega arith in
      let end-ys : length ys ≤ i = omega arith in
      rw (drop_of_length-le xs end-xs, drop_of_length-le ys end-ys)
  left q e ys i (suc n) long-xs long-ys m =
      let in-xs : i < length xs = omega arith in
      let in-ys : i < length ys = omega arith in
      let told = pure i m.1 m.0 (rw e at m.3) in
      let rest = left m.0 told.0 ys (i + 1) n (omega arith) (omega arith) m.4 in
      rw (drop-cons ys i m.1, drop-cons xs i 0, m.2.0, told.1) (ap (λ (r : List ℕ). h (get_or xs i 0) ∷ r) (rw add-one at rest))

  pub made : (ys : List ℕ) (n : ℕ) → length xs ≡ n → IsFromFnResult g f ys n → ys ≡ map h xs
  made ys n long is = left f refl ys 0 n (omega arith) (omega (arith, is.long)) is.each
