-- Sums that are reduced at the end are those that are reduced at each step: what is added to a sum is added to what is left of it modulo the base.
use Prim.Native.Nat.{ℕ, suc, ◌+◌, ◌%◌, ◌<◌}
use mathlib.Core.Path.{◌≡◌, ap, ◌∙◌}
use mathlib.Core.List.{List, ◌∷◌, ◌++◌}
use native.Mathlib.Numerals.{add-one}
use native.Mathlib.Omega.{arith}
use lib.ListN.{length, get_or, drop}
use lib.Seq.{drop-cons}
use Rattle.adler.specs.Adler.{base, plus, adler_from}

left_reduced : (m n : ℕ) → plus (m % base) n ≡ plus m n
left_reduced m n = omega arith

right_reduced : (m n : ℕ) → plus m (n % base) ≡ plus m n
right_reduced m n = omega arith

one_added : (a b x : ℕ) (s : List ℕ) → adler_from (a % base) (b % base) (x ∷ s) ≡ adler_from (plus a x) (plus b (a + x)) s
unfolding adler_from
one_added a b x s =
    let first = left_reduced a x in
    let second = ap (plus (b % base)) first ∙ left_reduced b (plus a x) ∙ right_reduced b (a + x) in
    ap (λ (n : ℕ). adler_from (plus (a % base) x) n s) second ∙ ap (λ (n : ℕ). adler_from n (plus b (a + x)) s) first

-- the octet at index i
pub octet_added : (s rest : List ℕ) (a b i : ℕ) → i < length s
    → adler_from (a % base) (b % base) (drop i s ++ rest) ≡ adler_from (plus a (get_or s i 0)) (plus b (a + get_or s i 0)) (drop (i + 1) s ++ rest)
octet_added s rest a b i h = rw (add-one i, drop-cons s i 0) (one_added a b (get_or s i 0) (drop (suc i) s ++ rest))
