-- Numbers are short: one of 64 bits has at most 20 digits.
use Prim.Native.Nat.{ℕ, zero, suc, ◌+◌, ◌*◌, ◌/◌, ◌^◌, ◌≤◌, ◌<◌}
use mathlib.Core.Path.{◌≡◌, refl}
use mathlib.Core.List.{List, [], ◌∷◌, ◌++◌}
use mathlib.Core.Bool.{Bool, true, false, cond}
use native.Mathlib.Nat.{pow-suc}
use native.Mathlib.Omega.{arith}
use borrow.Author.Tests.{ltb-false}
use lib.Dec.{ltb}
use lib.ListN.{length, length-append}
use Rattle.text.specs.Text.{digit, decimal_over, decimal, number, numbers}

-- n below 10 ^ (k + 1) has at most k + 1 digits
longer : (k n : ℕ) → n < 10 ^ suc k → 10 ≤ n → (digits : List ℕ) → ((j : ℕ) → n / 10 < 10 ^ suc j → length digits ≤ suc j)
    → length (digits ++ (digit n ∷ [])) ≤ suc k
longer zero n h l digits short = absurd (omega arith)
longer (suc k) n h l digits short =
    let below : n < 10 ^ suc k * 10 = rw (← (pow-suc 10 (suc k))) h in
    omega (arith, short k (omega arith), length-append digits (digit n ∷ []))

by_size : (k n : ℕ) → n < 10 ^ suc k → (digits : List ℕ) → ((j : ℕ) → n / 10 < 10 ^ suc j → length digits ≤ suc j)
    → (b : Bool) → ltb n 10 ≡ b → length (cond b (digit n ∷ []) (digits ++ (digit n ∷ []))) ≤ suc k
by_size k n h digits short true e = omega arith
by_size k n h digits short false e = longer k n h (ltb-false n 10 e) digits short

digits_over : (most n k : ℕ) → n < 10 ^ suc k → length (decimal_over most n) ≤ suc k
unfolding decimal_over
digits_over zero n k h = omega arith
digits_over (suc most) n k h = by_size k n h (decimal_over most (n / 10)) (digits_over most (n / 10)) (ltb n 10) refl

pub digits_below : (k n : ℕ) → n < 10 ^ suc k → length (decimal n) ≤ suc k
unfolding decimal
digits_below k n h = digits_over n n k h

pub decimal_short : (n : ℕ) → n < 2 ^ 64 → length (decimal n) ≤ 20
decimal_short n h = digits_below 19 n (omega arith)

-- a number below 10 ^ (k + 1), after a blank
pub number_below : (k n : ℕ) → n < 10 ^ suc k → length (number n) ≤ k + 2
unfolding number
number_below k n h = omega (arith, digits_below k n h)

-- all numbers of a line have 64 bits
abbrev pub Small : List ℕ → Type 0
Small [] = Unit
Small (n ∷ ns) = (n < 2 ^ 64) × Small ns

pub numbers_short : (ns : List ℕ) → Small ns → length (numbers ns) ≤ 21 * length ns
unfolding numbers
numbers_short [] h = omega arith
numbers_short (n ∷ ns) h = omega (arith, number_below 19 n (omega (arith, h.0)), numbers_short ns h.1, length-append (number n) (numbers ns))
