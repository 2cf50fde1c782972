-- The fewest digits that hold n, as the kit's `decimal` spells them, are n in decimal: both drop the last digit and go on with n / 10.
use Prim.Native.Nat.{ℕ, zero, suc, ◌*◌, ◌-◌, ◌/◌, ◌%◌, ◌^◌, ◌≤◌, ◌<◌}
use mathlib.Core.Path.{◌≡◌, ap}
use mathlib.Core.List.{[], ◌∷◌}
use native.Mathlib.Nat.{pow-suc}
use native.Mathlib.Omega.{arith}
use borrow.Author.Tests.{lt-ltb, le-ltb}
use Rattle.io.specs.Digits.{hex_digit_ascii, last_digits, IsDigitCount}
use Rattle.text.specs.Text.{digit, decimal_over, decimal}

pub ten_grows : (k : ℕ) → k < 10 ^ k
ten_grows zero = omega arith
ten_grows (suc k) = omega (arith, ten_grows k, pow-suc 10 k)

last_digit : (n : ℕ) → hex_digit_ascii (n % 10) ≡ digit n
last_digit n = simp (lt-ltb (n % 10) 10 (omega arith))

-- n is not shorter than its digits
enough : (k n : ℕ) → (0 < k → 10 ^ k ≤ n) → k ≤ n
enough zero n h = omega arith
enough (suc k) n h = omega (arith, ten_grows (suc k), h (omega arith))

-- k + 1 digits hold n, and k do not, unless k is 0
abbrev Needed : ℕ → ℕ → Type 0
Needed k n = (n < 10 ^ suc k) × (0 < k → 10 ^ k ≤ n)

fewer : (k n : ℕ) → Needed (suc k) n → (10 ≤ n) × Needed k (n / 10)
fewer k n f =
    let low : 10 ^ k * 10 ≤ n = rw (← (pow-suc 10 k)) (f.1 (omega arith)) in
    let high : n < 10 ^ suc k * 10 = rw (← (pow-suc 10 (suc k))) f.0 in
    (omega (arith, ten_grows k), (omega arith, λ h. omega arith))

spelled_over : (most k n : ℕ) → k ≤ most → Needed k n → last_digits 10 (suc k) n ≡ decimal_over most n
unfolding decimal_over
spelled_over zero zero n h f = ap (λ (d : ℕ). d ∷ []) (last_digit n)
spelled_over zero (suc k) n h f = absurd (omega arith)
spelled_over (suc most) zero n h f = simp (lt-ltb n 10 (omega (arith, f.0))) (ap (λ (d : ℕ). d ∷ []) (last_digit n))
spelled_over (suc most) (suc k) n h f =
    let g = fewer k n f in
    simp (le-ltb n 10 g.0) (cc (spelled_over most k (n / 10) (omega arith) g.1, last_digit n))

pub spelled : (k n : ℕ) → IsDigitCount 10 1 n k → last_digits 10 k n ≡ decimal n
unfolding decimal
spelled zero n f = absurd (omega (arith, f.0))
spelled (suc k) n f =
    let e : suc k - 1 ≡ k = omega arith in
    let least : 0 < k → 10 ^ k ≤ n = λ h. rw e at (f.2 (omega arith)) in
    spelled_over n k n (enough k n least) (f.1, least)
