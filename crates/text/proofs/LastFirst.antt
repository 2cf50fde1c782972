-- A number of several digits is a tenth of it with the last digit after it (`longer`). So it has as many digits as the powers of ten that it reaches
-- (`counted`), and they are put from the last to the first (`one_put`).
use Prim.Native.Nat.{ℕ, zero, suc, ◌+◌, ◌-◌, ◌*◌, ◌/◌, ◌%◌, ◌^◌, ◌≤◌, ◌<◌, max}
use mathlib.Core.Path.{◌≡◌, refl, sym, ap, ◌∙◌}
use mathlib.Core.List.{List, [], ◌∷◌, ◌++◌, append_assoc}
use native.Mathlib.Nat.{pow-suc}
use native.Mathlib.Omega.{arith}
use borrow.Author.Tests.{lt-ltb, le-ltb, ltb-true, ltb-false}
use lib.Dec.{ltb}
use lib.ListN.{length, take, drop, set, length-append}
use lib.Seq.{lt-length-set, take-set-le, drop-set-lt, get_or-set_same, drop-cons, take-append_seam}
use Rattle.octets.specs.Output.{put}
use Rattle.octets.proofs.Order.{either}
use Rattle.octets.proofs.Puts.{nothing}
use Rattle.text.specs.Text.{digit, decimal_over, decimal}
use Rattle.text.proofs.Decimal.{ten_grows}

-- there is no more of n in decimal, however many digits are asked for
over_any : (m k n : ℕ) → n ≤ m → n ≤ k → decimal_over m n ≡ decimal_over k n
unfolding decimal_over
over_any zero zero n p q = refl
over_any zero (suc k) n p q = simp (lt-ltb n 10 (omega arith))
over_any (suc m) zero n p q = simp (lt-ltb n 10 (omega arith))
over_any (suc m) (suc k) n p q =
    either (ltb n 10) (λ t. simp t) (λ f. simp f (ap (λ (front : List ℕ). front ++ (digit n ∷ [])) (over_any m k (n / 10) (omega (arith, ltb-false n 10 f)) (omega (arith, ltb-false n 10 f)))))

longer : (n : ℕ) → 10 ≤ n → decimal n ≡ decimal (n / 10) ++ (digit n ∷ [])
unfolding decimal decimal_over
longer zero h = absurd (omega arith)
longer (suc n) h = simp (le-ltb (suc n) 10 h) (ap (λ (front : List ℕ). front ++ (digit (suc n) ∷ [])) (over_any n (suc n / 10) (suc n / 10) (omega arith) (omega arith)))

pub single : (n : ℕ) → n < 10 → decimal n ≡ (48 + n) ∷ []
unfolding decimal decimal_over
single zero h = refl
single (suc n) h = let e : suc n % 10 ≡ suc n = omega arith in simp (lt-ltb (suc n) 10 h) (rw e)

-- the count of digits
pub longer_length : (n : ℕ) → 10 ≤ n → length (decimal n) ≡ length (decimal (n / 10)) + 1
longer_length n h = ap length (longer n h) ∙ simp length-append

pub some : (n : ℕ) → 0 < length (decimal n)
some n = either (ltb n 10) (λ t. omega (arith, ap length (single n (ltb-true n 10 t)))) (λ f. omega (arith, longer_length n (ltb-false n 10 f)))

-- what is left to put of a text where its last octet is stored already
stored_last : (d : List ℕ) (at k : ℕ) (front : List ℕ) (x : ℕ) → k ≡ at + length front → k < length d → put (set d k x) at front ≡ put d at (front ++ (x ∷ []))
unfolding put
stored_last d at k front x e h =
    let rest : drop k (set d k x) ≡ x ∷ drop (suc k) d = drop-cons (set d k x) k 0 (lt-length-set d k x h) ∙ rw (get_or-set_same d k x 0 h, drop-set-lt (suc k) d k x (omega arith)) in
    let end : at + length (front ++ (x ∷ [])) ≡ suc k = omega (arith, length-append front (x ∷ [])) in
    rw (take-set-le at d k x (omega arith), ← e, rest, end) (simp append_assoc)

-- as many as the powers of ten that n reaches
pub counted : (k n : ℕ) → 10 ^ k ≤ max n 1 → n < 10 * 10 ^ k → length (decimal n) ≡ k + 1
counted zero n low high = ap length (single n (omega arith))
counted (suc k) n low high =
    let more : 10 ≤ n = omega (arith, ten_grows k, pow-suc 10 k) in
    omega (arith, longer_length n more, counted k (n / 10) (omega (arith, pow-suc 10 k)) (omega (arith, pow-suc 10 k)))

-- the k digits of n, or none
abbrev pub front : ℕ → ℕ → List ℕ
front zero n = []
front (suc k) n = decimal n

front_all : (k n : ℕ) → k ≡ length (decimal n) → decimal n ≡ front k n
front_all zero n e = absurd (omega (arith, some n))
front_all (suc k) n e = refl

front_last : (k n : ℕ) → length (decimal n) ≡ suc k → decimal n ≡ front k (n / 10) ++ (digit n ∷ [])
front_last zero n e =
    either (ltb n 10) (λ t. let last : n % 10 ≡ n = omega (arith, ltb-true n 10 t) in single n (ltb-true n 10 t) ∙ rw last)
    (λ f. absurd (omega (arith, longer_length n (ltb-false n 10 f), some (n / 10))))
front_last (suc k) n e =
    either (ltb n 10) (λ t. absurd (omega (arith, ap length (single n (ltb-true n 10 t))))) (λ f. longer n (ltb-false n 10 f))

-- the digits are put into d from index at on where those of `left` are put into out before index `to`
abbrev pub Left : List ℕ → ℕ → List ℕ → ℕ → List ℕ → ℕ → Type 0
Left digits at d left out to = (at ≤ to) × (length (front (to - at) left) ≡ to - at) × (put d at digits ≡ put out at (front (to - at) left))

pub all_left : (d : List ℕ) (at n : ℕ) {count : ℕ} → count ≡ length (decimal n) → Left (decimal n) at d n d (at + count)
all_left d at n {count} e =
    let k : at + count - at ≡ count = omega arith in
    let f = front_all count n e in
    (omega arith, rw (k, ← f) (sym e), rw (k, ← f) refl)

-- the last digit that is left goes to index `to`
pub one_put : (digits : List ℕ) (at : ℕ) (d : List ℕ) (left : ℕ) (out : List ℕ) (to : ℕ) → at ≤ to → to < length out
    → Left digits at d left out (suc to) → Left digits at d (left / 10) (set out to (digit left)) to
one_put digits at d left out to low high (p, q, r) =
    let k : suc to - at ≡ suc (to - at) = omega arith in
    let n : length (decimal left) ≡ suc (to - at) = rw k at q in
    let f = front_last (to - at) left n in
    let m : length (front (to - at) (left / 10)) ≡ to - at = omega (arith, n, ap length f, length-append (front (to - at) (left / 10)) (digit left ∷ [])) in
    let e : to ≡ at + length (front (to - at) (left / 10)) = omega (arith, m) in
    (low, m, (rw k at r) ∙ ap (put out at) f ∙ sym (stored_last out at to (front (to - at) (left / 10)) (digit left) e high))

pub all_put : (digits : List ℕ) (at : ℕ) (d : List ℕ) (left : ℕ) (out : List ℕ) (to : ℕ) → to ≤ at → Left digits at d left out to → out ≡ put d at digits
all_put digits at d left out to h (p, q, r) =
    let k : to - at ≡ 0 = omega arith in
    (nothing out at).1 ∙ sym (rw k at r)

-- where the digits are put at the front, they are what that begins with
pub at_front : (d text digits : List ℕ) (count : ℕ) → count ≡ length text → digits ≡ put d 0 text → take count digits ≡ text
unfolding put
at_front d text digits count e p = rw (e, p, take-append_seam text)
