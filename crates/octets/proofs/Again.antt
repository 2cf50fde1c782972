-- Numbers that were read and are written again give the same octets: p is the front of s up to index k, and grows by what stood there.
use Prim.Native.Nat.{ℕ, suc, ◌+◌, ◌*◌, ◌/◌, ◌%◌, ◌≤◌, ◌<◌}
use mathlib.Core.Path.{◌≡◌, sym, ap, ◌∙◌}
use mathlib.Core.List.{List, [], ◌∷◌, ◌++◌, append_assoc}
use native.Mathlib.Nat.{div-div-eq-div-mul, div-add-mod'}
use native.Mathlib.Omega.{arith}
use lib.ListN.{length, take}
use lib.Seq.{take-suc}
use Rattle.octets.specs.Octets.{octet, be16, be32, octets2, octets4, AreOctets}

module _ (s : List ℕ) where
  pub one : (p : List ℕ) (k x : ℕ) → k < length s → x ≡ octet s k → p ≡ take k s → p ++ (x ∷ []) ≡ take (k + 1) s
  one p k x h e f =
      let next : k + 1 ≡ suc k = omega arith in
      rw (e, f, next) (sym (take-suc s k 0 h))

  module _ (small : AreOctets s) where
    pub two : (p : List ℕ) (k n : ℕ) → k + 2 ≤ length s → n ≡ be16 s k → p ≡ take k s → p ++ octets2 n ≡ take (k + 2) s
    two p k n h e f =
        let high : n / 256 % 256 ≡ octet s k = omega (arith, e, small k, small (k + 1)) in
        let low : n % 256 ≡ octet s (k + 1) = omega (arith, e, small k, small (k + 1)) in
        let far : k + 2 ≡ k + 1 + 1 = omega arith in
        rw far
        (sym (append_assoc p ((n / 256 % 256) ∷ []) ((n % 256) ∷ []))
        ∙ one (p ++ ((n / 256 % 256) ∷ [])) (k + 1) (n % 256) (omega arith) low (one p k (n / 256 % 256) (omega arith) high f))

    pub four : (p : List ℕ) (k n : ℕ) → k + 4 ≤ length s → n ≡ be32 s k → p ≡ take k s → p ++ octets4 n ≡ take (k + 4) s
    four p k n h e f =
        let high : n / 65536 ≡ be16 s k = omega (arith, e, small (k + 2), small (k + 2 + 1)) in
        let low : n % 65536 ≡ be16 s (k + 2) = omega (arith, e, small (k + 2), small (k + 2 + 1)) in
        let far : k + 4 ≡ k + 2 + 2 = omega arith in
        rw far
        (sym (append_assoc p (octets2 (n / 65536)) (octets2 (n % 65536)))
        ∙ two (p ++ octets2 (n / 65536)) (k + 2) (n % 65536) (omega arith) low (two p k (n / 65536) (omega arith) high f))

-- the other way round: a number that was written is read again
pub read_two : (n : ℕ) → n < 65536 → be16 (octets2 n) 0 ≡ n
read_two n h = omega arith

pub read_four : (n : ℕ) → n < 4294967296 → be32 (octets4 n) 0 ≡ n
read_four n h = omega arith

-- a number between two places is what stands above it and its own digit
pub split : (n a b : ℕ) → n / a ≡ n / (a * b) * b + n / a % b
split n a b = sym (div-add-mod' (n / a) b) ∙ ap (λ q. q * b + n / a % b) (div-div-eq-div-mul n a b)
