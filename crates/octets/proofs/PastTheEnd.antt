-- What carries the readers: past the end every octet is 0, and so is each number that begins there.
use Prim.Native.Nat.{ℕ, ◌+◌, ◌≤◌}
use mathlib.Core.Path.{◌≡◌}
use mathlib.Core.List.{List}
use native.Mathlib.Omega.{arith}
use lib.ListN.{length, get_or-eq_default}
use Rattle.octets.specs.Octets.{octet, be16, be32}

pub octet_past : (s : List ℕ) (k : ℕ) → length s ≤ k → 0 ≡ octet s k
octet_past s k h = omega (arith, get_or-eq_default s 0 h)

pub be16_past : (s : List ℕ) (k : ℕ) → length s ≤ k → 0 ≡ be16 s k
be16_past s k h = omega (arith, octet_past s k h, octet_past s (k + 1) (omega arith))

pub be32_past : (s : List ℕ) (k : ℕ) → length s ≤ k → 0 ≡ be32 s k
be32_past s k h = omega (arith, be16_past s k h, be16_past s (k + 2) (omega arith))
