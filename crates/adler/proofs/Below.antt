-- An Adler-32 has 32 bits: each sum is below the base.
use Prim.Native.Nat.{ℕ, ◌^◌, ◌<◌}
use mathlib.Core.List.{List, [], ◌∷◌}
use native.Mathlib.Omega.{arith}
use Rattle.adler.specs.Adler.{base, plus, adler_from, adler}

from_below : (a b : ℕ) (s : List ℕ) → a < base → b < base → adler_from a b s < 2 ^ 32
unfolding adler_from
from_below a b [] h k = omega arith
from_below a b (x ∷ s) h k = from_below (plus a x) (plus b (plus a x)) s (omega arith) (omega arith)

pub adler_below : (s : List ℕ) → adler s < 2 ^ 32
unfolding adler
adler_below s = from_below 1 0 s (omega arith) (omega arith)
