-- Where the pool, the size of the group and the room are as asked, what is done is what the definitions with a guard say.
use Prim.Native.Nat.{ℕ, ◌+◌, ◌≤◌}
use mathlib.Core.Path.{◌≡◌}
use mathlib.Core.List.{List}
use borrow.Author.Tests.{eq-eqb, le-leb}
use lib.ListN.{length}
use Rattle.pool.specs.Octets.{pool_octets, stored, stored_if_fits, gathered, gathered_if_fits}

module _ (marks : List ℕ) (lane : ℕ) (pool : List ℕ) where
  module _ (k : ℕ) (ds : List ℕ) where
    pub is_stored : length pool ≡ pool_octets → k + length ds ≤ pool_octets → stored marks lane pool k ds ≡ stored_if_fits marks lane pool k ds
    unfolding stored_if_fits
    is_stored p h = simp (eq-eqb (length pool) pool_octets p, le-leb (k + length ds) pool_octets h)

  module _ (n : ℕ) (out : List ℕ) where
    pub is_gathered : n ≤ length out → n ≤ pool_octets → gathered marks lane pool 0 n ≡ gathered_if_fits marks lane pool n (length out)
    unfolding gathered_if_fits
    is_gathered h k = simp (le-leb n (length out) h, le-leb n pool_octets k)
