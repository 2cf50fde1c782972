-- The header that the writer takes can carry the fields: which it is goes by the tests that failed before it.
use Prim.Native.Nat.{ℕ, ◌+◌, ◌≤◌, ◌<◌}
use mathlib.Core.Path.{◌≡◌, refl}
use mathlib.Core.Bool.{not, ◌&&◌}
use native.Mathlib.Omega.{arith}
use borrow.Author.Tests.{ltb-true, eqb-true, eqb-false, not-true}
use lib.Dec.{eqb, ltb}
use lib.ListN.{length}
use Rattle.octets.proofs.Order.{either, both}
use Rattle.packet.specs.Encapsulation.{extended}
use Rattle.writing.specs.Encapsulation.{shortest, header_octets}

-- a header of h octets has room for protocol ID p, user field u and the length of n octets of content
pub data Fit (h p u n : ℕ) : Type 0 where
  one : h ≡ 1 → n ≡ 0 → u ≡ 0 → p ≡ 0 → Fit h p u n
  two : h ≡ 2 → u ≡ 0 → (p ≡ extended → ⊥) → 2 + n < 256 → Fit h p u n
  four : h ≡ 4 → 4 + n < 65536 → Fit h p u n
  eight : h ≡ 8 → Fit h p u n

module _ (p u n : ℕ) where
  pub shortest_fits : Fit (shortest p u n) p u n
  unfolding shortest
  shortest_fits =
      either (eqb n 0 && eqb u 0 && eqb p 0)
      (λ t. let (nu, p') = both (eqb n 0 && eqb u 0) (eqb p 0) t in
      let (n', u') = both (eqb n 0) (eqb u 0) nu in
      one (simp t) (eqb-true _ _ n') (eqb-true _ _ u') (eqb-true _ _ p'))
      (λ f. either (eqb u 0 && not (eqb p extended) && ltb (2 + n) 256)
      (λ t. let (up, n') = both (eqb u 0 && not (eqb p extended)) (ltb (2 + n) 256) t in
      let (u', p') = both (eqb u 0) (not (eqb p extended)) up in
      two (simp (f, t)) (eqb-true _ _ u') (eqb-false _ _ (not-true _ p')) (ltb-true _ _ n'))
      (λ g. either (ltb (4 + n) 65536) (λ t. four (simp (f, g, t)) (ltb-true _ _ t)) (λ k. eight (simp (f, g, k)))))

-- a header has 1, 2, 4 or 8 octets
pub some : {h p u n : ℕ} → Fit h p u n → (1 ≤ h) × (h ≤ 8)
some (one e a b c) = omega (arith, e)
some (two e a b c) = omega (arith, e)
some (four e a) = omega (arith, e)
some (eight e) = omega (arith, e)

-- so the length stands in the header's octets for it
pub length_fits : {h p u n : ℕ} → Fit h p u n → (h ≡ 2 → h + n < 256) × (h ≡ 4 → h + n < 65536) × ((h ≡ 1 → ⊥) → (h ≡ 2 → ⊥) → (h ≡ 4 → ⊥) → h ≡ 8)
length_fits (one e a b c) = (λ f. omega (arith, e), λ f. omega (arith, e), λ x y z. absurd (x e))
length_fits (two e a b c) = (λ f. omega (arith, e), λ f. omega (arith, e), λ x y z. absurd (y e))
length_fits (four e a) = (λ f. omega (arith, e), λ f. omega (arith, e), λ x y z. absurd (z e))
length_fits (eight e) = (λ f. omega (arith, e), λ f. omega (arith, e), λ x y z. e)

-- and the header has its octets
pub header_size : {h p u n : ℕ} → Fit h p u n → (x size : ℕ) → length (header_octets h p u x size) ≡ h
unfolding header_octets
header_size (one e a b c) x size = rw e refl
header_size (two e a b c) x size = rw e refl
header_size (four e a) x size = rw e refl
header_size (eight e) x size = rw e refl
