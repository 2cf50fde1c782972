-- What is told is told exactly when its test holds and every test before it fails: the law of every order, at the orders of the writers. And an
-- output as long as the longest packet always suffices.
use Prim.Native.Nat.{ℕ, ◌+◌, ◌≤◌}
use mathlib.Core.Path.{◌≡◌}
use mathlib.Core.List.{List, [], ◌∷◌}
use native.Mathlib.Omega.{arith}
use borrow.Author.Tests.{le-ltb, ltb-false}
use lib.Dec.{eqb, ltb}
use Rattle.octets.specs.Order.{Because}
use Rattle.octets.proofs.Order.{either, neither, exactly}
use Rattle.packet.specs.Space.{space_header, longest_data, flags_idle}
use Rattle.packet.specs.Encapsulation.{limit, extends_another, names_empty}
use Rattle.writing.specs.Space.{space_over, wrong_data_length, space_tests, space_told, space_refusal}
use Rattle.writing.specs.Encapsulation.{shortest, encap_over, encap_tests, encap_told, encap_refusal}

module _ (t x a f c n room : ℕ) where
  pub space_exactly : (told : List ℕ)
      → (space_told t x a f c n room ≡ told → Because (0 ∷ (space_header + n) ∷ []) (space_tests t x a f c n room) told)
      × (Because (0 ∷ (space_header + n) ∷ []) (space_tests t x a f c n room) told → space_told t x a f c n room ≡ told)
  unfolding space_told
  space_exactly told = exactly (0 ∷ (space_header + n) ∷ []) (space_tests t x a f c n room) told

  pub space_room : limit ≤ room → space_refusal t x a f c n room ≡ 9 → ⊥
  unfolding space_told
  space_room h e =
      either (space_over t x a f c) (λ o. omega (arith, simp o at e))
      (λ o. either (flags_idle a x) (λ i. omega (arith, simp (o, i) at e))
      (λ i. either (wrong_data_length n) (λ d. omega (arith, simp (o, i, d) at e))
      (λ d. let most = ltb-false longest_data n (neither (eqb n 0) (ltb longest_data n) d).1 in
      omega (arith, simp (o, i, d, le-ltb room (space_header + n) (omega (arith, most))) at e))))

module _ (p u x n room : ℕ) where
  pub encap_exactly : (told : List ℕ)
      → (encap_told p u x n room ≡ told → Because (0 ∷ (shortest p u n + n) ∷ []) (encap_tests p u x n room) told)
      × (Because (0 ∷ (shortest p u n + n) ∷ []) (encap_tests p u x n room) told → encap_told p u x n room ≡ told)
  unfolding encap_told
  encap_exactly told = exactly (0 ∷ (shortest p u n + n) ∷ []) (encap_tests p u x n room) told

  pub encap_room : limit ≤ room → encap_refusal p u x n room ≡ 9 → ⊥
  unfolding encap_told
  encap_room h e =
      either (encap_over p u x) (λ o. omega (arith, simp o at e))
      (λ o. either (extends_another p x) (λ i. omega (arith, simp (o, i) at e))
      (λ i. either (names_empty n p) (λ d. omega (arith, simp (o, i, d) at e))
      (λ d. either (ltb limit (shortest p u n + n)) (λ l. omega (arith, simp (o, i, d, l) at e))
      (λ l. omega (arith, simp (o, i, d, l, le-ltb room (shortest p u n + n) (omega (arith, ltb-false limit (shortest p u n + n) l))) at e)))))
