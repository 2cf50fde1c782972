-- What is unfinished has at most 8,191 octets: fewer than its header, or than its size.
use Prim.Native.Nat.{ℕ, ◌≤◌}
use mathlib.Core.Path.{◌≡◌, refl}
use mathlib.Core.List.{List}
use mathlib.Core.Bool.{true, ◌||◌}
use native.Mathlib.Omega.{arith}
use borrow.Author.Tests.{eq-eqb, ne_eqb, eqb-true, le-ltb, leb-true}
use lib.Dec.{eqb, ltb, leb}
use lib.ListN.{length}
use Rattle.octets.proofs.Order.{both}
use Rattle.packet.specs.Space.{version, space_header, space_size}
use Rattle.packet.specs.Encapsulation.{encap_header, encap_size}
use Rattle.reading.specs.Reading.{header, size, refusal}
use Rattle.reading.specs.Causes.{Cause, no_octets, no_version, space_header_cut, idle, space_packet, encap_header_cut, names_nothing, less_than_header, over_limit, no_content, encap_packet}
use Rattle.reading.proofs.Exactly.{exactly}
use Rattle.reading.proofs.Within.{header_is}
use Rattle.pieces.specs.Pieces.{unfinished}
use Rattle.pieces.proofs.Headers.{header_most}

module _ (s : List ℕ) where
  pub space_sizes : version s ≡ 0 → (header s ≡ space_header) × (size s ≡ space_size s)
  unfolding header size
  space_sizes v = let e = eq-eqb (version s) 0 v in (simp e, simp e)

  pub encap_sizes : version s ≡ 7 → (header s ≡ encap_header s) × (size s ≡ encap_size s)
  unfolding header size
  encap_sizes v = let e = ne_eqb (version s) 0 (λ z. omega (arith, v)) in (simp e, simp e)

  by_cause : {n : ℕ} → n ≡ 1 → Cause s n → (header s ≤ length s → size s ≤ 8192) → length s ≤ 8191
  by_cause one' (no_octets e) small = omega arith
  by_cause one' (space_header_cut v h) small = omega arith
  by_cause one' (space_packet (t, i) h) small = let k = space_sizes t.0.1 in omega (arith, k, small (omega (arith, k, t.1)))
  by_cause one' (encap_header_cut v h) small = omega (arith, header_most (header_is s))
  by_cause one' (encap_packet ((((t, m), l), o), k) h) small = let z = encap_sizes t.0.1 in omega (arith, z, small (omega (arith, z, t.1)))
  by_cause one' (no_version some x y) small = absurd (omega arith)
  by_cause one' (idle t i) small = absurd (omega arith)
  by_cause one' (names_nothing t m) small = absurd (omega arith)
  by_cause one' (less_than_header t l) small = absurd (omega arith)
  by_cause one' (over_limit t o) small = absurd (omega arith)
  by_cause one' (no_content t k) small = absurd (omega arith)

  pub unfinished_short : unfinished s ≡ true → length s ≤ 8191
  unfolding unfinished
  unfinished_short u =
      let b = both (eqb (refusal s) 1) (ltb (length s) (header s) || leb (size s) 8192) u in
      by_cause refl ((exactly s 1 (omega arith)).0 (eqb-true (refusal s) 1 b.0))
      (λ h. leb-true (size s) 8192 (simp (le-ltb (length s) (header s) h) at b.1))
