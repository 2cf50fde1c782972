-- For each size of header its octets are put one after the other; the length fits in them, by `length_fits`.
use Rattle.std.proofs.Common.{◌≡◌, ◌+◌, ◌*◌, ◌≤◌, [], ◌∷◌, ◌++◌, refl, length, arith, rules}
use native.Mathlib.Nat.{add-zero}
use borrow.Author.Tests.{eq-eqb, ne_eqb}
use Rattle.octets.specs.Octets.{octets2, octets4}
use Rattle.octets.proofs.Puts.{first_put, then_put}
use Rattle.writing.specs.Encapsulation.{first_octet, header_octets}
use Rattle.writing.proofs.Header.{Fit, shortest_fits, length_fits}
use Rattle.writing.proofs.encapsulation.EncapsulationFields.put_header.Goals as goal

pub overflow_cast-size : goal.overflow_cast-size
overflow_cast-size c =
    let a = c.args in
    let fit : Fit a.header a.self.protocol a.self.user a.n = rw c.requires.header_value.0 (shortest_fits a.self.protocol a.self.user a.n) in
    let small = (length_fits fit).0 c.in-2.is in
    search rules

pub overflow_cast-size-in-4 : goal.overflow_cast-size-in-4
overflow_cast-size-in-4 c =
    let a = c.args in
    let fit : Fit a.header a.self.protocol a.self.user a.n = rw c.requires.header_value.0 (shortest_fits a.self.protocol a.self.user a.n) in
    let small = (length_fits fit).1 c.in-4.is in
    search rules

pub returns-in-1 : goal.returns-in-1
unfolding header_octets
returns-in-1 c =
    let a = c.args in
    let first = 7 * 32 + a.self.protocol * 4 in
    simp (eq-eqb a.header 1 c.in-1.is, add-zero)
    (first_put a.out.now 0 (first ∷ []) (omega (arith, c.in-1.is, c.requires.header_value)) refl c.put_octet.ensures).1

pub returns-in-2 : goal.returns-in-2
unfolding header_octets
returns-in-2 c =
    let a = c.args in
    let d = a.out.now in
    let first = first_octet a.self.protocol 1 in
    let room : 2 ≤ length d = omega (arith, c.in-2.is, c.requires.header_value) in
    let put1 = first_put d 0 (first ∷ []) (omega (arith, room)) refl c.put_octet-in-2.ensures in
    simp (ne_eqb a.header 1 (λ z. omega (arith, z, c.in-2.is)), eq-eqb a.header 2 c.in-2.is)
    (then_put d 0 (first ∷ []) ((a.header + a.n) ∷ []) room refl put1 c.put_octet-in-2-2.ensures).1

pub returns-in-4 : goal.returns-in-4
unfolding header_octets
returns-in-4 c =
    let a = c.args in
    let d = a.out.now in
    let first = first_octet a.self.protocol 2 in
    let second = a.self.user * 16 + a.self.extension in
    let room : 4 ≤ length d = omega (arith, c.in-4.is, c.requires.header_value) in
    let put1 = first_put d 0 (first ∷ []) (omega (arith, room)) refl c.put_octet-in-4.ensures in
    let put2 = then_put d 0 (first ∷ []) (second ∷ []) (omega (arith, room)) refl put1 c.put_octet-in-4-2.ensures in
    simp (ne_eqb a.header 1 (λ z. omega (arith, z, c.in-4.is)), ne_eqb a.header 2 (λ z. omega (arith, z, c.in-4.is)), eq-eqb a.header 4 c.in-4.is)
    (then_put d 0 (first ∷ second ∷ []) (octets2 (a.header + a.n)) room refl put2 c.put_be16.ensures).1

pub returns-in_default : goal.returns-in_default
unfolding header_octets
returns-in_default c =
    let a = c.args in
    let d = a.out.now in
    let first = first_octet a.self.protocol 3 in
    let second = a.self.user * 16 + a.self.extension in
    let no1 : a.header ≡ 1 → ⊥ = search rules in
    let no2 : a.header ≡ 2 → ⊥ = search rules in
    let no4 : a.header ≡ 4 → ⊥ = search rules in
    let fit : Fit a.header a.self.protocol a.self.user a.n = rw c.requires.header_value.0 (shortest_fits a.self.protocol a.self.user a.n) in
    let room : 8 ≤ length d = omega (arith, (length_fits fit).2 no1 no2 no4, c.requires.header_value) in
    let put1 = first_put d 0 (first ∷ []) (omega (arith, room)) refl c.put_octet-in_default.ensures in
    let put2 = then_put d 0 (first ∷ []) (second ∷ []) (omega (arith, room)) refl put1 c.put_octet-in_default-2.ensures in
    let put3 = then_put d 0 (first ∷ second ∷ []) (octets2 0) (omega (arith, room)) refl put2 c.put_be16-in_default.ensures in
    simp (ne_eqb a.header 1 no1, ne_eqb a.header 2 no2, ne_eqb a.header 4 no4)
    (then_put d 0 (first ∷ second ∷ [] ++ octets2 0) (octets4 (a.header + a.n)) room refl put3 c.put_be32.ensures).1
