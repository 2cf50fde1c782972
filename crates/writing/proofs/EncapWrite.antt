-- Writing an Encapsulation Packet that was read. With the header's size that it had, its octets come back one by one; so the writer gives the
-- same octets exactly where that size is the shortest.
use Prim.Native.Nat.{ℕ, ◌+◌, ◌*◌, ◌-◌, ◌≤◌}
use mathlib.Core.Path.{◌≡◌, refl, sym, ap, ◌∙◌}
use mathlib.Core.List.{List, [], ◌∷◌, ◌++◌}
use mathlib.Core.Bool.{false, cond, not, ◌&&◌, ◌||◌}
use native.Mathlib.Omega.{arith}
use borrow.Author.Tests.{eq-eqb, ne_eqb, le-ltb, eqb-true, eqb-false, not-false}
use lib.Dec.{eqb, ltb}
use lib.ListN.{length, take, drop, length-drop}
use lib.Seq.{take-add, length-take-le}
use Rattle.octets.specs.Octets.{octet, be16, octets2, AreOctets}
use Rattle.octets.proofs.Order.{either, neither}
use Rattle.octets.proofs.Again as again
use Rattle.packet.specs.Space.{version}
use Rattle.packet.specs.Encapsulation.{protocol, length_of_length, encap_header, user, extension, ccsds, size_for, encap_size, extends_another}
use Rattle.reading.specs.Reading.{header, size, refusal, content}
use Rattle.reading.specs.Causes.{encapsulation, EncapGood}
use Rattle.reading.proofs.Exactly.{whole_gives}
use Rattle.writing.specs.Encapsulation.{shortest, first_octet, header_octets, encap_octets_with, encap_octets}
use Rattle.writing.proofs.EncapFine.{encap_size_lem}

-- the writer gives the same octets exactly when the header was the shortest
abbrev pub AgainExactly : List ℕ → Type 0
AgainExactly s =
    (encap_octets (protocol s) (user s) (extension s) (content s) ≡ take (size s) s → encap_header s ≡ shortest (protocol s) (user s) (length (content s)))
    × (encap_header s ≡ shortest (protocol s) (user s) (length (content s)) → encap_octets (protocol s) (user s) (extension s) (content s) ≡ take (size s) s)

-- the length of length and the header that goes with it
pub data Kind (s : List ℕ) : Type 0 where
  one : length_of_length s ≡ 0 → encap_header s ≡ 1 → Kind s
  two : length_of_length s ≡ 1 → encap_header s ≡ 2 → Kind s
  four : length_of_length s ≡ 2 → encap_header s ≡ 4 → Kind s
  eight : length_of_length s ≡ 3 → encap_header s ≡ 8 → Kind s

pub kind : (s : List ℕ) → Kind s
kind s =
    let l = length_of_length s in
    either (eqb l 0) (λ t. one (eqb-true _ _ t) (simp t))
    (λ f. either (eqb l 1) (λ t. two (eqb-true _ _ t) (simp (f, t)))
    (λ g. either (eqb l 2) (λ t. four (eqb-true _ _ t) (simp (f, g, t)))
    (λ k. eight (omega (arith, eqb-false (length_of_length s) 0 f, eqb-false (length_of_length s) 1 g, eqb-false (length_of_length s) 2 k)) (simp (f, g, k)))))

module _ (s : List ℕ) (small : AreOctets s) (good : EncapGood s) (h : encap_size s ≤ length s) where
  there : encap_header s ≤ encap_size s
  there = good.0.0.1

  -- the first octet and, where there is one, the second
  first_octet_lem : (l : ℕ) → length_of_length s ≡ l → first_octet (protocol s) l ≡ octet s 0
  first_octet_lem l e =
      let o = octet s 0 in
      omega (arith, e, small 0, good.0.0.0.0.0.1, again.split o 4 8, again.split o 32 8)

  second_octet : 4 ≤ encap_header s → user s * 16 + extension s ≡ octet s 1
  second_octet k = rw (le-ltb (encap_header s) 4 k) (omega (arith, small 1, again.split (octet s 1) 16 16))

  -- the CCSDS field, which is not written
  ccsds_0 : encap_header s ≡ 8 → 0 ≡ be16 s 2
  ccsds_0 e =
      let named = neither (eqb (protocol s) 6 && ltb (encap_header s) 4 || extends_another (protocol s) (extension s)) (not (eqb (ccsds s) 0)) good.0.0.0.1 in
      sym (eqb-true (ccsds s) 0 (not-false _ named.1)) ∙ ap (λ k. cond (ltb k 8) 0 (be16 s 2)) e

  -- with the header's size that it had, the header comes back
  abbrev header_again : List ℕ
  header_again = header_octets (encap_header s) (protocol s) (user s) (extension s) (encap_size s)

  of_size : {h' : ℕ} → encap_header s ≡ h' → header_octets h' (protocol s) (user s) (extension s) (encap_size s) ≡ take h' s → header_again ≡ take (encap_header s) s
  of_size e same = ap (λ k. header_octets k (protocol s) (user s) (extension s) (encap_size s)) e ∙ same ∙ ap (λ k. take k s) (sym e)

  same_header : Kind s → header_again ≡ take (encap_header s) s
  unfolding header_octets
  same_header (one l e) = of_size e (again.one s [] 0 _ (omega (arith, h, there, e)) (first_octet_lem 0 l) refl)
  same_header (two l e) =
      let long : 2 ≤ length s = omega (arith, h, there, e) in
      of_size e
      (again.one s (first_octet (protocol s) 1 ∷ []) 1 _ (omega (arith, long)) (ap (λ k. size_for k s) e)
      (again.one s [] 0 _ (omega (arith, long)) (first_octet_lem 1 l) refl))
  same_header (four l e) =
      let long : 4 ≤ length s = omega (arith, h, there, e) in
      let second = user s * 16 + extension s in
      of_size e
      (again.two s small (first_octet (protocol s) 2 ∷ second ∷ []) 2 _ long (ap (λ k. size_for k s) e)
      (again.one s (first_octet (protocol s) 2 ∷ []) 1 _ (omega (arith, long)) (second_octet (omega (arith, e)))
      (again.one s [] 0 _ (omega (arith, long)) (first_octet_lem 2 l) refl)))
  same_header (eight l e) =
      let long : 8 ≤ length s = omega (arith, h, there, e) in
      let second = user s * 16 + extension s in
      of_size e
      (again.four s small (first_octet (protocol s) 3 ∷ second ∷ [] ++ octets2 0) 4 _ long (ap (λ k. size_for k s) e)
      (again.two s small (first_octet (protocol s) 3 ∷ second ∷ []) 2 0 (omega (arith, long)) (ccsds_0 e)
      (again.one s (first_octet (protocol s) 3 ∷ []) 1 _ (omega (arith, long)) (second_octet (omega (arith, e)))
      (again.one s [] 0 _ (omega (arith, long)) (first_octet_lem 3 l) refl))))

  -- and so does the packet
  abbrev given : List ℕ
  given = take (encap_size s - encap_header s) (drop (encap_header s) s)

  given_octets : length given ≡ encap_size s - encap_header s
  given_octets = length-take-le (encap_size s - encap_header s) (drop (encap_header s) s) (simp length-drop (omega (arith, h, there)))

  same_octets : encap_octets_with (encap_header s) (protocol s) (user s) (extension s) given ≡ take (encap_size s) s
  unfolding encap_octets_with
  same_octets =
      let n : encap_header s + length given ≡ encap_size s = omega (arith, given_octets, there) in
      let m : encap_header s + (encap_size s - encap_header s) ≡ encap_size s = omega (arith, there) in
      ap (λ k. header_octets (encap_header s) (protocol s) (user s) (extension s) k ++ given) n
      ∙ ap (λ p. p ++ given) (same_header (kind s))
      ∙ sym (take-add (encap_header s) (encap_size s - encap_header s) s) ∙ ap (λ k. take k s) m

  kind_7 : eqb (version s) 0 ≡ false
  kind_7 = ne_eqb (version s) 0 (λ z. omega (arith, z, good.0.0.0.0.0.1))

  pub is_given : content s ≡ given
  unfolding content header size
  is_given = simp (eq-eqb (refusal s) 0 (whole_gives (encapsulation good h)), kind_7)

  pub is_size : size s ≡ encap_size s
  unfolding size
  is_size = simp kind_7

  pub content_octets : length (content s) ≡ encap_size s - encap_header s
  content_octets = ap length is_given ∙ given_octets

  -- the writer's header is the shortest, so the lengths tell
  pub again_exactly : AgainExactly s
  again_exactly = (
    λ e. let l = ap length e in
        omega (arith, l, there, content_octets, encap_size_lem (protocol s) (user s) (extension s) (content s), length-take-le (size s) s (omega (arith, is_size, h)), is_size),
    λ e. ap (λ k. encap_octets_with k (protocol s) (user s) (extension s) (content s)) (sym e)
        ∙ ap (encap_octets_with (encap_header s) (protocol s) (user s) (extension s)) is_given ∙ same_octets ∙ ap (λ k. take k s) (sym is_size),
  )
