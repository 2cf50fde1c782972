-- What the readers' code has computed is what the definitions say, in plain variables; and a refusal is told with its place.
use Prim.Native.Nat.{ℕ, ◌-◌, ◌/◌, ◌%◌, ◌≤◌, ◌<◌}
use mathlib.Core.Path.{◌≡◌, refl, sym, ap, ◌∙◌}
use mathlib.Core.List.{List, [], ◌∷◌}
use mathlib.Core.Bool.{Bool, true, false, cond}
use native.Mathlib.Omega.{arith}
use borrow.Author.Tests.{ne_eqb, le-ltb}
use lib.Dec.{ltb}
use lib.ListN.{length}
use Rattle.octets.specs.Octets.{octet, be16}
use Rattle.packet.specs.Space.{version, secondary, apid, flags_idle, flagged_idle}
use Rattle.packet.specs.Encapsulation.{limit, protocol, header_for, encap_header, second, extension, size_for, encap_size, misnames, misnamed, names_empty, empty_named}
use Rattle.reading.specs.Places.{name_from, length_from, fault_at}
use Rattle.reading.specs.Reading.{fields, reading}
use Rattle.reading.specs.Causes.{Cause, EncapThere, EncapNamed, EncapLimited, EncapGood, encapsulation}
use Rattle.reading.proofs.Exactly.{refused, accepted}
use Rattle.reading.proofs.Alike.{name_by_third}

module _ (s : List ℕ) where
  pub idle_read : {a x : ℕ} → a ≡ apid s → x ≡ secondary s → flags_idle a x ≡ flagged_idle s
  idle_read id flag = rw (id, flag)

  -- a first octet o, and from it a header of h octets
  module _ {o h : ℕ} (first : o ≡ octet s 0) (header : h ≡ header_for (o % 4)) where
    pub header_read : h ≡ encap_header s
    header_read = header ∙ ap (λ k. header_for (k % 4)) first

    pub second_read : {x : ℕ} → x ≡ cond (ltb h 4) 0 (octet s 1) → x ≡ second s
    second_read octet1 = octet1 ∙ ap (λ k. cond (ltb k 4) 0 (octet s 1)) header_read

    pub encap_size_read : {z : ℕ} → z ≡ size_for h s → z ≡ encap_size s
    encap_size_read size = size ∙ ap (λ k. size_for k s) header_read

  -- a header of h octets and protocol ID p
  module _ {h p : ℕ} (header : h ≡ encap_header s) (id : p ≡ protocol s) where
    pub names_read : {x f : ℕ} → x ≡ second s → f ≡ cond (ltb h 8) 0 (be16 s 2) → misnames h p (x % 16) f ≡ misnamed s
    names_read octet1 field = rw (field, octet1, header, id)

    pub empty_read : {z : ℕ} → z ≡ encap_size s → names_empty (z - h) p ≡ empty_named s
    empty_read size = rw (size, header, id)

  -- ---- what the tests before have ruled out, where z is the size that was read
  module _ {h p x f : ℕ} (at : EncapThere s × (h ≡ encap_header s) × (p ≡ protocol s)) (octet1 : x ≡ second s) (field : f ≡ cond (ltb h 8) 0 (be16 s 2)) where
    pub misnamed_so : {b : Bool} → misnames h p (x % 16) f ≡ b → misnamed s ≡ b
    misnamed_so e = sym (names_read at.1 at.2 octet1 field) ∙ e

    module _ (e : misnames h p (x % 16) f ≡ false) where
      pub named_so : EncapNamed s
      named_so = (at.0, misnamed_so e)

      module _ {z : ℕ} (size : z ≡ encap_size s) (long : h ≤ z) (few : z ≤ limit) where
        pub limited_so : EncapLimited s
        limited_so = ((named_so, omega (arith, at.1, size, long)), omega (arith, size, few))

        pub good_so : names_empty (z - h) p ≡ false → EncapGood s
        good_so some = (limited_so, sym (empty_read at.1 at.2 size) ∙ some)

  -- ---- a refusal is told with its place
  pub told_at : {n q : ℕ} → Cause s n → q ≡ fault_at s n → n ∷ q ∷ [] ≡ reading s
  told_at {n} why at = ap (λ z. n ∷ z ∷ []) at ∙ refused why

  -- the places that are worked out from what was read are the definition's
  pub length_placed : {h : ℕ} → h ≡ encap_header s → (length_from h ≡ fault_at s 4) × (length_from h ≡ fault_at s 5)
  unfolding fault_at
  length_placed header = rw header (refl, refl)

  pub name_placed : {h p x f : ℕ} → h ≡ encap_header s → p ≡ protocol s → x ≡ second s → f ≡ cond (ltb h 8) 0 (be16 s 2) → octet s 3 < 256 → misnamed s ≡ true
      → name_from h p (x % 16) (f / 256) ≡ fault_at s 7
  unfolding fault_at
  name_placed header id octet1 field small m =
      let third : 8 ≤ encap_header s → cond (ltb (encap_header s) 8) 0 (be16 s 2) / 256 ≡ octet s 2 = λ h8. simp (le-ltb (encap_header s) 8 h8) (omega (arith, small)) in
      rw (field, octet1, header, id) (name_by_third (encap_header s) (protocol s) (extension s) (be16 s 2) m third)

  -- a whole packet tells its fields
  pub encap_told : EncapGood s → encap_size s ≤ length s → {p x h z : ℕ} → p ≡ protocol s → x ≡ second s → h ≡ encap_header s → z ≡ encap_size s
      → 0 ∷ 7 ∷ p ∷ (x / 16 % 16) ∷ (x % 16) ∷ h ∷ (z - h) ∷ [] ≡ reading s
  unfolding fields
  encap_told good all p x h z = rw (p, x, h, z) (simp (ne_eqb (version s) 0 (λ e. omega (arith, good.0.0.0.0.0.1))) at (accepted {s = s} (encapsulation good all)))
