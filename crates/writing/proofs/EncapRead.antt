-- Reading an Encapsulation Packet that was written, with anything after it. By the header's size its octets are known, so each field comes
-- back by division; from there on the four sizes are alike.
use Prim.Native.Nat.{ℕ, ◌+◌, ◌*◌, ◌-◌, ◌/◌, ◌%◌, ◌≤◌, ◌<◌}
use mathlib.Core.Path.{◌≡◌, refl, sym, ap, subst, ◌∙◌}
use mathlib.Core.List.{List, [], ◌∷◌, ◌++◌, append_assoc}
use mathlib.Core.Bool.{Bool, true, false, cond, ◌&&◌, ◌||◌}
use native.Mathlib.Nat.{mod-eq_of_lt, mul-add-mod_self_right}
use native.Mathlib.Omega.{arith}
use borrow.Author.Tests.{eq-eqb, ne_eqb, eqb-true, not-false}
use lib.Dec.{eqb, ltb}
use lib.ListN.{length, take, drop, length-append}
use lib.Seq.{take-append_seam, drop_at}
use Rattle.octets.specs.Octets.{octet, be16}
use Rattle.octets.proofs.Order.{either}
use Rattle.octets.proofs.Again.{read_two, read_four}
use Rattle.packet.specs.Space.{version}
use Rattle.packet.specs.Encapsulation.{limit, extended, protocol, header_for, encap_header, second, user, extension, ccsds, size_for, encap_size, extends_another, misnames, misnamed, names_empty, empty_named}
use Rattle.reading.specs.Reading.{header, size, refusal, fields, reading, content, content_at}
use Rattle.reading.specs.Causes.{Whole, encapsulation, EncapThere, EncapLong}
use Rattle.reading.proofs.Exactly.{whole_gives, accepted}
use Rattle.writing.specs.Encapsulation.{first_octet, header_octets, encap_octets_with}
use Rattle.writing.proofs.Header.{Fit, one, two, four, eight, some, header_size}

-- the fields are within their widths, and nothing but the room can be refused
pub record Legal (h p u x n : ℕ) : Type 0 where
  pub id : p < 8
  pub user' : u < 16
  pub extension' : x < 16
  pub extends : extends_another p x ≡ false
  pub named : names_empty n p ≡ false
  pub limited : h + n ≤ limit

-- an extension needs protocol ID 6
no_extension : (p x : ℕ) → extends_another p x ≡ false → (p ≡ extended → ⊥) → x ≡ 0
no_extension p x e other = either (eqb x 0) (λ t. eqb-true _ _ t) (λ f. absurd (other (eqb-true _ _ (not-false _ (simp f at e)))))

-- the fields of the first octet: version, protocol ID, length of length
first_fields : (p l : ℕ) → p < 8 → l < 4 → (first_octet p l / 32 % 8 ≡ 7) × (first_octet p l / 4 % 8 ≡ p) × (first_octet p l % 4 ≡ l)
first_fields p l h k =
    let whole : first_octet p l ≡ (56 + p) * 4 + l = omega arith in
    let top : first_octet p l / 32 ≡ 7 = omega arith in
    let middle : first_octet p l / 4 ≡ 7 * 8 + p = omega arith in
    (rw top refl, rw middle (mul-add-mod_self_right 7 8 p ∙ mod-eq_of_lt h), rw whole (mul-add-mod_self_right (56 + p) 4 l ∙ mod-eq_of_lt k))

-- what was written with a header of h octets, with anything after it
abbrev packet : ℕ → ℕ → ℕ → ℕ → List ℕ → List ℕ → List ℕ
packet h p u x given rest = encap_octets_with h p u x given ++ rest

none_holds : (b : Bool) → (b && false) || false || false ≡ false
none_holds true = refl
none_holds false = refl

same_misnames : {h k p q x y f g : ℕ} → h ≡ k → p ≡ q → x ≡ y → f ≡ g → misnames h p x f ≡ misnames k q y g
same_misnames a b c d = cc

same_empty : {n m p q : ℕ} → n ≡ m → p ≡ q → names_empty n p ≡ names_empty m q
same_empty a b = cc

-- each field comes back
record Same (s : List ℕ) (h p u x n : ℕ) : Type 0 where
  version_7 : version s ≡ 7
  header_is : encap_header s ≡ h
  protocol_is : protocol s ≡ p
  second_is : second s ≡ u * 16 + x
  ccsds_is : ccsds s ≡ 0
  size_is : encap_size s ≡ h + n

-- the fields that go by the header's size, once that is known
module _ (s : List ℕ) (p u x n : ℕ) where
  by_header : (h : ℕ) → version s ≡ 7 → protocol s ≡ p → encap_header s ≡ h → cond (ltb h 4) 0 (octet s 1) ≡ u * 16 + x
      → cond (ltb h 8) 0 (be16 s 2) ≡ 0 → size_for h s ≡ h + n → Same s h p u x n
  by_header h v q e y c z = record {
    version_7 = v;
    header_is = e;
    protocol_is = q;
    second_is = ap (λ k. cond (ltb k 4) 0 (octet s 1)) e ∙ y;
    ccsds_is = ap (λ k. cond (ltb k 8) 0 (be16 s 2)) e ∙ c;
    size_is = ap (λ k. size_for k s) e ∙ z;
  }

module _ (p u x : ℕ) (given rest : List ℕ) where
  abbrev n : ℕ
  n = length given

  same_1 : Legal 1 p u x n → n ≡ 0 → u ≡ 0 → p ≡ 0 → Same (packet 1 p u x given rest) 1 p u x n
  unfolding encap_octets_with header_octets
  same_1 ok a b c =
      let s = packet 1 p u x given rest in
      let f = first_fields p 0 ok.id (omega arith) in
      let none = no_extension p x ok.extends (λ z. omega (arith, c, z)) in
      by_header s p u x n 1 f.0 f.1 (ap header_for f.2) (omega (arith, b, none)) refl (omega (arith, a))

  same_2 : Legal 2 p u x n → u ≡ 0 → (p ≡ extended → ⊥) → 2 + n < 256 → Same (packet 2 p u x given rest) 2 p u x n
  unfolding encap_octets_with header_octets
  same_2 ok b c d =
      let s = packet 2 p u x given rest in
      let f = first_fields p 1 ok.id (omega arith) in
      let none = no_extension p x ok.extends c in
      by_header s p u x n 2 f.0 f.1 (ap header_for f.2) (omega (arith, b, none)) refl refl

  same_4 : Legal 4 p u x n → 4 + n < 65536 → Same (packet 4 p u x given rest) 4 p u x n
  unfolding encap_octets_with header_octets
  same_4 ok d =
      let s = packet 4 p u x given rest in
      let f = first_fields p 2 ok.id (omega arith) in
      by_header s p u x n 4 f.0 f.1 (ap header_for f.2) refl refl (read_two (4 + n) d)

  same_8 : Legal 8 p u x n → Same (packet 8 p u x given rest) 8 p u x n
  unfolding encap_octets_with header_octets
  same_8 ok =
      let s = packet 8 p u x given rest in
      let f = first_fields p 3 ok.id (omega arith) in
      by_header s p u x n 8 f.0 f.1 (ap header_for f.2) refl refl (read_four (8 + n) (omega (arith, ok.limited)))

  same : {h : ℕ} → Fit h p u n → Legal h p u x n → Same (packet h p u x given rest) h p u x n
  same (one e a b c) = subst (λ h. Legal h p u x n → Same (packet h p u x given rest) h p u x n) (sym e) (λ ok. same_1 ok a b c)
  same (two e a b c) = subst (λ h. Legal h p u x n → Same (packet h p u x given rest) h p u x n) (sym e) (λ ok. same_2 ok a b c)
  same (four e a) = subst (λ h. Legal h p u x n → Same (packet h p u x given rest) h p u x n) (sym e) (λ ok. same_4 ok a)
  same (eight e) = subst (λ h. Legal h p u x n → Same (packet h p u x given rest) h p u x n) (sym e) same_8

-- ---- so the packet is whole, and its fields and content are those that were given
module _ (h p u x : ℕ) (given rest : List ℕ) (fit : Fit h p u (length given)) (ok : Legal h p u x (length given)) where
  abbrev s : List ℕ
  s = packet h p u x given rest

  back : Same s h p u x (length given)
  back = same p u x given rest fit ok

  user_is : user s ≡ u
  user_is = rw back.second_is (omega (arith, ok.user', ok.extension'))

  extension_is : extension s ≡ x
  extension_is = rw back.second_is (mul-add-mod_self_right u 16 x ∙ mod-eq_of_lt ok.extension')

  has : length s ≡ h + length given + length rest
  unfolding encap_octets_with
  has =
      omega (arith, length-append (encap_octets_with h p u x given) rest, length-append (header_octets h p u x (h + length given)) given, header_size fit x (h + length given))

  -- protocol ID 6 never stands in a header of 1 or 2 octets
  named_right : misnamed s ≡ false
  named_right = same_misnames back.header_is back.protocol_is extension_is back.ccsds_is ∙ simp ok.extends (not_short fit)
    where
      not_short : Fit h p u (length given) → (eqb p extended && ltb h 4) || false || false ≡ false
      not_short (one e a b c) = rw c refl
      not_short (two e a b c) = simp (ne_eqb p extended b)
      not_short (four e a) = rw e (none_holds (eqb p extended))
      not_short (eight e) = rw e (none_holds (eqb p extended))

  not_empty : empty_named s ≡ false
  not_empty =
      let n : encap_size s - encap_header s ≡ length given = omega (arith, back.size_is, back.header_is) in
      same_empty n back.protocol_is ∙ ok.named

  whole : Whole s
  whole =
      let w = some fit in
      let there : EncapThere s = ((omega (arith, has, w), back.version_7), omega (arith, has, back.header_is)) in
      let long : EncapLong s = ((there, named_right), omega (arith, back.header_is, back.size_is)) in
      encapsulation ((long, omega (arith, back.size_is, ok.limited)), not_empty) (omega (arith, has, back.size_is))

  same_fields : fields s ≡ 7 ∷ p ∷ u ∷ x ∷ h ∷ length given ∷ []
  unfolding fields
  same_fields =
      let n : encap_size s - encap_header s ≡ length given = omega (arith, back.size_is, back.header_is) in
      simp (ne_eqb (version s) 0 (λ z. omega (arith, z, back.version_7))) (rw (n, back.protocol_is, user_is, extension_is, back.header_is))

  after_header : drop h s ≡ given ++ rest
  unfolding encap_octets_with
  after_header = ap (drop h) (append_assoc (header_octets h p u x (h + length given)) given rest) ∙ drop_at (header_octets h p u x (h + length given)) (given ++ rest) h (header_size fit x (h + length given))

  same_content : take (size s - header s) (drop (header s) s) ≡ given
  unfolding size header
  same_content =
      let n : encap_size s - encap_header s ≡ length given = omega (arith, back.size_is, back.header_is) in
      simp (ne_eqb (version s) 0 (λ z. omega (arith, z, back.version_7))) (rw (n, back.header_is, after_header) (take-append_seam given rest))

  pub read_written : (reading s ≡ 0 ∷ 7 ∷ p ∷ u ∷ x ∷ h ∷ length given ∷ []) × (content s ≡ given) × (content_at s ≡ h)
  unfolding content content_at header
  read_written =
      let good = eq-eqb (refusal s) 0 (whole_gives whole) in (
        sym (accepted whole) ∙ ap (λ more. 0 ∷ more) same_fields,
        simp good same_content,
        simp (good, ne_eqb (version s) 0 (λ z. omega (arith, z, back.version_7))) back.header_is,
      )
