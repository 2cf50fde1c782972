-- The place is honest: each cause says which field is wrong, and the place is the first octet of it. And octets elsewhere than in the header decide nothing (`Alike`).
use Prim.Native.Nat.{ℕ, ◌-◌, ◌%◌, ◌≤◌, ◌<◌}
use mathlib.Core.Path.{◌≡◌, refl, sym, ap, ◌∙◌}
use mathlib.Core.Logic.{inl, inr, ⊎_elim}
use mathlib.Core.List.{List, [], ◌∷◌}
use mathlib.Core.Bool.{Bool, true, false, cond, not, ◌&&◌, true≢false}
use native.Mathlib.Omega.{arith}
use borrow.Author.Tests.{eq-eqb, ne_eqb, eqb-true, eqb-false, ltb-true, ltb-false, lt-ltb, not-true}
use lib.Dec.{ltb, eqb}
use lib.ListN.{length}
use Rattle.octets.specs.Octets.{octet, be16}
use Rattle.octets.proofs.Order.{either, both}
use Rattle.packet.specs.Space.{version, secondary, apid, idle_apid, space_header}
use Rattle.packet.specs.Encapsulation.{extended, protocol, encap_header, extension, extends_another, encap_size, misnamed}
use Rattle.reading.specs.Places.{ccsds_from, length_from, name_from, fault_at}
use Rattle.reading.specs.Reading.{refusal, place, reading}
use Rattle.reading.specs.Causes.{Cause, no_octets, no_version, space_header_cut, idle, space_packet, encap_header_cut, names_nothing, less_than_header, over_limit, no_content, encap_packet}
use Rattle.reading.specs.Causes.{Version, EncapThere}
use Rattle.places.specs.AtFault.{InLength, of_two, of_four, of_eight, AtFault, bad_version, idle_flag, short_length, long_length, without_content, without_extension, not_extended, in_ccsds, FirstAtFault, IsHonest, head}
use Rattle.reading.proofs.Exactly.{verdict, refused, accepted, exactly}
use Rattle.reading.proofs.Within.{HeaderIs, one, two, four, eight, header_is, header_some}
use Rattle.reading.proofs.Answers.{none_placed}
use Rattle.reading.proofs.Alike.{Agrees, ccsds_there, space_alike, encap_alike, there, whole_alike, cause_alike}

-- ---- the length field begins where it is said to, in every header that has one
length_first : {h : ℕ} → HeaderIs h → (h ≡ 1 → ⊥) → InLength h (length_from h) × (length_from h < h)
length_first (one e) u = absurd (u e)
length_first (two e) u = rw e (of_two refl refl, omega arith)
length_first (four e) u = rw e (of_four refl (omega arith) (omega arith), omega arith)
length_first (eight e) u = rw e (of_eight refl (omega arith) (omega arith), omega arith)

length_least : {h r : ℕ} → InLength h r → length_from h ≤ r
length_least (of_two e q) = rw e (omega arith)
length_least (of_four e a b) = rw e (omega arith)
length_least (of_eight e a b) = rw e (omega arith)

eight_of : {h : ℕ} → HeaderIs h → 8 ≤ h → h ≡ 8
eight_of (one e) l = absurd (omega arith)
eight_of (two e) l = absurd (omega arith)
eight_of (four e) l = absurd (omega arith)
eight_of (eight e) l = e

-- octet 1 has an extension only in a header of at least 4
extension_there : (h o : ℕ) → (cond (ltb h 4) 0 o ≡ 0 → ⊥) → 4 ≤ h
extension_there h o u = either (ltb h 4) (λ l. absurd (u (simp l))) (λ l. ltb-false h 4 l)

module _ (s : List ℕ) where
  -- ---- a field of octet 0 is the first there is
  at_front : {n : ℕ} → 0 < length s → AtFault s n 0 → FirstAtFault s n 0
  at_front some wrong = record { there = some; wrong = wrong; earliest = λ r w. omega arith }

  -- ---- the length
  in_length : {n r : ℕ} → AtFault s n r → 4 ≤ n → n ≤ 5 → InLength (encap_header s) r
  in_length (bad_version a b) u v = absurd (omega arith)
  in_length (idle_flag a b) u v = absurd (omega arith)
  in_length (short_length l a) u v = l
  in_length (long_length l a) u v = l
  in_length (without_content a b) u v = absurd (omega arith)
  in_length (without_extension a b) u v = absurd (omega arith)
  in_length (not_extended a b) u v = absurd (omega arith)
  in_length (in_ccsds a b c d) u v = absurd (omega arith)

  of_length : (n : ℕ) → 4 ≤ n → n ≤ 5 → EncapThere s → (encap_header s ≡ 1 → ⊥) → ((q : ℕ) → InLength (encap_header s) q → AtFault s n q) → FirstAtFault s n (length_from (encap_header s))
  of_length n u v t some wrong =
      let l = length_first (header_is s) some in
      record { there = omega (arith, l.1, t.1); wrong = wrong (length_from (encap_header s)) l.0; earliest = λ r f. length_least (in_length f u v) }

  -- a header of one octet is a packet of one
  single : encap_header s ≡ 1 → encap_size s ≡ 1
  single e = rw e

  -- ---- a name: which test of `name_from` an octet at fault meets
  abbrev unextended : Bool
  unextended = eqb (protocol s) extended && ltb (encap_header s) 4

  abbrev extends : Bool
  extends = extends_another (protocol s) (extension s)

  data Named (r : ℕ) : Type 0 where
    by_protocol : unextended ≡ true → Named r
    by_extension : r ≡ 1 → extends ≡ true → Named r
    by_ccsds : 2 ≤ r → r ≤ 3 → (octet s r ≡ 0 → ⊥) → Named r

  named : {n r : ℕ} → AtFault s n r → n ≡ 7 → Named r
  named (bad_version a b) e = absurd (omega arith)
  named (idle_flag a b) e = absurd (omega arith)
  named (short_length l a) e = absurd (omega arith)
  named (long_length l a) e = absurd (omega arith)
  named (without_content a b) e = absurd (omega arith)
  named (without_extension a b) e = by_protocol (simp (eq-eqb (protocol s) extended a, lt-ltb (encap_header s) 4 b))
  named (not_extended a b) e = by_extension refl (simp (ne_eqb (extension s) 0 a, ne_eqb (protocol s) extended b))
  named (in_ccsds a b c d) e = by_ccsds b c d

  module _ (a : unextended ≡ false) where
    from_extension : {r : ℕ} → Named r → 1 ≤ r
    from_extension (by_protocol e) = absurd (true≢false (sym e ∙ a))
    from_extension (by_extension e x) = omega arith
    from_extension (by_ccsds l m x) = omega arith

    module _ (b : extends ≡ false) where
      from_ccsds : {r : ℕ} → Named r → (2 ≤ r) × (r ≤ 3) × (octet s r ≡ 0 → ⊥)
      from_ccsds (by_protocol e) = absurd (true≢false (sym e ∙ a))
      from_ccsds (by_extension e x) = absurd (true≢false (sym x ∙ b))
      from_ccsds (by_ccsds l m x) = (l, m, x)

      past_2 : (r : ℕ) → octet s 2 ≡ 0 → Named r → 3 ≤ r
      past_2 r z f = let w = from_ccsds f in let not2 : r ≡ 2 → ⊥ = λ e. w.2 (ap (octet s) e ∙ z) in omega (arith, w.0, w.1, not2)

      of_ccsds : EncapThere s → (encap_header s ≡ 8) → (be16 s 2 ≡ 0 → ⊥) → FirstAtFault s 7 (ccsds_from (octet s 2))
      of_ccsds t e8 some =
          either (eqb (octet s 2) 0)
          (λ z. let z2 = eqb-true (octet s 2) 0 z in
          simp z
          (record { there = omega (arith, t.1); wrong = in_ccsds {q = 3} e8 (omega arith) (omega arith) (λ w. some (omega (arith, z2, w))); earliest = λ r g. past_2 r z2 (named g refl) }))
          (λ z. simp z
          (record { there = omega (arith, t.1); wrong = in_ccsds {q = 2} e8 (omega arith) (omega arith) (eqb-false (octet s 2) 0 z); earliest = λ r g. (from_ccsds (named g refl)).0 }))

  of_name : EncapThere s → misnamed s ≡ true → FirstAtFault s 7 (name_from (encap_header s) (protocol s) (extension s) (octet s 2))
  of_name t m =
      either unextended
      (λ a. let w = both (eqb (protocol s) extended) (ltb (encap_header s) 4) a in
      simp a (at_front t.0.0 (without_extension (eqb-true _ _ w.0) (ltb-true _ _ w.1))))
      (λ a. either extends
      (λ b. let w = both (not (eqb (extension s) 0)) (not (eqb (protocol s) extended)) b in
      let x = eqb-false (extension s) 0 (not-true _ w.0) in
      let h = extension_there (encap_header s) (octet s 1) (λ z. x (ap (λ o. o % 16) z)) in
      simp (a, b) (record { there = omega (arith, h, t.1); wrong = not_extended x (eqb-false _ _ (not-true _ w.1)); earliest = λ r g. from_extension a (named g refl) }))
      (λ b. let f = ccsds_there (encap_header s) (be16 s 2) (simp (a, b) at m) in simp (a, b) (of_ccsds a b t (eight_of (header_is s) f.0) f.1)))

  -- ---- by its cause
  at_cause : {n : ℕ} → Cause s n → IsHonest s n (fault_at s n)
  unfolding fault_at
  at_cause (no_version some u v) = inr (at_front some (bad_version u v))
  at_cause (idle t i) = let w = both (eqb (apid s) idle_apid) (eqb (secondary s) 1) i in inr (at_front t.0.0 (idle_flag (eqb-true _ _ w.0) (eqb-true _ _ w.1)))
  at_cause (names_nothing t m) = inr (of_name t m)
  at_cause (less_than_header (t, m) h) = inr (of_length 4 (omega arith) (omega arith) t (λ e. omega (arith, single e)) (λ q f. short_length f h))
  at_cause (over_limit ((t, m), k) o) = inr (of_length 5 (omega arith) (omega arith) t (λ e. omega (arith, single e)) (λ q f. long_length f o))
  at_cause (no_content (((t, m), k), o) e) =
      let w = both (eqb (encap_size s - encap_header s) 0) (not (eqb (protocol s) 0)) e in
      inr (at_front t.0.0 (without_content (omega (arith, k, eqb-true (encap_size s - encap_header s) 0 w.0)) (eqb-false _ _ (not-true _ w.1))))
  at_cause (no_octets e) = inl (refl, refl)
  at_cause (space_header_cut v h) = inl (refl, refl)
  at_cause (space_packet t h) = inl (refl, refl)
  at_cause (encap_header_cut v h) = inl (refl, refl)
  at_cause (encap_packet t h) = inl (refl, refl)

  -- the law, of every refusal
  pub honest : (refusal s ≡ 0 → ⊥) → IsHonest s (refusal s) (place s)
  unfolding place
  honest some = at_cause ((exactly s (refusal s) (omega (arith, some))).0 refl)

  -- so the place lies within the octets or at their end
  pub place_within : place s ≤ length s
  place_within =
      either (eqb (refusal s) 0) (λ e. omega (arith, none_placed s (eqb-true _ _ e)))
      (λ e. ⊎_elim (λ w. omega (arith, w.1)) (λ w. omega (arith, w.there)) (honest (eqb-false _ _ e)))

-- ---- octets elsewhere than in the header
module _ (s t : List ℕ) (length-same : length t ≡ length s) (kept : (k : ℕ) → k < head s → octet t k ≡ octet s k) where
  space_head : Version 0 s → head s ≡ space_header
  unfolding head
  space_head v = simp (eq-eqb (version s) 0 v.1)

  encap_head : Version 7 s → head s ≡ encap_header s
  unfolding head
  encap_head v = simp (ne_eqb (version s) 0 (λ z. omega (arith, v.1)), eq-eqb (version s) 7 v.1)

  head_some : 0 < head s
  unfolding head
  head_some =
      either (eqb (version s) 0) (λ e. simp e (omega arith))
      (λ e. either (eqb (version s) 7) (λ f. simp (e, f) (omega (arith, header_some (header_is s)))) (λ f. simp (e, f) (omega arith)))

  agrees : Agrees s t
  agrees = record {
    longer = omega arith;
    in_first = λ h. kept 0 head_some;
    in_space = λ v k h b. kept k (omega (arith, space_head v));
    in_encap = λ v k h b. kept k (omega (arith, encap_head v));
  }

  header_alike : Version 7 s → encap_header t ≡ encap_header s
  header_alike v = let z = kept 0 head_some in cc

  -- a packet that is cut short is so still
  cut_alike : {n : ℕ} → Cause s n → n ≡ 1 → Cause t n
  cut_alike (no_octets e) u = no_octets (omega arith)
  cut_alike (space_header_cut v h) u = space_header_cut (there s t agrees v) (omega arith)
  cut_alike (space_packet (w, i) h) u =
      let a = space_alike s t agrees w in space_packet (a.there_too, a.idle_same ∙ i) (omega (arith, a.size_same))
  cut_alike (encap_header_cut v h) u = encap_header_cut (there s t agrees v) (omega (arith, header_alike v))
  cut_alike (encap_packet ((((w, m), l), o), k) h) u =
      let a = encap_alike s t agrees w.0 w.1 in
      encap_packet ((((a.there_too, a.misnamed_same ∙ m), omega (arith, a.header_same, a.size_same)), omega (arith, a.size_same)), a.empty_same ∙ k) (omega (arith, a.size_same))
  cut_alike (no_version a b c) u = absurd (omega arith)
  cut_alike (idle a b) u = absurd (omega arith)
  cut_alike (names_nothing a b) u = absurd (omega arith)
  cut_alike (less_than_header a b) u = absurd (omega arith)
  cut_alike (over_limit a b) u = absurd (omega arith)
  cut_alike (no_content a b) u = absurd (omega arith)

  told_alike : {n : ℕ} → Cause s n → reading t ≡ reading s
  unfolding fault_at
  told_alike {n} why =
      either (eqb n 1)
      (λ e. let z = eqb-true n 1 e in
      let at : fault_at t n ≡ fault_at s n = rw (z, length-same) in
      sym (refused (cut_alike why z)) ∙ ap (λ q. n ∷ q ∷ []) at ∙ refused why)
      (λ e. let b = cause_alike s t agrees (eqb-false n 1 e) why in sym (refused b.0) ∙ ap (λ q. n ∷ q ∷ []) b.1 ∙ refused why)

  -- the law: what reading tells is decided by the header and the number of octets
  pub header_decides : reading t ≡ reading s
  header_decides =
      ⊎_elim
      (λ w. let b = whole_alike s t agrees w in sym (accepted b.whole_too) ∙ (rw b.fields_same (accepted w)))
      (λ k. told_alike k.1) (verdict s)
