-- Octets that agree with p in p's header have its fields, and so its verdict with its place. What carries both laws of what reading looks at: octets after the packet
-- (`After`), and octets elsewhere than in the header (`Honest`).
use Prim.Native.Nat.{ℕ, ◌+◌, ◌≤◌, ◌<◌}
use mathlib.Core.Path.{◌≡◌, refl, sym, ap, ◌∙◌}
use mathlib.Core.List.{List}
use mathlib.Core.Bool.{Bool, true, false, cond, not, ◌&&◌, true≢false}
use native.Mathlib.Omega.{arith}
use borrow.Author.Tests.{eq-eqb, ne_eqb, eqb-true, eqb-false, ltb-false, not-true}
use lib.Dec.{ltb, eqb}
use lib.ListN.{length}
use Rattle.octets.specs.Octets.{octet, be16}
use Rattle.octets.proofs.Order.{either}
use Rattle.packet.specs.Space.{version, space_header, space_size, flagged_idle}
use Rattle.packet.specs.Encapsulation.{extended, protocol, encap_header, second, extension, extends_another, ccsds, encap_size, misnames, misnamed, empty_named}
use Rattle.reading.specs.Places.{ccsds_from, name_from, fault_at}
use Rattle.reading.specs.Reading.{header, size, fields}
use Rattle.reading.specs.Causes.{Cause, no_octets, no_version, space_header_cut, idle, space_packet, encap_header_cut, names_nothing, less_than_header, over_limit, no_content, encap_packet}
use Rattle.reading.specs.Causes.{Whole, space, encapsulation, Version, SpaceThere, EncapThere, EncapNamed, EncapLong, EncapLimited, EncapGood}
use Rattle.reading.proofs.Within.{HeaderIs, one, two, four, eight, header_is}

-- a choice stays where what it would choose stays
chosen : {A : Type 0} (b : Bool) {x y x' y' : A} → (b ≡ true → x ≡ x') → (b ≡ false → y ≡ y') → cond b x y ≡ cond b x' y'
chosen true t f = t refl
chosen false t f = f refl

last_header : {h : ℕ} → HeaderIs h → (h ≡ 1 → ⊥) → (h ≡ 2 → ⊥) → (h ≡ 4 → ⊥) → h ≡ 8
last_header (one e) a b c = absurd (a e)
last_header (two e) a b c = absurd (b e)
last_header (four e) a b c = absurd (c e)
last_header (eight e) a b c = e

-- t has p's header, as far as p goes, and is no shorter
pub record Agrees (p t : List ℕ) : Type 0 where
  pub longer : length p ≤ length t
  pub in_first : 0 < length p → octet t 0 ≡ octet p 0
  pub in_space : Version 0 p → (k : ℕ) → k < length p → k < space_header → octet t k ≡ octet p k
  pub in_encap : Version 7 p → (k : ℕ) → k < length p → k < encap_header p → octet t k ≡ octet p k

-- the CCSDS field is there where it isn't 0
pub ccsds_there : (h n : ℕ) → not (eqb (cond (ltb h 8) 0 n) 0) ≡ true → (8 ≤ h) × (n ≡ 0 → ⊥)
ccsds_there h n e =
    either (ltb h 8) (λ l. absurd (true≢false (sym (simp l at e)))) (λ l. (ltb-false h 8 l, eqb-false n 0 (not-true _ (simp l at e))))

-- octet 2 decides only where nothing before it is at fault, and then the CCSDS field is: of header octets h, protocol ID p, extension x and the field n
pub name_by_third : (h p x n : ℕ) {o o' : ℕ} → misnames h p x (cond (ltb h 8) 0 n) ≡ true → (8 ≤ h → o ≡ o') → name_from h p x o ≡ name_from h p x o'
name_by_third h p x n m third =
    either (eqb p extended && ltb h 4) (λ a. simp a)
    (λ a. either (extends_another p x) (λ b. simp (a, b)) (λ b. simp (a, b) (ap ccsds_from (third (ccsds_there h n (simp (a, b) at m)).0))))

module _ (p t : List ℕ) (same : Agrees p t) where
  pub same_version : 0 < length p → version t ≡ version p
  same_version some = let z = same.in_first some in cc

  pub there : {v : ℕ} → Version v p → Version v t
  there (some, e) = (omega (arith, same.longer), same_version some ∙ e)

  -- ---- a Space Packet whose header is there
  pub record SpaceAlike : Type 0 where
    pub there_too : SpaceThere t
    pub size_same : space_size t ≡ space_size p
    pub idle_same : flagged_idle t ≡ flagged_idle p
    pub fields_same : fields t ≡ fields p

  pub space_alike : SpaceThere p → SpaceAlike
  unfolding fields
  space_alike (v, h) =
      let a = same.in_space v 0 (omega arith) (omega arith) in
      let b = same.in_space v 1 (omega arith) (omega arith) in
      let c = same.in_space v 2 (omega arith) (omega arith) in
      let d = same.in_space v 3 (omega arith) (omega arith) in
      let e = same.in_space v 4 (omega arith) (omega arith) in
      let f = same.in_space v 5 (omega arith) (omega arith) in
      let w = there v in
      record {
        there_too = (w, omega (arith, same.longer));
        size_same = cc;
        idle_same = cc;
        fields_same = simp (eq-eqb (version t) 0 w.1, eq-eqb (version p) 0 v.1) (cc);
      }

  -- ---- an Encapsulation Packet whose header is there: which octets it has goes by its size
  pub record EncapAlike : Type 0 where
    pub there_too : EncapThere t
    pub header_same : encap_header t ≡ encap_header p
    pub size_same : encap_size t ≡ encap_size p
    pub misnamed_same : misnamed t ≡ misnamed p
    pub empty_same : empty_named t ≡ empty_named p
    pub fields_same : fields t ≡ fields p
    pub name_same : misnamed p ≡ true → name_from (encap_header t) (protocol t) (extension t) (octet t 2) ≡ name_from (encap_header p) (protocol p) (extension p) (octet p 2)

  module _ (v : Version 7 p) (whole : encap_header p ≤ length p) where
    held : (k : ℕ) → k < encap_header p → octet t k ≡ octet p k
    held k h = same.in_encap v k (omega arith) h

    held16 : (k : ℕ) → k + 1 < encap_header p → be16 t k ≡ be16 p k
    held16 k h = let a = held k (omega arith) in let b = held (k + 1) h in cc

    same_header : encap_header t ≡ encap_header p
    same_header = let z = same.in_first v.0 in cc

    same_second : second t ≡ second p
    same_second = rw same_header (chosen (ltb (encap_header p) 4) (λ e. refl) (λ f. held 1 (omega (arith, ltb-false (encap_header p) 4 f))))

    same_ccsds : ccsds t ≡ ccsds p
    same_ccsds = rw same_header (chosen (ltb (encap_header p) 8) (λ e. refl) (λ f. held16 2 (omega (arith, ltb-false (encap_header p) 8 f))))

    same_size : encap_size t ≡ encap_size p
    same_size =
        let h = encap_header p in
        rw same_header
        (chosen (eqb h 1) (λ e. refl)
        (λ f. chosen (eqb h 2) (λ e. held 1 (omega (arith, eqb-true h 2 e)))
        (λ g. chosen (eqb h 4) (λ e. held16 2 (omega (arith, eqb-true h 4 e)))
        (λ k. let e = last_header (header_is p) (eqb-false _ _ f) (eqb-false _ _ g) (eqb-false _ _ k) in
        let a = held16 4 (omega (arith, e)) in
        let b = held16 6 (omega (arith, e)) in
        cc))))

    pub encap_alike : EncapAlike
    unfolding fields
    encap_alike =
        let z = same.in_first v.0 in
        let h = same_header in
        let x = same_second in
        let c = same_ccsds in
        let n = same_size in
        let w = there v in
        let i : protocol t ≡ protocol p = cc in
        let e : extension t ≡ extension p = cc in
        let same_fields : name_from (encap_header t) (protocol t) (extension t) (octet t 2) ≡ name_from (encap_header p) (protocol p) (extension p) (octet t 2) = λ j. name_from (h j) (i j) (e j) (octet t 2) in
        record {
          there_too = (w, omega (arith, same.longer));
          header_same = h;
          size_same = n;
          misnamed_same = cc;
          empty_same = cc;
          fields_same = simp (ne_eqb (version t) 0 (λ u. omega (arith, w.1)), ne_eqb (version p) 0 (λ u. omega (arith, v.1))) (cc);
          name_same = λ m. same_fields ∙ name_by_third (encap_header p) (protocol p) (extension p) (be16 p 2) m (λ h8. held 2 (omega arith));
        }

  -- ---- the verdict stays: a packet that was whole, and every cause but 1, with its place
  pub record WholeAlike : Type 0 where
    pub whole_too : Whole t
    pub fields_same : fields t ≡ fields p
    pub header_same : header t ≡ header p
    pub size_same : size t ≡ size p

  pub whole_alike : Whole p → WholeAlike
  unfolding header size
  whole_alike (space (u, i) l) =
      let a = space_alike u in
      let e = eq-eqb (version p) 0 u.0.1 in
      let f = eq-eqb (version t) 0 a.there_too.0.1 in
      record {
        whole_too = space (a.there_too, a.idle_same ∙ i) (omega (arith, same.longer, a.size_same));
        fields_same = a.fields_same;
        header_same = simp (e, f);
        size_same = simp (e, f) a.size_same;
      }
  whole_alike (encapsulation ((((u, m), l), o), k) h) =
      let a = encap_alike u.0 u.1 in
      let e = ne_eqb (version p) 0 (λ z. omega (arith, u.0.1)) in
      let f = ne_eqb (version t) 0 (λ z. omega (arith, a.there_too.0.1)) in
      let g : EncapGood t = ((((a.there_too, a.misnamed_same ∙ m), omega (arith, a.header_same, a.size_same)), omega (arith, a.size_same)), a.empty_same ∙ k) in
      record {
        whole_too = encapsulation g (omega (arith, same.longer, a.size_same));
        fields_same = a.fields_same;
        header_same = simp (e, f) a.header_same;
        size_same = simp (e, f) a.size_same;
      }

  abbrev pub CauseAlike : ℕ → Type 0
  CauseAlike n = Cause t n × (fault_at t n ≡ fault_at p n)

  module _ (u : EncapThere p) where
    alike : EncapAlike
    alike = encap_alike u.0 u.1

    named_too : misnamed p ≡ false → EncapNamed t
    named_too m = (alike.there_too, alike.misnamed_same ∙ m)

    long_too : misnamed p ≡ false → encap_header p ≤ encap_size p → EncapLong t
    long_too m l = (named_too m, omega (arith, alike.header_same, alike.size_same))

    limited_too : misnamed p ≡ false → encap_header p ≤ encap_size p → encap_size p ≤ 65542 → EncapLimited t
    limited_too m l o = (long_too m l, omega (arith, alike.size_same))

  pub cause_alike : {n : ℕ} → (n ≡ 1 → ⊥) → Cause p n → CauseAlike n
  unfolding fault_at
  cause_alike not1 (no_version some x y) =
      let w = same_version some in
      (no_version (omega (arith, same.longer)) (λ e. x (sym w ∙ e)) (λ e. y (sym w ∙ e)), refl)
  cause_alike not1 (idle u i) = let a = space_alike u in (idle a.there_too (a.idle_same ∙ i), refl)
  cause_alike not1 (names_nothing u m) = let a = alike u in (names_nothing a.there_too (a.misnamed_same ∙ m), a.name_same m)
  cause_alike not1 (less_than_header (u, m) l) =
      let a = alike u in (less_than_header (named_too u m) (omega (arith, a.header_same, a.size_same)), rw a.header_same)
  cause_alike not1 (over_limit ((u, m), l) o) = let a = alike u in (over_limit (long_too u m l) (omega (arith, a.size_same)), rw a.header_same)
  cause_alike not1 (no_content (((u, m), l), o) k) = (no_content (limited_too u m l o) ((alike u).empty_same ∙ k), refl)
  cause_alike not1 (no_octets e) = absurd (not1 refl)
  cause_alike not1 (space_header_cut v h) = absurd (not1 refl)
  cause_alike not1 (space_packet u h) = absurd (not1 refl)
  cause_alike not1 (encap_header_cut v h) = absurd (not1 refl)
  cause_alike not1 (encap_packet u h) = absurd (not1 refl)
