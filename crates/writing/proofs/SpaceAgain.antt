-- Round trips of Space Packets. The header's octets are those of three numbers, so each field comes back by division; and the octets that
-- were read are those that the numbers give.
use Prim.Native.Nat.{ℕ, ◌+◌, ◌*◌, ◌-◌, ◌%◌, ◌≤◌}
use mathlib.Core.Path.{◌≡◌, refl, sym, ap, ◌∙◌}
use mathlib.Core.List.{List, [], ◌∷◌, ◌++◌}
use mathlib.Core.Bool.{false}
use native.Mathlib.Omega.{arith}
use borrow.Author.Tests.{eq-eqb}
use lib.ListN.{length, take, drop, length-append, length-drop}
use lib.Seq.{take-append_seam, take-add, length-take-le}
use Rattle.octets.specs.Octets.{octet, be16, AreOctets}
use Rattle.octets.proofs.Again.{two, split}
use Rattle.packet.specs.Space.{version, packet_type, secondary, apids, counts, apid, flags, count, space_header, data_octets, space_size, flagged_idle}
use Rattle.reading.specs.Reading.{header, size, refusal, fields, reading, content, content_at}
use Rattle.reading.specs.Causes.{Whole, space, SpaceGood}
use Rattle.reading.proofs.Exactly.{whole_gives, accepted}
use Rattle.writing.specs.Space.{space_octets, space_refusal}
use Rattle.writing.proofs.SpaceFine.{Fine, accepts, space_size_lem}

-- ---- reading what was written, with anything after it
module _ (t x a f c : ℕ) (field rest : List ℕ) (room : ℕ) (ok : Fine t x a f c (length field) room) where
  abbrev s : List ℕ
  s = space_octets t x a f c field ++ rest

  -- each field comes back
  pub record Same : Type 0 where
    pub version_0 : version s ≡ 0
    pub type_is : packet_type s ≡ t
    pub second : secondary s ≡ x
    pub id : apid s ≡ a
    pub flag : flags s ≡ f
    pub number : count s ≡ c
    pub octets : data_octets s ≡ length field

  same : Same
  unfolding space_octets
  same = record {
    version_0 = omega (arith, ok.type_fits, ok.secondary, ok.apid);
    type_is = omega (arith, ok.type_fits, ok.secondary, ok.apid);
    second = omega (arith, ok.type_fits, ok.secondary, ok.apid);
    id = omega (arith, ok.type_fits, ok.secondary, ok.apid);
    flag = omega (arith, ok.flags, ok.count);
    number = omega (arith, ok.flags, ok.count);
    octets = omega (arith, ok.some, ok.most);
  }

  has : length s ≡ space_header + length field + length rest
  has = length-append (space_octets t x a f c field) rest ∙ ap (λ n. n + length rest) (space_size_lem t x a f c field)

  whole : Whole s
  whole =
      let i : flagged_idle s ≡ false = rw (same.id, same.second) ok.not_idle in
      space (((omega (arith, has), same.version_0), omega (arith, has)), i) (omega (arith, has, same.octets))

  same_fields : fields s ≡ 0 ∷ t ∷ x ∷ a ∷ f ∷ c ∷ length field ∷ []
  unfolding fields
  same_fields = let e = same in simp (eq-eqb (version s) 0 e.version_0) (rw (e.type_is, e.second, e.id, e.flag, e.number, e.octets))

  after_header : take (length field) (drop space_header s) ≡ field
  unfolding space_octets
  after_header = take-append_seam field rest

  same_content : take (size s - header s) (drop (header s) s) ≡ field
  unfolding size header
  same_content =
      let e = same in
      let n : space_size s - space_header ≡ length field = omega (arith, e.octets) in
      simp (eq-eqb (version s) 0 e.version_0) (rw n after_header)

  pub read_written : (reading s ≡ 0 ∷ 0 ∷ t ∷ x ∷ a ∷ f ∷ c ∷ length field ∷ []) × (content s ≡ field) × (content_at s ≡ space_header)
  unfolding content content_at header
  read_written =
      let good = eq-eqb (refusal s) 0 (whole_gives whole) in
      (sym (accepted whole) ∙ ap (λ more. 0 ∷ more) same_fields, simp good same_content, simp (good, eq-eqb (version s) 0 same.version_0))

-- ---- writing what was read: the writer gives the same octets, and refuses nothing where there is room
abbrev pub Again : List ℕ → Type 0
Again s =
    (space_octets (packet_type s) (secondary s) (apid s) (flags s) (count s) (content s) ≡ take (size s) s)
    × ((room : ℕ) → size s ≤ room → space_refusal (packet_type s) (secondary s) (apid s) (flags s) (count s) (length (content s)) room ≡ 0)

module _ (s : List ℕ) (small : AreOctets s) (good : SpaceGood s) (h : space_size s ≤ length s) where
  abbrev data_field : List ℕ
  data_field = take (space_size s - space_header) (drop space_header s)

  field_octets : length data_field ≡ data_octets s
  field_octets = length-take-le (space_size s - space_header) (drop space_header s) (simp length-drop (omega (arith, h))) ∙ omega arith

  same_octets : space_octets (packet_type s) (secondary s) (apid s) (flags s) (count s) data_field ≡ take (space_size s) s
  unfolding space_octets
  same_octets =
      let z = small 0 in
      let y = small 1 in
      let u = small 2 in
      let v = small 3 in
      let high : octet s 0 ≡ packet_type s * 16 + secondary s * 8 + octet s 0 % 8 =
      omega (arith, z, good.0.0.1, split (octet s 0) 8 2, split (octet s 0) 16 2, split (octet s 0) 32 8) in
      let low : apid s ≡ octet s 0 % 8 * 256 + octet s 1 = omega (arith, z, y) in
      let w1 : (packet_type s * 2 + secondary s) * apids + apid s ≡ be16 s 0 = omega (arith, high, low) in
      let w2 : flags s * counts + count s ≡ be16 s 2 = omega (arith, u, v) in
      let w3 : length data_field - 1 ≡ be16 s 4 = omega (arith, field_octets) in
      let p1 = two s small [] 0 _ (omega (arith, h)) w1 refl in
      let p2 = two s small _ 2 _ (omega (arith, h)) w2 p1 in
      let p3 = two s small _ 4 _ (omega (arith, h)) w3 p2 in
      let n : space_header + (space_size s - space_header) ≡ space_size s = omega arith in
      ap (λ p. p ++ data_field) p3 ∙ sym (take-add space_header (space_size s - space_header) s) ∙ ap (λ k. take k s) n

  is_field : content s ≡ data_field
  unfolding content header size
  is_field = simp (eq-eqb (refusal s) 0 (whole_gives (space good h)), eq-eqb (version s) 0 good.0.0.1)

  is_size : size s ≡ space_size s
  unfolding size
  is_size = simp (eq-eqb (version s) 0 good.0.0.1)

  fine_again : (room : ℕ) → space_size s ≤ room → Fine (packet_type s) (secondary s) (apid s) (flags s) (count s) (length data_field) room
  fine_again room fits =
      let most = small 4 in
      let last = small 5 in
      record {
        type_fits = omega arith;
        secondary = omega arith;
        apid = omega arith;
        flags = omega arith;
        count = omega arith;
        not_idle = good.1;
        some = omega (arith, field_octets);
        most = omega (arith, field_octets);
        fits = omega (arith, field_octets);
      }

  pub again : Again s
  again =
      (rw (is_field, is_size) same_octets, λ room fits. rw is_field (accepts _ _ _ _ _ _ room (fine_again room (rw (← is_size) fits))))
