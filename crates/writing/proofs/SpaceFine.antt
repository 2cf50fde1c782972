-- A Space Packet that is not refused: every test of the order failed, so each field is within its width and the packet fits.
use Prim.Native.Nat.{ℕ, ◌+◌, ◌≤◌, ◌<◌}
use mathlib.Core.Path.{◌≡◌, refl}
use mathlib.Core.List.{List, [], ◌∷◌}
use mathlib.Core.Bool.{false, ◌||◌}
use native.Mathlib.Omega.{arith}
use borrow.Author.Tests.{lt-leb, le-ltb, ne_eqb, leb-false, ltb-false, eqb-false}
use lib.Dec.{eqb, ltb}
use lib.ListN.{length}
use Rattle.octets.specs.Output.{unless_refused}
use Rattle.octets.proofs.Order.{either, neither, settled_number, settled_values}
use Rattle.octets.proofs.Writers.{told_octets, told_refusal}
use Rattle.packet.specs.Space.{apids, counts, space_header, longest_data, flags_idle}
use Rattle.writing.specs.Fields.{over}
use Rattle.writing.specs.Space.{space_octets, space_over, wrong_data_length, space_tests, space_told, space_refusal}

module _ (t x a f c n room : ℕ) where
  pub record Fine : Type 0 where
    pub type_fits : t < 2
    pub secondary : x < 2
    pub apid : a < apids
    pub flags : f < 4
    pub count : c < counts
    pub not_idle : flags_idle a x ≡ false
    pub some : 0 < n
    pub most : n ≤ longest_data
    pub fits : space_header + n ≤ room

  -- the tests that failed, as facts
  pub all_failed : space_over t x a f c ≡ false → flags_idle a x ≡ false → wrong_data_length n ≡ false → space_header + n ≤ room → Fine
  all_failed over' idle empty fits =
      let (o4, c') = neither (over 1 t || over 1 x || over 11 a || over 2 f) (over 14 c) over' in
      let (o3, f') = neither (over 1 t || over 1 x || over 11 a) (over 2 f) o4 in
      let (o2, a') = neither (over 1 t || over 1 x) (over 11 a) o3 in
      let (t', x') = neither (over 1 t) (over 1 x) o2 in
      let (none, most) = neither (eqb n 0) (ltb longest_data n) empty in
      record {
        type_fits = leb-false 2 t t';
        secondary = leb-false 2 x x';
        apid = leb-false apids a a';
        flags = leb-false 4 f f';
        count = leb-false counts c c';
        not_idle = idle;
        some = omega (arith, eqb-false n 0 none);
        most = ltb-false longest_data n most;
        fits = fits;
      }

  pub fine : space_refusal t x a f c n room ≡ 0 → Fine
  unfolding space_told
  fine e =
      either (space_over t x a f c) (λ h. absurd (omega (arith, simp h at e)))
      (λ o. either (flags_idle a x) (λ h. absurd (omega (arith, simp (o, h) at e)))
      (λ i. either (wrong_data_length n) (λ h. absurd (omega (arith, simp (o, i, h) at e)))
      (λ d. either (ltb room (space_header + n)) (λ h. absurd (omega (arith, simp (o, i, d, h) at e)))
      (λ h. all_failed o i d (ltb-false room (space_header + n) h)))))

  -- the other way round
  pub accepts : Fine → space_refusal t x a f c n room ≡ 0
  unfolding space_told
  accepts ok =
      simp (lt-leb 2 t ok.type_fits, lt-leb 2 x ok.secondary, lt-leb apids a ok.apid, lt-leb 4 f ok.flags, lt-leb counts c ok.count, ok.not_idle, ne_eqb n 0 (λ z. omega (arith, ok.some)), le-ltb longest_data n ok.most, le-ltb room (space_header + n) ok.fits)

  -- ---- a number that was settled first is what is told, and so are the octets
  pub refused_told : {k : ℕ} → k ≡ space_refusal t x a f c n room → (k ≡ 0 → ⊥) → k ∷ [] ≡ space_told t x a f c n room
  unfolding space_told
  refused_told {k} settled some = settled_number ((space_header + n) ∷ []) (space_tests t x a f c n room) (refl, (refl, (refl, (refl, tt)))) k settled some

  pub fine_told : space_refusal t x a f c n room ≡ 0 → 0 ∷ (space_header + n) ∷ [] ≡ space_told t x a f c n room
  unfolding space_told
  fine_told e = settled_values ((space_header + n) ∷ []) (space_tests t x a f c n room) (omega arith) e

-- the packet's octets
pub space_size_lem : (t x a f c : ℕ) (field : List ℕ) → length (space_octets t x a f c field) ≡ space_header + length field
unfolding space_octets
space_size_lem t x a f c field = omega arith

-- what the writer told says how it ended, also for a number of octets that is lent
module _ (t x a f c : ℕ) (field : List ℕ) (room old : ℕ) where
  abbrev refusal : ℕ
  refusal = space_refusal t x a f c (length field) room

  pub octets_told : (m : ℕ) → 0 ∷ m ∷ [] ≡ space_told t x a f c (length field) room → (0 ≡ refusal) × (m ≡ unless_refused refusal (length (space_octets t x a f c field)) old)
  unfolding space_told
  octets_told m e = rw (space_size_lem t x a f c field) (told_octets (space_header + length field) (space_tests t x a f c (length field) room) (omega arith) old m e)

  pub refusal_told : (k : ℕ) → k ∷ [] ≡ space_told t x a f c (length field) room → (k ≡ refusal) × (old ≡ unless_refused refusal (length (space_octets t x a f c field)) old)
  unfolding space_told
  refusal_told k e = rw (space_size_lem t x a f c field) (told_refusal (space_header + length field) (space_tests t x a f c (length field) room) (omega arith) old k e)
