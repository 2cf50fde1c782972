-- An Encapsulation Packet that is not refused: every test of the order failed, so each field is within its width and the packet fits.
use Prim.Native.Nat.{ℕ, ◌+◌, ◌≤◌, ◌<◌}
use mathlib.Core.Path.{◌≡◌, refl}
use mathlib.Core.List.{List, [], ◌∷◌}
use mathlib.Core.Bool.{false, ◌||◌}
use native.Mathlib.Omega.{arith}
use borrow.Author.Tests.{lt-leb, le-ltb, leb-false, ltb-false}
use lib.Dec.{ltb}
use lib.ListN.{length, length-append}
use Rattle.octets.specs.Output.{unless_refused}
use Rattle.octets.proofs.Order.{either, neither, settled_number, settled_values}
use Rattle.octets.proofs.Writers.{told_octets, told_refusal}
use Rattle.packet.specs.Encapsulation.{limit, extends_another, names_empty}
use Rattle.writing.specs.Fields.{over}
use Rattle.writing.specs.Encapsulation.{shortest, header_octets, encap_octets_with, encap_octets, encap_over, encap_tests, encap_told, encap_refusal}
use Rattle.writing.proofs.Header.{shortest_fits, header_size}

module _ (p u x n room : ℕ) where
  pub record Fine : Type 0 where
    pub protocol : p < 8
    pub user : u < 16
    pub extension : x < 16
    pub extends : extends_another p x ≡ false
    pub named : names_empty n p ≡ false
    pub limited : shortest p u n + n ≤ limit
    pub fits : shortest p u n + n ≤ room

  -- the tests that failed, as facts
  pub all_failed : encap_over p u x ≡ false → extends_another p x ≡ false → names_empty n p ≡ false
      → shortest p u n + n ≤ limit → shortest p u n + n ≤ room → Fine
  all_failed over' extends named limited fits =
      let (pu, x') = neither (over 3 p || over 4 u) (over 4 x) over' in
      let (p', u') = neither (over 3 p) (over 4 u) pu in
      record {
        protocol = leb-false 8 p p';
        user = leb-false 16 u u';
        extension = leb-false 16 x x';
        extends = extends;
        named = named;
        limited = limited;
        fits = fits;
      }

  pub fine : encap_refusal p u x n room ≡ 0 → Fine
  unfolding encap_told
  fine e =
      either (encap_over p u x) (λ h. absurd (omega (arith, simp h at e)))
      (λ o. either (extends_another p x) (λ h. absurd (omega (arith, simp (o, h) at e)))
      (λ i. either (names_empty n p) (λ h. absurd (omega (arith, simp (o, i, h) at e)))
      (λ d. either (ltb limit (shortest p u n + n)) (λ h. absurd (omega (arith, simp (o, i, d, h) at e)))
      (λ l. either (ltb room (shortest p u n + n)) (λ h. absurd (omega (arith, simp (o, i, d, l, h) at e)))
      (λ r. all_failed o i d (ltb-false limit (shortest p u n + n) l) (ltb-false room (shortest p u n + n) r))))))

  -- the other way round
  pub accepts : Fine → encap_refusal p u x n room ≡ 0
  unfolding encap_told
  accepts ok =
      simp (lt-leb 8 p ok.protocol, lt-leb 16 u ok.user, lt-leb 16 x ok.extension, ok.extends, ok.named, le-ltb limit (shortest p u n + n) ok.limited, le-ltb room (shortest p u n + n) ok.fits)

  -- ---- a number that was settled first is what is told, and so are the octets
  pub refused_told : {k : ℕ} → k ≡ encap_refusal p u x n room → (k ≡ 0 → ⊥) → k ∷ [] ≡ encap_told p u x n room
  unfolding encap_told
  refused_told {k} settled some = settled_number ((shortest p u n + n) ∷ []) (encap_tests p u x n room) (refl, (refl, (refl, (refl, (refl, tt))))) k settled some

  pub fine_told : encap_refusal p u x n room ≡ 0 → 0 ∷ (shortest p u n + n) ∷ [] ≡ encap_told p u x n room
  unfolding encap_told
  fine_told e = settled_values ((shortest p u n + n) ∷ []) (encap_tests p u x n room) (omega arith) e

-- the packet's octets
pub encap_size_lem : (p u x : ℕ) (content : List ℕ) → length (encap_octets p u x content) ≡ shortest p u (length content) + length content
unfolding encap_octets_with
encap_size_lem p u x content =
    let h = shortest p u (length content) in
    omega (arith, length-append (header_octets h p u x (h + length content)) content, header_size (shortest_fits p u (length content)) x (h + length content))

-- what the writer told says how it ended, also for a number of octets that is lent
module _ (p u x : ℕ) (content : List ℕ) (room old : ℕ) where
  abbrev refusal : ℕ
  refusal = encap_refusal p u x (length content) room

  pub octets_told : (m : ℕ) → 0 ∷ m ∷ [] ≡ encap_told p u x (length content) room → (0 ≡ refusal) × (m ≡ unless_refused refusal (length (encap_octets p u x content)) old)
  unfolding encap_told
  octets_told m e = rw (encap_size_lem p u x content) (told_octets (shortest p u (length content) + length content) (encap_tests p u x (length content) room) (omega arith) old m e)

  pub refusal_told : (k : ℕ) → k ∷ [] ≡ encap_told p u x (length content) room → (k ≡ refusal) × (old ≡ unless_refused refusal (length (encap_octets p u x content)) old)
  unfolding encap_told
  refusal_told k e = rw (encap_size_lem p u x content) (told_refusal (shortest p u (length content) + length content) (encap_tests p u x (length content) room) (omega arith) old k e)
