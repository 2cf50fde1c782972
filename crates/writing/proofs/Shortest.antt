-- No shorter header could carry the fields: whatever header a packet has that reads so, the tests of `shortest` hold for it, so that `shortest`
-- gives it or one before it.
use Prim.Native.Nat.{ℕ, zero, suc, ◌+◌, ◌-◌, ◌/◌, ◌%◌, ◌≤◌, ◌<◌}
use mathlib.Core.Path.{◌≡◌, refl, sym, ap, ◌∙◌}
use mathlib.Core.List.{List, [], ◌∷◌, ◌++◌, append-nil}
use mathlib.Core.Bool.{true, cond, not, ◌&&◌, ◌||◌, true≢false}
use native.Mathlib.Omega.{arith}
use borrow.Author.Tests.{eq-eqb, ne_eqb, lt-ltb, le-ltb, ltb-true, ltb-false, eqb-true, not-false}
use lib.Dec.{eqb, ltb}
use lib.ListN.{length}
use Rattle.octets.specs.Octets.{octet, be16, AreOctets}
use Rattle.octets.proofs.Order.{either, neither}
use Rattle.packet.specs.Encapsulation.{limit, extended, protocol, encap_header, user, extension, ccsds, size_for, encap_size, extends_another}
use Rattle.std.specs.Prelude.{Ok}
use Rattle.reading.specs.Reading.{reading, content, content_at}
use Rattle.reading.specs.Causes.{Whole, space, encapsulation, EncapGood}
use Rattle.packet.specs.declared.Packet.TheVariants.{Encapsulation}
use Rattle.reading.proofs.Exactly.{exactly_whole}
use Rattle.reading.proofs.Answers.{Says, says}
use Rattle.writing.specs.Encapsulation.{shortest, header_octets, encap_octets_with, encap_octets, encap_refusal}
use Rattle.writing.specs.Carries.{Carries, IsShortest}
use Rattle.writing.proofs.Header as fit
use Rattle.writing.proofs.Header.{Fit, shortest_fits, some}
use Rattle.writing.proofs.EncapFine.{Fine, fine, accepts}
use Rattle.writing.proofs.EncapRead.{Legal, read_written}
use Rattle.writing.proofs.EncapWrite.{Kind, one, two, four, eight, kind}

-- ---- where a header's test holds, the shortest is no longer
module _ (p u n : ℕ) where
  at_most_1 : n ≡ 0 → u ≡ 0 → p ≡ 0 → shortest p u n ≤ 1
  unfolding shortest
  at_most_1 a b c = simp (eq-eqb n 0 a, eq-eqb u 0 b, eq-eqb p 0 c) (omega arith)

  at_most_2 : u ≡ 0 → (p ≡ extended → ⊥) → 2 + n < 256 → shortest p u n ≤ 2
  unfolding shortest
  at_most_2 b c d =
      either (eqb n 0 && eqb u 0 && eqb p 0) (λ t. simp t (omega arith))
      (λ f. simp f (simp (eq-eqb u 0 b, ne_eqb p extended c, lt-ltb (2 + n) 256 d) (omega arith)))

  at_most_4 : 4 + n < 65536 → shortest p u n ≤ 4
  unfolding shortest
  at_most_4 d =
      either (eqb n 0 && eqb u 0 && eqb p 0) (λ t. simp t (omega arith))
      (λ f. either (eqb u 0 && not (eqb p extended) && ltb (2 + n) 256) (λ t. simp (f, t) (omega arith))
      (λ g. simp (f, g, lt-ltb (4 + n) 65536 d) (omega arith)))

-- ---- a packet that is read
module _ (s : List ℕ) (small : AreOctets s) (good : EncapGood s) where
  abbrev n : ℕ
  n = encap_size s - encap_header s

  there : encap_header s ≤ encap_size s
  there = good.0.0.1

  no_user : {h : ℕ} → encap_header s ≡ h → ltb h 4 ≡ true → user s ≡ 0
  no_user {h} e t = ap (λ k. cond (ltb k 4) 0 (octet s 1) / 16 % 16) e ∙ simp t

  not_6 : {h : ℕ} → encap_header s ≡ h → ltb h 4 ≡ true → protocol s ≡ extended → ⊥
  not_6 {h} e t six =
      let a = neither (eqb (protocol s) 6 && ltb (encap_header s) 4 || extends_another (protocol s) (extension s)) (not (eqb (ccsds s) 0)) good.0.0.0.1 in
      let b = neither (eqb (protocol s) 6 && ltb (encap_header s) 4) (extends_another (protocol s) (extension s)) a.0 in
      true≢false (sym (simp (eq-eqb (protocol s) 6 six) (ap (λ k. ltb k 4) e ∙ t)) ∙ b.0)

  idle : encap_size s ≡ encap_header s → protocol s ≡ 0
  idle e = eqb-true _ _ (not-false _ (simp (eq-eqb n 0 (omega (arith, e))) at good.1))

  pub at_most : Kind s → shortest (protocol s) (user s) n ≤ encap_header s
  at_most (one l e) =
      let size : encap_size s ≡ 1 = ap (λ k. size_for k s) e in
      omega (arith, e, at_most_1 (protocol s) (user s) n (omega (arith, size, e)) (no_user e refl) (idle (size ∙ sym e)))
  at_most (two l e) =
      let size : encap_size s ≡ octet s 1 = ap (λ k. size_for k s) e in
      omega (arith, e, at_most_2 (protocol s) (user s) n (no_user e refl) (not_6 e refl) (omega (arith, size, e, small 1, there)))
  at_most (four l e) =
      let size : encap_size s ≡ be16 s 2 = ap (λ k. size_for k s) e in
      omega (arith, e, at_most_4 (protocol s) (user s) n (omega (arith, size, e, small 2, small 3, there)))
  at_most (eight l e) = omega (arith, e, some (shortest_fits (protocol s) (user s) n))

-- ---- the law: a header that carries the fields and the content is no shorter than the shortest
pub no_shorter : (h p u x : ℕ) (given : List ℕ) → Carries h p u x given → shortest p u (length given) ≤ h
no_shorter h p u x given c =
    let s = c.packet in
    let told = says (Ok (Encapsulation p u x h (length given))) s (sym c.reads) in
    of_whole told ((exactly_whole s).0 told.0)
  where
    of_whole : Says (Ok (Encapsulation p u x h (length given))) c.packet → Whole c.packet → shortest p u (length given) ≤ h
    of_whole (r, v, p', u', x', h', n') (space good f) = absurd (v good.0.0.1)
    of_whole (r, v, p', u', x', h', n') (encapsulation good f) =
        let low = at_most c.packet c.are_octets good (kind c.packet) in
        rw (p', u', h', n') low

-- ---- and the shortest carries them, where the writer refuses nothing
legal : (p u x n room : ℕ) → Fine p u x n room → Legal (shortest p u n) p u x n
legal p u x n room ok = record {
  id = ok.protocol;
  user' = ok.user;
  extension' = ok.extension;
  extends = ok.extends;
  named = ok.named;
  limited = ok.limited;
}

abbrev Small : List ℕ → Type 0
Small [] = Unit
Small (x ∷ xs) = (x < 256) × Small xs

in_front : (xs s : List ℕ) → Small xs → AreOctets s → AreOctets (xs ++ s)
in_front [] s h f k = f k
in_front (x ∷ xs) s (a, b) f zero = a
in_front (x ∷ xs) s (a, b) f (suc k) = in_front xs s b f k

small_header : {h p u n : ℕ} (x : ℕ) → Fit h p u n → Legal h p u x n → Small (header_octets h p u x (h + n))
unfolding header_octets
small_header x (fit.one e a b c) ok = rw e (omega (arith, ok.id), tt)
small_header x (fit.two e a b c) ok = rw e (omega (arith, ok.id), (c, tt))
small_header x (fit.four e a) ok =
    rw e (omega (arith, ok.id), (omega (arith, ok.user', ok.extension'), (omega arith, (omega arith, tt))))
small_header x (fit.eight e) ok =
    rw e (omega (arith, ok.id), (omega (arith, ok.user', ok.extension'), (omega arith, (omega arith, (omega arith, (omega arith, (omega arith, (omega arith, tt))))))))

module _ (p u x room : ℕ) (given : List ℕ) (e : encap_refusal p u x (length given) room ≡ 0) where
  -- reading what was written, with anything after it
  pub read_back : (rest : List ℕ)
      → (reading (encap_octets p u x given ++ rest) ≡ 0 ∷ 7 ∷ p ∷ u ∷ x ∷ shortest p u (length given) ∷ length given ∷ [])
      × (content (encap_octets p u x given ++ rest) ≡ given)
      × (content_at (encap_octets p u x given ++ rest) ≡ shortest p u (length given))
  read_back rest =
      let n = length given in
      read_written (shortest p u n) p u x given rest (shortest_fits p u n) (legal p u x n room (fine p u x n room e))

  pub carried : AreOctets given → Carries (shortest p u (length given)) p u x given
  unfolding encap_octets_with
  carried small =
      let n = length given in
      let back = read_back [] in
      record {
        packet = encap_octets p u x given;
        are_octets = in_front (header_octets (shortest p u n) p u x (shortest p u n + n)) given (small_header x (shortest_fits p u n) (legal p u x n room (fine p u x n room e))) small;
        reads = ap reading (sym (append-nil (encap_octets p u x given))) ∙ back.0;
        has_content = ap content (sym (append-nil (encap_octets p u x given))) ∙ back.1;
      }

  -- so it is the shortest
  pub is_shortest : AreOctets given → IsShortest (shortest p u (length given)) p u x given
  is_shortest small = (carried small, λ k c. no_shorter k p u x given c)

-- ---- 10 is given exactly for more than 65,534 octets of content
pub too_long : (p u n : ℕ) → ltb limit (shortest p u n + n) ≡ ltb 65534 n
too_long p u n =
    let f = shortest_fits p u n in
    either (ltb 65534 n)
    (λ t. lt-ltb limit (shortest p u n + n) (over f (ltb-true _ _ t)) ∙ sym t)
    (λ g. le-ltb limit (shortest p u n + n) (omega (arith, some f, ltb-false 65534 n g)) ∙ sym g)
  where
    over : {h : ℕ} → Fit h p u n → 65534 < n → limit < h + n
    over (fit.one e a b c) l = absurd (omega (arith, a, l))
    over (fit.two e a b c) l = absurd (omega (arith, c, l))
    over (fit.four e a) l = absurd (omega (arith, a, l))
    over (fit.eight e) l = omega (arith, e, l)

-- ---- writing what was read is never refused where there is room for the shortest header and the content
module _ (s : List ℕ) (small : AreOctets s) (good : EncapGood s) (room : ℕ) where
  abbrev m : ℕ
  m = encap_size s - encap_header s

  pub accepted_again : shortest (protocol s) (user s) m + m ≤ room → encap_refusal (protocol s) (user s) (extension s) m room ≡ 0
  accepted_again fits =
      let low = at_most s small good (kind s) in
      let a = neither (eqb (protocol s) 6 && ltb (encap_header s) 4 || extends_another (protocol s) (extension s)) (not (eqb (ccsds s) 0)) good.0.0.0.1 in
      let b = neither (eqb (protocol s) 6 && ltb (encap_header s) 4) (extends_another (protocol s) (extension s)) a.0 in
      accepts (protocol s) (user s) (extension s) m room
      (record {
        protocol = omega arith;
        user = omega arith;
        extension = omega arith;
        extends = b.1;
        named = good.1;
        limited = omega (arith, low, good.0.0.1, good.0.1);
        fits = fits;
      })
