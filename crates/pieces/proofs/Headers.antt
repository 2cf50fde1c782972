-- Eight octets hold every header: what they announce, all octets announce. So a packet that eight octets cut short is whole where all of them are as many as it has.
use Prim.Native.Nat.{ℕ, ◌+◌, ◌≤◌, ◌<◌}
use mathlib.Core.Path.{◌≡◌, refl, sym, ap, ◌∙◌}
use mathlib.Core.List.{List, ◌++◌}
use mathlib.Core.Bool.{cond, ◌&&◌}
use native.Mathlib.Omega.{arith}
use borrow.Author.Tests.{eq-eqb, ne_eqb, le-leb, lt-leb, leb-true, leb-false, eqb-true, eqb-false}
use lib.Dec.{eqb, leb}
use lib.ListN.{length, take, drop, length-append, take-append-drop, get_or-append}
use lib.Seq.{take_all, length-take-le}
use Rattle.octets.specs.Octets.{octet, be16}
use Rattle.octets.specs.Output.{leading}
use Rattle.octets.proofs.Order.{either}
use Rattle.packet.specs.Space.{version, space_size}
use Rattle.packet.specs.Encapsulation.{encap_size}
use Rattle.reading.specs.Reading.{header, size, refusal}
use Rattle.reading.specs.Causes.{Cause, SpaceGood, EncapGood, no_octets, no_version, space_header_cut, idle, space_packet, encap_header_cut, names_nothing, less_than_header, over_limit, no_content, encap_packet}
use Rattle.reading.specs.Causes.{Whole, space, encapsulation}
use Rattle.reading.proofs.Exactly.{gives, whole_gives, exactly}
use Rattle.reading.proofs.Within.{HeaderIs, one, two, four, eight, header_is}
use Rattle.reading.proofs.After.{after}
use Rattle.reading.proofs.Alike as alike

pub header_most : {h : ℕ} → HeaderIs h → h ≤ 8
header_most (one e) = omega arith
header_most (two e) = omega arith
header_most (four e) = omega arith
header_most (eight e) = omega arith

module _ (p rest : List ℕ) (all : 8 ≤ length p) where
  kept : (k : ℕ) → k < length p → octet (p ++ rest) k ≡ octet p k
  kept k h = get_or-append p rest 0 k h

  kept16 : (k : ℕ) → k + 1 < length p → be16 (p ++ rest) k ≡ be16 p k
  kept16 k h = let a = kept k (omega arith) in let b = kept (k + 1) h in cc

  longer : length p ≤ length (p ++ rest)
  longer = simp length-append (omega arith)

  agrees : alike.Agrees p (p ++ rest)
  agrees = record { longer = longer; in_first = kept 0; in_space = λ v k h b. kept k h; in_encap = λ v k h b. kept k h }

  same_header : header (p ++ rest) ≡ header p
  unfolding header
  same_header = let a = kept 0 (omega arith) in cc

  same_size : size (p ++ rest) ≡ size p
  unfolding size
  same_size =
      let a = kept 0 (omega arith) in
      let b = kept 1 (omega arith) in
      let c = kept16 2 (omega arith) in
      let d = kept16 4 (omega arith) in
      let e = kept16 6 (omega arith) in
      cc

  -- whole or cut short, by the size
  by_size : (n : ℕ) → (n ≤ length (p ++ rest) → Whole (p ++ rest)) → (length (p ++ rest) < n → Cause (p ++ rest) 1) → size p ≡ n
      → refusal (p ++ rest) ≡ cond (leb (size p) (length (p ++ rest))) 0 1
  by_size n whole cut e =
      either (leb (size p) (length (p ++ rest)))
      (λ l. simp l (whole_gives (whole (omega (arith, e, leb-true (size p) (length (p ++ rest)) l)))))
      (λ l. simp l (gives (cut (omega (arith, e, leb-false (size p) (length (p ++ rest)) l)))))

  cut_short : {n : ℕ} → n ≡ 1 → Cause p n → refusal (p ++ rest) ≡ cond (leb (size p) (length (p ++ rest))) 0 1
  unfolding size
  cut_short one' (no_octets e) = absurd (omega arith)
  cut_short one' (space_header_cut v h) = absurd (omega arith)
  cut_short one' (encap_header_cut v h) = absurd (omega (arith, header_most (header_is p)))
  cut_short one' (space_packet (t, i) h) =
      let a = alike.space_alike p (p ++ rest) agrees t in
      let good : SpaceGood (p ++ rest) = (a.there_too, a.idle_same ∙ i) in
      by_size (space_size p) (λ l. space good (omega (arith, a.size_same))) (λ l. space_packet good (omega (arith, a.size_same))) (simp (eq-eqb (version p) 0 t.0.1))
  cut_short one' (encap_packet ((((t, m), l), o), k) h) =
      let a = alike.encap_alike p (p ++ rest) agrees t.0 t.1 in
      let good : EncapGood (p ++ rest) =
      ((((a.there_too, a.misnamed_same ∙ m), omega (arith, a.header_same, a.size_same)), omega (arith, a.size_same)), a.empty_same ∙ k) in
      by_size (encap_size p) (λ q. encapsulation good (omega (arith, a.size_same))) (λ q. encap_packet good (omega (arith, a.size_same)))
      (simp (ne_eqb (version p) 0 (λ z. omega (arith, t.0.1))))
  cut_short one' (no_version some x y) = absurd (omega arith)
  cut_short one' (idle t i) = absurd (omega arith)
  cut_short one' (names_nothing t m) = absurd (omega arith)
  cut_short one' (less_than_header t l) = absurd (omega arith)
  cut_short one' (over_limit t o) = absurd (omega arith)
  cut_short one' (no_content t k) = absurd (omega arith)

  refused_so : cond (eqb (refusal p) 1 && leb 8 (length (p ++ rest)) && leb (size p) (length (p ++ rest))) 0 (refusal p) ≡ refusal (p ++ rest)
  unfolding refusal
  refused_so =
      either (eqb (refusal p) 1)
      (λ e. let one' = eqb-true (refusal p) 1 e in
      simp (e, le-leb 8 (length (p ++ rest)) (omega (arith, longer)))
      (ap (cond (leb (size p) (length (p ++ rest))) 0) one' ∙ sym (cut_short refl ((exactly p 1 (omega arith)).0 one'))))
      (λ e. simp e (sym (ap leading (after p rest (eqb-false (refusal p) 1 e)).0)))

-- what the first eight of some octets announce, or all where there are fewer, and the refusal that follows for all
pub record Headed (s p : List ℕ) : Type 0 where
  pub header_so : header p ≡ header s
  pub size_so : size p ≡ size s
  pub refusal_so : cond (eqb (refusal p) 1 && leb 8 (length s) && leb (size p) (length s)) 0 (refusal p) ≡ refusal s

split : (s : List ℕ) → 8 ≤ length s → Headed (take 8 s ++ drop 8 s) (take 8 s)
split s h =
    let all : 8 ≤ length (take 8 s) = omega (arith, length-take-le 8 s h) in
    record {
      header_so = sym (same_header (take 8 s) (drop 8 s) all);
      size_so = sym (same_size (take 8 s) (drop 8 s) all);
      refusal_so = refused_so (take 8 s) (drop 8 s) all;
    }

fewer : (s : List ℕ) → length s < 8 → Headed s s
fewer s h =
    record {
      header_so = refl;
      size_so = refl;
      refusal_so = either (eqb (refusal s) 1) (λ e. simp (e, lt-leb 8 (length s) h)) (λ e. simp e);
    }

pub headed : (s : List ℕ) → Headed s (take 8 s)
headed s =
    either (leb 8 (length s)) (λ l. rw (take-append-drop 8 s) at (split s (leb-true _ _ l)))
    (λ l. let h = leb-false 8 (length s) l in rw (take_all 8 s (omega arith)) (fewer s h))
