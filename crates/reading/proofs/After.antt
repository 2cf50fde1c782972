-- Octets after the packet are not looked at. Appending leaves every octet of the header as it was, so the fields, the tests and the
-- verdict stay (`Alike`); only a packet that was cut short (1) may read otherwise with more octets.
use Prim.Native.Nat.{ℕ, ◌-◌, ◌≤◌, ◌<◌}
use mathlib.Core.Path.{◌≡◌, refl, sym, ap, ◌∙◌}
use mathlib.Core.Logic.{⊎_elim}
use mathlib.Core.List.{List, [], ◌∷◌, ◌++◌}
use mathlib.Core.Bool.{true, false}
use native.Mathlib.Omega.{arith}
use borrow.Author.Tests.{eq-eqb, ne_eqb}
use lib.Dec.{eqb}
use lib.ListN.{length, take, drop, length-append, length-drop, get_or-append}
use lib.Seq.{take-append-le, drop-append-le}
use Rattle.octets.specs.Octets.{octet}
use Rattle.packet.specs.Space.{version}
use Rattle.packet.specs.Encapsulation.{encap_header}
use Rattle.reading.specs.Reading.{header, size, refusal, reading, content, content_at}
use Rattle.reading.specs.Causes.{Cause, no_octets, no_version, space_header_cut, idle, space_packet, encap_header_cut, names_nothing, less_than_header, over_limit, no_content, encap_packet}
use Rattle.reading.specs.Causes.{Whole, Version}
use Rattle.reading.proofs.Exactly.{gives, whole_gives, numbered, verdict, exactly, refused, accepted}
use Rattle.reading.proofs.Within.{whole_within, within}
use Rattle.reading.proofs.Alike as alike

module _ (p rest : List ℕ) where
  longer : length p ≤ length (p ++ rest)
  longer = simp length-append (omega arith)

  kept : (k : ℕ) → k < length p → octet (p ++ rest) k ≡ octet p k
  kept k h = get_or-append p rest 0 k h

  agrees : alike.Agrees p (p ++ rest)
  agrees = record { longer = longer; in_first = kept 0; in_space = λ v k h b. kept k h; in_encap = λ v k h b. kept k h }

  there : {v : ℕ} → Version v p → Version v (p ++ rest)
  there = alike.there p (p ++ rest) agrees

  -- ---- the verdict stays, and what is told with it
  abbrev Same : Type 0
  Same = (reading (p ++ rest) ≡ reading p) × (content (p ++ rest) ≡ content p) × (content_at (p ++ rest) ≡ content_at p)

  same_refusal : {n : ℕ} → Cause p n → alike.CauseAlike p (p ++ rest) agrees n → Same
  unfolding content content_at
  same_refusal {n} a (b, at) =
      let f : (s : List ℕ) → Cause s n → eqb (refusal s) 0 ≡ false = λ s c. ne_eqb (refusal s) 0 (λ z. omega (arith, gives c, numbered c)) in
      (sym (refused b) ∙ ap (λ q. n ∷ q ∷ []) at ∙ refused a, simp (f p a, f (p ++ rest) b), simp (f p a, f (p ++ rest) b))

  same_part : (h n : ℕ) → h ≤ n → n ≤ length p → take (n - h) (drop h (p ++ rest)) ≡ take (n - h) (drop h p)
  same_part h n a b =
      let c : h ≤ length p = omega arith in
      let d : n - h ≤ length (drop h p) = simp length-drop (omega arith) in
      rw (drop-append-le h p rest, take-append-le (n - h) (drop h p) rest)

  same_whole : Whole p → Same
  unfolding content content_at
  same_whole a =
      let b = alike.whole_alike p (p ++ rest) agrees a in
      let w = whole_within a in
      let t : (s : List ℕ) → Whole s → eqb (refusal s) 0 ≡ true = λ s c. eq-eqb (refusal s) 0 (whole_gives c) in
      let tp = t p a in
      let tr = t (p ++ rest) b.whole_too in (
        sym (accepted b.whole_too) ∙ (rw b.fields_same (accepted a)),
        simp (tp, tr, b.header_same, b.size_same) (same_part (header p) (size p) w.1 w.2),
        simp (tp, tr, b.header_same),
      )

  -- the law: reading p with anything after it is reading p, where p is not cut short
  pub after : (refusal p ≡ 1 → ⊥) → (reading (p ++ rest) ≡ reading p) × (content (p ++ rest) ≡ content p) × (content_at (p ++ rest) ≡ content_at p)
  after u =
      ⊎_elim same_whole (λ k. same_refusal k.1 (alike.cause_alike p (p ++ rest) agrees (λ e. u (gives k.1 ∙ e)) k.1)) (verdict p)

  -- the other way round: where p holds the whole of the packet that is read from p and anything after it, p is not cut short
  module _ (r : refusal (p ++ rest) ≡ 0) (w : size (p ++ rest) ≤ length p) where
    uncut : {n : ℕ} → Cause p n → n ≡ 1 → ⊥
    unfolding header size
    uncut (no_octets e) one' = omega (arith, within (p ++ rest) r)
    uncut (space_header_cut v h) one' =
        let e = eq-eqb (version (p ++ rest)) 0 (there v).1 in
        omega (arith, simp e at (within (p ++ rest) r), simp e at w)
    uncut (space_packet (t, i) h) one' =
        let a = alike.space_alike p (p ++ rest) agrees t in
        omega (arith, simp (eq-eqb (version (p ++ rest)) 0 a.there_too.0.1) at w, a.size_same)
    uncut (encap_header_cut v h) one' =
        let e = ne_eqb (version (p ++ rest)) 0 (λ z. omega (arith, (there v).1)) in
        let k = kept 0 v.0 in
        let same : encap_header (p ++ rest) ≡ encap_header p = cc in
        omega (arith, simp e at (within (p ++ rest) r), simp e at w, same)
    uncut (encap_packet ((((t, m), l), o), k) h) one' =
        let a = alike.encap_alike p (p ++ rest) agrees t.0 t.1 in
        omega (arith, simp (ne_eqb (version (p ++ rest)) 0 (λ z. omega (arith, a.there_too.0.1))) at w, a.size_same)
    uncut (no_version some x y) one' = omega arith
    uncut (idle t i) one' = omega arith
    uncut (names_nothing t m) one' = omega arith
    uncut (less_than_header t l) one' = omega arith
    uncut (over_limit t o) one' = omega arith
    uncut (no_content t k) one' = omega arith

    pub prefix : (reading (p ++ rest) ≡ reading p) × (content (p ++ rest) ≡ content p) × (content_at (p ++ rest) ≡ content_at p)
    prefix = after (λ e. uncut ((exactly p 1 (omega arith)).0 e) refl)
