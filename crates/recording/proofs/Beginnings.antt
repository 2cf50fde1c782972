-- A proper beginning of a packet is unfinished: octets after it are not looked at (`After`), so that it is neither a packet nor refused for anything but its end;
-- and where its header is whole it announces the packet's size (`Alike`).
use Prim.Native.Nat.{ℕ, ◌≤◌, ◌<◌}
use mathlib.Core.Path.{◌≡◌, refl, sym, ap, ◌∙◌}
use mathlib.Core.List.{List, ◌++◌}
use mathlib.Core.Bool.{true, false, ◌&&◌}
use native.Mathlib.Omega.{arith}
use borrow.Author.Tests.{eq-eqb, ne_eqb, eqb-true, eqb-false, ltb-false, leb-true, le-leb}
use lib.Dec.{eqb, ltb, leb}
use lib.ListN.{length, length-append, get_or-append}
use Rattle.octets.specs.Octets.{octet}
use Rattle.octets.specs.Output.{leading}
use Rattle.octets.proofs.Order.{either, both}
use Rattle.packet.specs.Space.{version}
use Rattle.reading.specs.Reading.{header, size, refusal}
use Rattle.reading.specs.Causes.{Cause, no_octets, no_version, space_header_cut, idle, space_packet, encap_header_cut, names_nothing, less_than_header, over_limit, no_content, encap_packet}
use Rattle.reading.proofs.Exactly.{exactly, exactly_whole}
use Rattle.reading.proofs.Within.{within, header_some, header_is}
use Rattle.reading.proofs.Alike as alike
use Rattle.reading.proofs.After.{after}
use Rattle.pieces.specs.Pieces.{longest, one_packet, unfinished}

-- exactly one packet, by its parts
pub record IsPacket (s : List ℕ) : Type 0 where
  pub read : refusal s ≡ 0
  pub all : size s ≡ length s
  pub short : length s ≤ longest
  pub some : 0 < length s

pub is_packet : (s : List ℕ) → one_packet s ≡ true → IsPacket s
unfolding one_packet
is_packet s e =
    let (a, c) = both (eqb (refusal s) 0 && eqb (size s) (length s)) (leb (length s) longest) e in
    let (r, z) = both (eqb (refusal s) 0) (eqb (size s) (length s)) a in
    let read = eqb-true (refusal s) 0 r in
    record {
      read = read;
      all = eqb-true (size s) (length s) z;
      short = leb-true (length s) longest c;
      some = omega (arith, within s read);
    }

-- a packet is not unfinished, and what is unfinished is no packet
pub packet_ends : (s : List ℕ) → refusal s ≡ 0 → unfinished s ≡ false
unfolding unfinished
packet_ends s r = simp (ne_eqb (refusal s) 1 (λ e. omega arith))

pub unread : (s : List ℕ) → refusal s ≡ 1 → one_packet s ≡ false
unfolding one_packet
unread s r = simp (ne_eqb (refusal s) 0 (λ e. omega arith))

header_there : (s : List ℕ) → 1 ≤ header s
unfolding header
header_there s = either (eqb (version s) 0) (λ v. simp v (omega arith)) (λ v. simp v (header_some (header_is s)))

-- a packet with anything after it is read as the packet
module _ (p rest : List ℕ) where
  agrees : alike.Agrees p (p ++ rest)
  agrees =
      let kept : (k : ℕ) → k < length p → octet (p ++ rest) k ≡ octet p k = λ k h. get_or-append p rest 0 k h in
      record { longer = simp length-append (omega arith); in_first = kept 0; in_space = λ v k h b. kept k h; in_encap = λ v k h b. kept k h }

  pub read_too : refusal p ≡ 0 → refusal (p ++ rest) ≡ 0
  unfolding refusal
  read_too e = ap leading (after p rest (λ u. omega arith)).0 ∙ e

  pub size_too : refusal p ≡ 0 → size (p ++ rest) ≡ size p
  size_too e = (alike.whole_alike p (p ++ rest) agrees ((exactly_whole p).0 e)).size_same

  -- p is a proper beginning of a packet
  module _ (s : IsPacket (p ++ rest)) (cut : 0 < length rest) where
    pub cut_short : refusal p ≡ 1
    unfolding refusal
    cut_short =
        either (eqb (refusal p) 1) (λ e. eqb-true _ _ e)
        (λ e. let r : refusal p ≡ 0 = sym (ap leading (after p rest (eqb-false _ _ e)).0) ∙ s.read in
        absurd (omega (arith, within p r, size_too r, s.all, length-append p rest)))

    same_size : {n : ℕ} → Cause p n → n ≡ 1 → header p ≤ length p → size (p ++ rest) ≡ size p
    unfolding header size
    same_size (no_octets e) o h = absurd (omega (arith, header_there p))
    same_size (space_header_cut v l) o h = absurd (omega (arith, simp (eq-eqb (version p) 0 v.1) at h))
    same_size (space_packet (t, i) l) o h =
        let a = alike.space_alike p (p ++ rest) agrees t in
        simp (eq-eqb (version p) 0 t.0.1, eq-eqb (version (p ++ rest)) 0 a.there_too.0.1) a.size_same
    same_size (encap_header_cut v l) o h = absurd (omega (arith, simp (ne_eqb (version p) 0 (λ z. omega (arith, v.1))) at h))
    same_size (encap_packet ((((t, m), l), f), k) c) o h =
        let a = alike.encap_alike p (p ++ rest) agrees t.0 t.1 in
        simp (ne_eqb (version p) 0 (λ z. omega (arith, t.0.1)), ne_eqb (version (p ++ rest)) 0 (λ z. omega (arith, a.there_too.0.1))) a.size_same
    same_size (no_version some x y) o h = absurd (omega arith)
    same_size (idle t i) o h = absurd (omega arith)
    same_size (names_nothing t m) o h = absurd (omega arith)
    same_size (less_than_header t l) o h = absurd (omega arith)
    same_size (over_limit t l) o h = absurd (omega arith)
    same_size (no_content t k) o h = absurd (omega arith)

    pub beginning : unfinished p ≡ true
    unfolding unfinished
    beginning =
        let one = eq-eqb (refusal p) 1 cut_short in
        either (ltb (length p) (header p)) (λ l. simp (one, l))
        (λ l. let z = same_size ((exactly p 1 (omega arith)).0 cut_short) refl (ltb-false (length p) (header p) l) in
        simp (one, l, le-leb (size p) longest (omega (arith, z, s.all, s.short))))
