-- No text for a recording is longer than 1,310,758 octets: within 65,536 octets each packet has at most 20 octets of text for each octet of
-- its own, and the last two lines have 22 and 16.
use Prim.Native.Nat.{ℕ, suc, ◌+◌, ◌*◌, ◌-◌, ◌^◌, ◌≤◌, ◌<◌}
use mathlib.Core.Path.{◌≡◌, refl}
use mathlib.Core.List.{List, [], ◌∷◌}
use mathlib.Core.Bool.{Bool, true, false, cond}
use native.Mathlib.Omega.{arith}
use borrow.Author.Tests.{eq-eqb, ne_eqb, leb-true}
use lib.Dec.{eqb, leb}
use lib.ListN.{length, drop, length-append, length-drop}
use Rattle.octets.proofs.Order.{either}
use Rattle.packet.specs.Space.{version, apid, flags, count, data_octets}
use Rattle.packet.specs.Encapsulation.{protocol, extension, encap_header, encap_size}
use Rattle.reading.specs.Reading.{refusal, place as place_in, size}
use Rattle.reading.specs.Causes.{Whole, space, encapsulation}
use Rattle.reading.proofs.Exactly.{exactly_whole, refusal_most}
use Rattle.places.proofs.Honest.{place_within}
use Rattle.reading.proofs.Within.{HeaderIs, one, two, four, eight, header_is}
use Rattle.walk.specs.Walk.{next, places, end, stop, stop_place}
use Rattle.walk.proofs.Rises.{Run, rises}
use Rattle.text.specs.Text.{ascii, numbers}
use Rattle.listing.specs.Listing.{line_end, line, packet_line, packet_lines, refused_line, end_line, listing, longest, recording_text}
use Rattle.text.proofs.Short.{digits_below, number_below}

abbrev pub most_listed : ℕ
most_listed = 1310758

-- a line with four numbers, by their digits
line_of_four : (at : ℕ) (word : List ℕ) (a b c d : ℕ) (i j k l : ℕ) → at < 10 ^ 5 → length word ≡ 6
    → a < 10 ^ suc i → b < 10 ^ suc j → c < 10 ^ suc k → d < 10 ^ suc l
    → length (line at word (a ∷ b ∷ c ∷ d ∷ [])) ≤ 20 + (i + j + k + l)
unfolding line line_end numbers
line_of_four at word a b c d i j k l h w p q r s =
    simp length-append
    (omega (arith, w, digits_below 4 at h, number_below i a p, number_below j b q, number_below k c r, number_below l d s))

-- 20 octets of text for each octet of a packet: just so for an Encapsulation Packet of one octet, whose fields are digits
abbrev Roomy : ℕ → List ℕ → Type 0
Roomy at s = length (line at (ascii " encap") (protocol s ∷ extension s ∷ encap_header s ∷ (encap_size s - encap_header s) ∷ [])) ≤ 20 * encap_size s

module _ (at : ℕ) (s : List ℕ) (h : at < 10 ^ 5) (n : length s ≤ longest) where
  encap_longer : 2 ≤ encap_header s → encap_header s < 10 → encap_header s ≤ encap_size s → encap_size s ≤ length s → Roomy at s
  encap_longer two≤ small l w =
      omega (arith, line_of_four at (ascii " encap") (protocol s) (extension s) (encap_header s) (encap_size s - encap_header s) 0 1 0 4 h refl (omega arith) (omega arith) small (omega arith))

  encap_room : HeaderIs (encap_header s) → encap_header s ≤ encap_size s → encap_size s ≤ length s → Roomy at s
  encap_room (one e) l w =
      let z : encap_size s ≡ 1 = simp e in
      let x : extension s ≡ 0 = simp e in
      omega (arith, z, line_of_four at (ascii " encap") (protocol s) (extension s) (encap_header s) (encap_size s - encap_header s) 0 0 0 0 h refl (omega arith) (omega (arith, x)) (omega arith) (omega (arith, z)))
  encap_room (two e) l w = encap_longer (omega arith) (omega arith) l w
  encap_room (four e) l w = encap_longer (omega arith) (omega arith) l w
  encap_room (eight e) l w = encap_longer (omega arith) (omega arith) l w

  packet_room : Whole s → length (packet_line at s) ≤ 20 * size s
  unfolding packet_line size
  packet_room (space (t, i) w) =
      simp (eq-eqb (version s) 0 t.0.1)
      (omega (arith, line_of_four at (ascii " space") (apid s) (flags s) (count s) (data_octets s) 3 0 4 4 h refl (omega arith) (omega arith) (omega arith) (omega arith)))
  packet_room (encapsulation ((((t, m), l), o), e) w) =
      simp (ne_eqb (version s) 0 (λ z. omega (arith, t.0.1))) (encap_room (header_is s) l w)

-- so the lines of a run have 20 for each of its octets, and there are no more packets than octets
run_room : (s ps : List ℕ) (at e : ℕ) → length s ≤ longest → e ≤ length s → Run s at ps e
    → (length (packet_lines s ps) + 20 * at ≤ 20 * e) × (length ps + at ≤ e)
unfolding packet_lines
run_room s [] at e n h r = (omega (arith, r), omega (arith, r))
run_room s (p ∷ ps) at e n h (same, read, rise, run) =
    let more = run_room s ps (next s at) e n h run in
    let one = packet_room at (drop at s) (omega (arith, rise, more.1)) (omega (arith, length-drop at s)) ((exactly_whole (drop at s)).0 read) in
    rw same (omega (arith, more, one, length-append (packet_line at (drop at s)) (packet_lines s ps)), omega (arith, rise, more.1))

refused_room : (at k q : ℕ) → at < 10 ^ 5 → k < 10 → q < 10 ^ 5 → (b : Bool) → length (cond b [] (line at (ascii " refused") (k ∷ q ∷ []))) ≤ 22
unfolding line line_end numbers
refused_room at k q h s p true = omega arith
refused_room at k q h s p false = simp length-append (omega (arith, digits_below 4 at h, number_below 0 k s, number_below 4 q p))

end_room : (at n : ℕ) → at < 10 ^ 5 → n < 10 ^ 5 → length (end_line at n) ≤ 16
unfolding end_line line_end numbers
end_room at n h k = simp length-append (omega (arith, number_below 4 at h, number_below 4 n k))

stop_small : (s : List ℕ) (b : Bool) → cond b 0 (refusal (drop (end s) s)) ≤ 7
stop_small s true = omega arith
stop_small s false = refusal_most (drop (end s) s)

place_small : (s : List ℕ) (b : Bool) → cond b 0 (place_in (drop (end s) s)) ≤ length s
place_small s true = omega arith
place_small s false = omega (arith, place_within (drop (end s) s), length-drop (end s) s)

pub listing_room : (s : List ℕ) → length s ≤ longest → length (listing s) ≤ most_listed
unfolding listing refused_line stop stop_place
listing_room s n =
    let r = rises s in
    let l = run_room s (places s) 0 (end s) n r.1 r.0 in
    let k = stop_small s (eqb (end s) (length s)) in
    let q = place_small s (eqb (end s) (length s)) in
    simp length-append
    (omega (arith, l, r.1, refused_room (end s) (stop s) (stop_place s) (omega (arith, r.1)) (omega (arith, k)) (omega (arith, q)) (eqb (stop s) 0), end_room (end s) (length (places s)) (omega (arith, r.1)) (omega (arith, l, r.1))))

pub room : (s : List ℕ) → length (recording_text s) ≤ most_listed
unfolding recording_text
room s = either (leb (length s) longest) (λ t. simp t (listing_room s (leb-true _ _ t))) (λ f. simp f (omega arith))
