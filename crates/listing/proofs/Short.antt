-- No line has more than 128 octets: a number of 64 bits has at most 20 digits, and a line has at most five numbers.
use Prim.Native.Nat.{ℕ, ◌^◌, ◌≤◌, ◌<◌}
use mathlib.Core.Path.{◌≡◌}
use mathlib.Core.List.{List, [], ◌∷◌, ◌++◌}
use native.Mathlib.Omega.{arith}
use lib.ListN.{length, drop, length-append, length-drop}
use Rattle.std.specs.Prelude.{Result, Ok, Err}
use Rattle.refusal.specs.Refusal.{number}
use Rattle.packet.specs.declared.Packet.{Packet}
use Rattle.packet.specs.declared.Packet.TheVariants.{Space, Encapsulation}
use Rattle.packet.specs.declared.Unread.{Unread}
use Rattle.reading.proofs.Exactly.{refusal_most}
use Rattle.reading.proofs.Answers.{Says, says, part_told}
use Rattle.walk.specs.Walk.{Finds}
use Rattle.walk.specs.declared.Found.{Found}
use Rattle.places.proofs.Honest.{place_within}
use Rattle.text.specs.Text.{ascii, decimal, numbers}
use Rattle.text.proofs.Cut.{Put, wrote}
use Rattle.text.proofs.Short.{Small, decimal_short, numbers_short}
use Rattle.listing.specs.Listing.{line_end, line, end_line}
use Rattle.listing.specs.Lines.{line_of, line_found}

line_short : (at : ℕ) (word ns : List ℕ) → at < 2 ^ 64 → Small ns → length word ≤ 8 → length ns ≤ 4 → length (line at word ns) ≤ 128
unfolding line line_end
line_short at word ns h small w n =
    omega (arith, decimal_short at h, numbers_short ns small, length-append (decimal at ++ word) (numbers ns ++ ascii "\n"), length-append (decimal at) word, length-append (numbers ns) (ascii "\n"))

pub end_short : (at n : ℕ) → at < 2 ^ 64 → n < 2 ^ 64 → length (end_line at n) ≤ 128
unfolding end_line line_end
end_short at n h k =
    omega (arith, numbers_short (at ∷ n ∷ []) (h, (k, tt)), length-append (numbers (at ∷ n ∷ [])) (ascii "\n"))

pub end_some : (at n : ℕ) → 0 < length (end_line at n)
unfolding end_line line_end
end_some at n = omega arith

-- the numbers that a reader tells are small, and so is the line of what it tells
module _ (at : ℕ) (s : List ℕ) (h : at < 2 ^ 64) (k : length s < 2 ^ 64) where
  packet_short : (p : Packet) → Says (Ok p) s → length (line_of at p) ≤ 128
  packet_short (Space t x a f c n) w =
      line_short at (ascii " space") (a ∷ f ∷ c ∷ n ∷ []) h
      (omega (arith, w.4), (omega (arith, w.5), (omega (arith, w.6), (omega (arith, (part_told (Ok (Space t x a f c n)) s w).1), tt)))) (omega arith) (omega arith)
  packet_short (Encapsulation p u x l n) w =
      line_short at (ascii " encap") (p ∷ x ∷ l ∷ n ∷ []) h
      (omega (arith, w.2), (omega (arith, w.4), (omega (arith, (part_told (Ok (Encapsulation p u x l n)) s w).1), (omega (arith, (part_told (Ok (Encapsulation p u x l n)) s w).1), tt)))) (omega arith) (omega arith)

  refusal_short : (u : Unread) → Says (Err u) s → length (line_found at (Err u)) ≤ 128
  refusal_short u w =
      line_short at (ascii " refused") (number u.refusal ∷ u.place ∷ []) h
      (omega (arith, w.0, refusal_most s), (omega (arith, w.2, place_within s), tt)) (omega arith) (omega arith)

  -- so is the line of what is found
  read_short : (r : Result Packet Unread) → Says r s → length (line_found at r) ≤ 128
  read_short (Ok p) w = packet_short p w
  read_short (Err u) w = refusal_short u w

pub found_short : (s : List ℕ) (at : ℕ) (found : Found) → Finds s at found → length s < 2 ^ 64 → at < 2 ^ 64 → length (line_found at found.read) ≤ 128
found_short s at found f k h = read_short at (drop at s) h (omega (arith, length-drop at s)) found.read (says found.read (drop at s) f.tells)

-- so each is put whole into an array of 128 octets
module _ (d : List ℕ) (e : length d ≡ 128) (at : ℕ) (h : at < 2 ^ 64) where
  pub found_told : (s : List ℕ) (found : Found) → Finds s at found → length s < 2 ^ 64 → {out : List ℕ} {to : ℕ} → Put d 0 (line_found at found.read) out to
      → to ≡ length (line_found at found.read)
  found_told s found f k p = omega (arith, (wrote d 0 (line_found at found.read) (omega (arith, e, found_short s at found f k h)) p).0)

  pub end_told : (n : ℕ) → n < 2 ^ 64 → {out : List ℕ} {to : ℕ} → Put d 0 (end_line at n) out to → to ≡ length (end_line at n)
  end_told n k p = omega (arith, (wrote d 0 (end_line at n) (omega (arith, e, end_short at n h k)) p).0)
