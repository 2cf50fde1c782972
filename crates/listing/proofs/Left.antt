-- What is left to list where a loop stands; each turn takes one line off its front. What carries both loops of the lister.
use Prim.Native.Nat.{ℕ, ◌+◌, ◌-◌, ◌≤◌, ◌<◌}
use mathlib.Core.Path.{◌≡◌, refl, sym, ap, ◌∙◌}
use mathlib.Core.List.{List, ◌++◌, append_assoc}
use native.Mathlib.Nat.{sub-zero}
use native.Mathlib.Omega.{arith}
use borrow.Author.Tests.{eq-eqb, ne_eqb}
use lib.ListN.{length, drop}
use Rattle.std.specs.Prelude.{Result, Ok, Err}
use Rattle.refusal.specs.Refusal.{number}
use Rattle.refusal.proofs.Named.{some}
use Rattle.packet.specs.Space.{version}
use Rattle.packet.specs.Told.{told}
use Rattle.packet.specs.declared.Packet.{Packet}
use Rattle.packet.specs.declared.Packet.TheVariants.{Space, Encapsulation}
use Rattle.packet.specs.declared.Unread.{Unread}
use Rattle.reading.proofs.Answers.{Says, says}
use Rattle.walk.specs.Walk.{Finds, places_from, places, end, stop, stop_place}
use Rattle.walk.specs.declared.Found.{Found}
use Rattle.walk.proofs.Looked.{found_read, found_refused}
use Rattle.walk.proofs.Going.{Going, Turn, turned, at_end, at_refusal}
use Rattle.listing.specs.Listing.{packet_line, packet_lines, refused_line, end_line, listing}
use Rattle.listing.specs.Lines.{line_of, line_found}

-- the lines from index at on, with n packets behind it
abbrev pub left : List ℕ → ℕ → ℕ → List ℕ
left s at n = packet_lines s (places_from (length s - n) s at) ++ refused_line (end s) (stop s) (stop_place s) ++ end_line (end s) (length (places s))

pub left_all : (s : List ℕ) → left s 0 0 ≡ listing s
unfolding listing places
left_all s = rw sub-zero

-- the line of a packet that was read is the definition's
read_line : (at : ℕ) (p : Packet) (s : List ℕ) → Says (Ok p) s → line_of at p ≡ packet_line at s
unfolding packet_line
read_line at (Space t x a f c n) s w = simp (eq-eqb (version s) 0 w.1, w.4, w.5, w.6, w.7)
read_line at (Encapsulation p u x h n) s w = simp (ne_eqb (version s) 0 w.1, w.2, w.4, w.5, w.6)

module _ (s : List ℕ) (at n : ℕ) (g : Going s at n) where
  -- at the end only the last line is left
  pub left_end : length s ≤ at → left s at n ≡ end_line at n
  unfolding packet_lines refused_line
  left_end h = let e = at_end s at n g h in simp (e.no_more, e.stop_here, e.end_here, e.all_counted)

  -- what is found at index at: a packet, or a refusal
  module _ (found : Found) (f : Finds s at found) where
    pub left_more : (p : Packet) → found.read ≡ Ok p → Turn s at n found.next × (left s at n ≡ line_found at found.read ++ left s found.next (n + 1))
    unfolding packet_lines
    left_more p is =
        let w = found_read s at found f p is in
        let t = turned s at n g w.0 w.1 in
        (t, rw is (simp (t.place, ← (read_line at p (drop at s) (says (Ok p) (drop at s) (ap told (sym is) ∙ f.tells))), append_assoc)))

    pub left_refused : at < length s → (u : Unread) → found.read ≡ Err u → left s at n ≡ line_found at found.read ++ end_line at n
    unfolding packet_lines refused_line
    left_refused here u is =
        let w = found_refused s at found f u is in
        let t = at_refusal s at n g w.2 here w.0 w.1 in
        rw is (simp (t.no_more, t.stop_here, t.place_here, t.end_here, t.all_counted, ne_eqb (number u.refusal) 0 (λ z. omega (arith, some u.refusal, z))))

    -- whatever is found, its line comes first
    pub left_begins : at < length s → (rest : List ℕ) × (left s at n ≡ line_found at found.read ++ rest)
    left_begins here = by_read found.read refl
      where
        by_read : (r : Result Packet Unread) → found.read ≡ r → (rest : List ℕ) × (left s at n ≡ line_found at found.read ++ rest)
        by_read (Ok p) is = (_, (left_more p is).1)
        by_read (Err u) is = (_, left_refused here u is)
