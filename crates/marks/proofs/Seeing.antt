-- What carries the test by the marks that are seen: a mark is seen from the lowest block that bears it on, and n places have a block each just where
-- n of them are seen.
use Prim.Native.Nat.{ℕ, zero, suc, ◌+◌, ◌-◌, ◌≤◌, ◌<◌, min}
use mathlib.Core.Path.{◌≡◌, sym, ◌∙◌}
use mathlib.Core.Bool.{cond, true}
use mathlib.Core.List.{List}
use native.Mathlib.Nat.{zero-add}
use native.Mathlib.Omega.{arith}
use borrow.Author.Tests.{le-leb, lt-leb, lt-ltb, le-ltb}
use lib.Dec.{leb, ltb, leb-suc-suc}
use lib.ListN.{length, get_or, set, replicate, get_or-replicate}
use lib.Seq.{get_or-set_same, get_or-set_other}
use Rattle.octets.specs.Octets.{one}
use Rattle.marks.specs.Blocks.{blocks, lanes, free, mark, find}
use Rattle.marks.specs.Seen.{Seen, Flags, seen_from}
use Rattle.marks.specs.Matching.{found, holds}
use Rattle.marks.proofs.Finding.{by_case, by_order, bears, found_by}
use Rattle.marks.proofs.Looking.{one_at_most}

module _ (a b : ℕ) where
  below : a < b → one (ltb a b) ≡ 1
  unfolding one
  below h = rw (lt-ltb a b h)

  not_below : b ≤ a → one (ltb a b) ≡ 0
  unfolding one
  not_below h = rw (le-ltb a b h)

-- ---- the table: one block after the other
pub seen_begins : (marks : List ℕ) (n : ℕ) → free ≤ n → Seen 0 (replicate n 0) marks
seen_begins marks n h m small = get_or-replicate {A = ℕ} n m 0 0 (omega arith) ∙ sym (not_below (find marks m) 0 (omega arith))

module _ (marks seen : List ℕ) (block entry : ℕ) (in-pool : block < length marks) (room : entry < length seen) (e : entry ≡ min (get_or marks block 0) free) where
  -- another mark is on one of the blocks so far just where it was on one before
  others : (m : ℕ) → (m ≡ get_or marks block 0 → ⊥) → one (ltb (find marks m) block) ≡ one (ltb (find marks m) (block + 1))
  others m other =
      by_order (find marks m) block
      (λ h. below (find marks m) block h ∙ sym (below (find marks m) (block + 1) (omega arith)))
      (λ h. by_case (find marks m) block
      (λ here. absurd (other (sym (rw here at (bears marks m (omega arith))))))
      (λ past. not_below (find marks m) block h ∙ sym (not_below (find marks m) (block + 1) (omega arith))))

  pub seen_turn : Seen block seen marks → Seen (block + 1) (set seen entry 1) marks
  seen_turn before m small =
      by_case m (get_or marks block 0)
      (λ here.
      let at : m ≡ entry = omega arith in
      rw at (get_or-set_same seen entry 1 0 room) ∙ sym (below (find marks m) (block + 1) (rw here (omega (arith, found_by marks block in-pool)))))
      (λ other. get_or-set_other seen entry m 1 0 (λ z. other (omega arith)) ∙ before m small ∙ others m other)

pub seen_flags : (n : ℕ) (seen marks : List ℕ) → Seen n seen marks → Flags seen
seen_flags n seen marks is m small = omega (arith, is m small, one_at_most (ltb (find marks m) n))

-- ---- the count: one place after the other, of which those from n on add nothing
module _ (seen : List ℕ) (lane n place p v : ℕ) (here : p ≡ place) (e : v ≡ cond (ltb p n) (get_or seen (mark lane place) 0) 0) where
  pub place_turn : seen_from seen (mark lane place) (n - place) ≡ v + seen_from seen (mark lane (place + 1)) (n - (place + 1))
  unfolding seen_from
  place_turn =
      by_order place n
      (λ h.
      let left : n - place ≡ suc (n - (place + 1)) = omega arith in
      let next : mark lane place + 1 ≡ mark lane (place + 1) = omega arith in
      rw (left, next, e, here, lt-ltb place n h))
      (λ h.
      let none : n - place ≡ 0 = omega arith in
      let none-next : n - (place + 1) ≡ 0 = omega arith in
      rw (none, none-next, e, here, le-ltb place n h))

  pub adds_at_most : Flags seen → mark lane place < free → v ≤ 1
  adds_at_most flags small =
      by_order place n (λ h. rw (e, here, lt-ltb place n h) (flags (mark lane place) small)) (λ h. rw (e, here, le-ltb place n h) (omega arith))

pub places_end : (seen : List ℕ) (m n : ℕ) → n ≡ 0 → seen_from seen m n ≡ 0
unfolding seen_from
places_end seen m n none = rw none

-- ---- what the count tells
at_most_all : (seen : List ℕ) (m n : ℕ) → Flags seen → m + n ≤ free → seen_from seen m n ≤ n
unfolding seen_from
at_most_all seen m zero flags fits = omega arith
at_most_all seen m (suc n) flags fits = omega (arith, flags m (omega arith), at_most_all seen (m + 1) n flags (omega arith))

module _ (marks seen : List ℕ) (is : Seen blocks seen marks) where
  all_found : (m n : ℕ) → m + n ≤ free → leb n (seen_from seen m n) ≡ found marks m n
  unfolding seen_from found
  all_found m zero fits = le-leb 0 0 (omega arith)
  all_found m (suc n) fits =
      let rest : ℕ = seen_from seen (m + 1) n in
      by_order (find marks m) blocks
      (λ h.
      let more : 1 + rest ≡ suc rest = omega arith in
      rw (is m (omega arith), below (find marks m) blocks h, lt-ltb (find marks m) blocks h, more, leb-suc-suc n rest) (all_found (m + 1) n (omega arith)))
      (λ h.
      rw (is m (omega arith), not_below (find marks m) blocks h, le-ltb (find marks m) blocks h, zero-add rest)
      (lt-leb (suc n) rest (omega (arith, at_most_all seen (m + 1) n (seen_flags blocks seen marks is) (omega arith)))))

  pub lane_decides : (lane n : ℕ) → lane < lanes → n ≤ blocks → leb n (seen_from seen (mark lane 0) n) ≡ holds marks lane n
  unfolding holds
  lane_decides lane n small few = rw (le-leb n blocks few) (all_found (mark lane 0) n (omega arith))

pub none_asked : (marks : List ℕ) (lane n : ℕ) → n ≡ 0 → holds marks lane n ≡ true
unfolding holds found
none_asked marks lane n none = rw none
