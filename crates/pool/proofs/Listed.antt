-- What carries the table of a lane's blocks that is made in one pass: from the highest block down, each turn writes what a search from there on
-- would find.
use Prim.Native.Nat.{ℕ, ◌+◌, ◌-◌, ◌/◌, ◌%◌, ◌≤◌, ◌<◌}
use mathlib.Core.Path.{◌≡◌, sym, ◌∙◌}
use mathlib.Core.List.{List}
use native.Mathlib.Nat.{zero-add}
use native.Mathlib.Omega.{arith}
use lib.ListN.{length, get_or, set, drop, replicate, get_or-replicate}
use lib.Seq.{get_or-set_same, get_or-set_other}
use Rattle.marks.specs.Blocks.{blocks, mark, find}
use Rattle.marks.proofs.Finding.{by_case, is_here, is_later, is_nowhere}
use Rattle.pool.specs.Lookup.{ListsLane}

-- ---- a table of a lane's places: the blocks from `block` on are in it
abbrev pub ListsFrom : ℕ → ℕ → List ℕ → List ℕ → Type 0
ListsFrom lane block table marks = (q : ℕ) → q < blocks → get_or table q 0 ≡ block + find (drop block marks) (mark lane q)

module _ (lane : ℕ) (marks : List ℕ) where
  pub table_begins : length marks ≡ blocks → ListsFrom lane blocks (replicate blocks blocks) marks
  table_begins e q h = get_or-replicate {A = ℕ} blocks q blocks 0 h ∙ omega (arith, is_nowhere marks blocks (mark lane q) (omega arith))

  pub table_ends : (table : List ℕ) (block : ℕ) → block ≡ 0 → ListsFrom lane block table marks → ListsLane lane 0 blocks table marks
  table_ends table block none lists q low high = rw none at (lists q high) ∙ zero-add (find marks (mark lane q))

  module _ (table : List ℕ) (block m : ℕ) (some : 0 < block) (in-pool : block ≤ length marks) (e : m ≡ get_or marks (block - 1) 0)
      (lists : ListsFrom lane block table marks) where
    -- what a turn leaves of every other mark
    others : (q : ℕ) → q < blocks → (mark lane q ≡ m → ⊥) → get_or table q 0 ≡ block - 1 + find (drop (block - 1) marks) (mark lane q)
    others q h d =
        let next : block - 1 + 1 ≡ block = omega arith in
        let later : find (drop (block - 1) marks) (mark lane q) ≡ find (drop block marks) (mark lane q) + 1 =
        rw next at (is_later marks (block - 1) (mark lane q) (omega arith) (λ z. d (sym z ∙ sym e))) in
        omega (arith, lists q h)

    pub table_turn : length table ≡ blocks → m / blocks ≡ lane → ListsFrom lane (block - 1) (set table (m % blocks) (block - 1)) marks
    table_turn size own q h =
        by_case q (m % blocks)
        (λ z.
        let here : mark lane (m % blocks) ≡ m = omega arith in
        rw (z, here) (get_or-set_same table (m % blocks) (block - 1) 0 (omega arith) ∙ omega (arith, is_here marks (block - 1) m (omega arith) (sym e))))
        (λ d. get_or-set_other table (m % blocks) q (block - 1) 0 d ∙ others q h (λ z. d (omega arith)))

    pub table_keeps : (m / blocks ≡ lane → ⊥) → ListsFrom lane (block - 1) table marks
    table_keeps other q h = others q h (λ z. other (omega arith))
