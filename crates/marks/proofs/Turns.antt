-- What carries the loops over the marks: what one turn does is one clause of the definition, and the rest is left to the turns after it.
use Prim.Native.Nat.{ℕ, zero, suc, ◌+◌, ◌-◌, ◌≤◌, ◌<◌}
use mathlib.Core.Path.{◌≡◌, refl, ◌∙◌}
use mathlib.Core.List.{List}
use native.Mathlib.Numerals.{sub-one}
use native.Mathlib.Omega.{arith}
use lib.ListN.{length, set, drop}
use lib.Seq.{set_out}
use Rattle.marks.specs.Blocks.{free, find, granted}
use Rattle.marks.proofs.Finding.{from_there, not_before}

-- ---- granting
one_more : (marks : List ℕ) (m left : ℕ) → 0 < left → granted marks m left ≡ granted (set marks (find marks free) m) (m + 1) (left - 1)
unfolding granted
one_more marks m zero h = absurd (omega arith)
one_more marks m (suc n) h = rw sub-one

-- no block is free
all_taken : (marks : List ℕ) (m n : ℕ) → length marks ≤ find marks free → granted marks m n ≡ marks
unfolding granted
all_taken marks m zero h = refl
all_taken marks m (suc n) h = rw (set_out marks (find marks free) m h) (all_taken marks (m + 1) n h)

-- a turn's search starts at `block`, before which nothing is free
module _ (marks : List ℕ) (m left block found : ℕ) (skipped : block ≤ find marks free) (e : found ≡ block + find (drop block marks) free) where
  first_free : found ≡ find marks free
  first_free = e ∙ from_there marks block free skipped

  pub none_before : found ≤ find (set marks found m) free
  none_before = rw first_free (not_before marks free m)

  pub grant_turn : 0 < left → granted marks m left ≡ granted (set marks found m) (m + 1) (left - 1)
  grant_turn h = one_more marks m left h ∙ rw first_free

  pub none_free : length marks ≤ found → granted marks m left ≡ marks
  none_free h = all_taken marks m left (omega (arith, first_free))

pub grant_ends : (marks : List ℕ) (m left : ℕ) → left ≤ 0 → granted marks m left ≡ marks
unfolding granted
grant_ends marks m zero h = refl
grant_ends marks m (suc n) h = absurd (omega arith)
