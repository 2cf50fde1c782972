-- Granting gives the lowest-numbered free blocks their marks in rising order and leaves every other block. What carries it: a front block that is
-- taken is passed, and a free one gets the first mark; so granting follows the list.
use Prim.Native.Nat.{ℕ, zero, suc, ◌+◌, ◌≤◌, ◌<◌}
use mathlib.Core.Path.{◌≡◌, refl}
use mathlib.Core.Logic.{◌⊎◌, inl, inr, ⊎_elim}
use mathlib.Core.List.{List, [], ◌∷◌}
use native.Mathlib.Omega.{arith}
use lib.ListN.{length, get_or, set, take}
use Rattle.marks.specs.Blocks.{free, find, granted}
use Rattle.marks.specs.Matching.{count, is_free}
use Rattle.marks.proofs.Finding.{by_case, at_front, past_front}
use Rattle.marks.proofs.Counts.{counts_one, counts_none}

-- ---- the front block
front_passed : (o : ℕ) (os : List ℕ) (m n : ℕ) → (o ≡ free → ⊥) → granted (o ∷ os) m n ≡ o ∷ granted os m n
unfolding granted
front_passed o os m zero d = refl
front_passed o os m (suc n) d = rw (past_front o os free d) (front_passed o (set os (find os free) m) (m + 1) n d)

front_given : (o : ℕ) (os : List ℕ) (m n : ℕ) → o ≡ free → m < free → granted (o ∷ os) m (suc n) ≡ m ∷ granted os (m + 1) n
unfolding granted
front_given o os m n e h = rw (at_front o os free e) (front_passed m os (m + 1) n (λ z. omega arith))

-- ---- a free block with fewer than n free ones below it gets the mark that is due after theirs
pub lowest_given : (marks : List ℕ) (m n b : ℕ) → m + n ≤ free → b < length marks → get_or marks b 0 ≡ free → count is_free (take b marks) < n
    → get_or (granted marks m n) b 0 ≡ m + count is_free (take b marks)
unfolding count
lowest_given [] m n b fits h e few = absurd (omega arith)
lowest_given (o ∷ os) m zero b fits h e few = absurd (omega arith)
lowest_given (o ∷ os) m (suc n) zero fits h e few = rw (front_given o os m n e (omega arith)) (omega arith)
lowest_given (o ∷ os) m (suc n) (suc b) fits h e few =
    by_case o free
    (λ z.
    let one = counts_one o free z in
    rw (front_given o os m n z (omega arith)) (omega (arith, one, lowest_given os (m + 1) n b (omega arith) (omega arith) e (omega (arith, one)))))
    (λ d.
    let none = counts_none o free d in
    rw (front_passed o os m (suc n) d) (omega (arith, none, lowest_given os m (suc n) b fits (omega arith) e (omega (arith, none)))))

-- every other block keeps its mark
pub others_keep : (marks : List ℕ) (m n b : ℕ) → m + n ≤ free → b < length marks → (get_or marks b 0 ≡ free → ⊥) ⊎ (n ≤ count is_free (take b marks))
    → get_or (granted marks m n) b 0 ≡ get_or marks b 0
unfolding granted count
others_keep [] m n b fits h w = absurd (omega arith)
others_keep (o ∷ os) m zero b fits h w = refl
others_keep (o ∷ os) m (suc n) zero fits h w =
    by_case o free (λ e. ⊎_elim (λ d. absurd (d e)) (λ l. absurd (omega arith)) w) (λ d. rw (front_passed o os m (suc n) d))
others_keep (o ∷ os) m (suc n) (suc b) fits h w =
    by_case o free
    (λ e.
    rw (front_given o os m n e (omega arith))
    (others_keep os (m + 1) n b (omega arith) (omega arith) (⊎_elim inl (λ l. inr (omega (arith, counts_one o free e))) w)))
    (λ d.
    rw (front_passed o os m (suc n) d)
    (others_keep os m (suc n) b fits (omega arith) (⊎_elim inl (λ l. inr (omega (arith, counts_none o free d))) w)))
