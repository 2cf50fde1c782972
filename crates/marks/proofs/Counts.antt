-- How many blocks are free and how many each lane has, before and after a lane's blocks are freed and after it gets more.
use Prim.Native.Nat.{ℕ, zero, suc, ◌+◌, ◌-◌, ◌*◌, ◌/◌, ◌≤◌, ◌<◌}
use mathlib.Core.Path.{◌≡◌, refl, ◌∙◌}
use mathlib.Core.Bool.{Bool}
use mathlib.Core.Logic.{inl}
use mathlib.Core.List.{List, [], ◌∷◌}
use native.Mathlib.Nat.{add-zero}
use native.Mathlib.Omega.{arith}
use borrow.Author.Tests.{eq-eqb, ne_eqb}
use lib.Dec.{eqb}
use lib.ListN.{length, get_or, set, length-set}
use Rattle.marks.specs.Blocks.{blocks, lanes, free, find, granted, freed}
use Rattle.octets.specs.Octets.{one}
use Rattle.marks.specs.Matching.{count, is_free}
use Rattle.marks.proofs.Finding.{by_case, at_front, past_front, bears}
use Rattle.marks.proofs.Leaving.{freed_own, freed_other, find_granted}

-- a mark of lane i
abbrev pub is_of : ℕ → ℕ → Bool
is_of i o = eqb (o / blocks) i

pub counts_one : (a b : ℕ) → a ≡ b → one (eqb a b) ≡ 1
unfolding one
counts_one a b e = simp (eq-eqb a b e)

pub counts_none : (a b : ℕ) → (a ≡ b → ⊥) → one (eqb a b) ≡ 0
unfolding one
counts_none a b d = simp (ne_eqb a b d)

-- ---- freeing lane i
-- a block of the lane is free then
pub freed_is_free : (i : ℕ) (marks : List ℕ) (b : ℕ) → b < length marks → get_or marks b 0 / blocks ≡ i → get_or (freed marks i) b 0 ≡ free
freed_is_free i [] b h e = absurd (omega arith)
freed_is_free i (o ∷ os) zero h e = freed_own i o e
freed_is_free i (o ∷ os) (suc b) h e = freed_is_free i os b (omega arith) e

pub freed_count : (i : ℕ) (marks : List ℕ) → i < lanes → count is_free (freed marks i) ≡ count is_free marks + count (is_of i) marks
unfolding count
freed_count i [] h = refl
freed_count i (o ∷ os) h =
    let rest = freed_count i os h in
    by_case (o / blocks) i
    (λ e. rw (freed_own i o e) (omega (arith, counts_one (o / blocks) i e, counts_none o free (λ z. omega arith), counts_one free free refl)))
    (λ d. rw (freed_other i o d) (omega (arith, counts_none (o / blocks) i d)))

pub freed_count_own : (i : ℕ) (marks : List ℕ) → i < lanes → count (is_of i) (freed marks i) ≡ 0
unfolding count
freed_count_own i [] h = refl
freed_count_own i (o ∷ os) h =
    let rest = freed_count_own i os h in
    by_case (o / blocks) i
    (λ e. rw (freed_own i o e) (omega (arith, counts_none (free / blocks) i (λ z. omega arith))))
    (λ d. rw (freed_other i o d) (omega (arith, counts_none (o / blocks) i d)))

pub freed_count_other : (i j : ℕ) (marks : List ℕ) → j < lanes → (i ≡ j → ⊥) → count (is_of j) (freed marks i) ≡ count (is_of j) marks
unfolding count
freed_count_other i j [] h other = refl
freed_count_other i j (o ∷ os) h other =
    let rest = freed_count_other i j os h other in
    by_case (o / blocks) i
    (λ e. rw (freed_own i o e) (omega (arith, counts_none (free / blocks) j (λ z. omega arith), counts_none (o / blocks) j (λ z. other (omega arith)))))
    (λ d. rw (freed_other i o d) (omega arith))

-- ---- one block gets another mark
pub count_set : (p : ℕ → Bool) (marks : List ℕ) (b v : ℕ) → b < length marks → count p (set marks b v) + one (p (get_or marks b 0)) ≡ count p marks + one (p v)
unfolding count
count_set p [] b v h = absurd (omega arith)
count_set p (o ∷ os) zero v h = omega arith
count_set p (o ∷ os) (suc b) v h = omega (arith, count_set p os b v (omega arith))

-- a mark that is counted is found
pub counted_found : (marks : List ℕ) (m : ℕ) → 0 < count (λ o. eqb o m) marks → find marks m < length marks
unfolding count
counted_found [] m h = absurd (omega arith)
counted_found (o ∷ os) m h =
    by_case o m
    (λ e. omega (arith, at_front o os m e))
    (λ d. omega (arith, past_front o os m d, counted_found os m (omega (arith, counts_none o m d))))

-- where a block is free, one is found
pub free_found : (marks : List ℕ) → 0 < count is_free marks → find marks free < length marks
free_found marks = counted_found marks free

-- ---- a free block gets the mark v
module _ (marks : List ℕ) (v : ℕ) (some : 0 < count is_free marks) where
  was_free : get_or marks (find marks free) 0 ≡ free
  was_free = bears marks free (free_found marks some)

  given : (p : ℕ → Bool) → count p (set marks (find marks free) v) + one (p free) ≡ count p marks + one (p v)
  given p = rw was_free at (count_set p marks (find marks free) v (free_found marks some))

  given_free : v < free → count is_free (set marks (find marks free) v) + 1 ≡ count is_free marks
  given_free h = omega (arith, given is_free, counts_one free free refl, counts_none v free (λ z. omega arith))

  given_own : (i : ℕ) → i < lanes → v / blocks ≡ i → count (is_of i) (set marks (find marks free) v) ≡ count (is_of i) marks + 1
  given_own i h e = omega (arith, given (is_of i), counts_none (free / blocks) i (λ z. omega arith), counts_one (v / blocks) i e)

  given_other : (j : ℕ) → j < lanes → (v / blocks ≡ j → ⊥) → count (is_of j) (set marks (find marks free) v) ≡ count (is_of j) marks
  given_other j h d = omega (arith, given (is_of j), counts_none (free / blocks) j (λ z. omega arith), counts_none (v / blocks) j d)

-- the mark that was set is found
find_set : (marks : List ℕ) (b v : ℕ) → b < length marks → find (set marks b v) v < length marks
find_set [] b v h = absurd (omega arith)
find_set (o ∷ os) zero v h = omega (arith, at_front v os v refl)
find_set (o ∷ os) (suc b) v h =
    by_case o v (λ e. omega (arith, at_front o (set os b v) v e)) (λ d. omega (arith, past_front o (set os b v) v d, find_set os b v (omega arith)))

-- ---- granting n blocks to lane i, as its marks v, v + 1, ..
pub record Granted (i v n : ℕ) (marks : List ℕ) : Type 0 where
  pub free_ones : count is_free (granted marks v n) + n ≡ count is_free marks
  pub own : count (is_of i) (granted marks v n) ≡ count (is_of i) marks + n
  pub others : (j : ℕ) → j < lanes → (i ≡ j → ⊥) → count (is_of j) (granted marks v n) ≡ count (is_of j) marks
  pub places : (q : ℕ) → q < n → find (granted marks v n) (v + q) < length marks

pub granted_counts : (i v n : ℕ) (marks : List ℕ) → i < lanes → n ≤ count is_free marks → i * blocks ≤ v → v + n ≤ i * blocks + blocks → Granted i v n marks
unfolding granted
granted_counts i v zero marks small h a b =
    record { free_ones = omega arith; own = omega arith; others = λ j hj d. refl; places = λ q hq. absurd (omega arith) }
granted_counts i v (suc n) marks small h a b =
    let some : 0 < count is_free marks = omega arith in
    let next : List ℕ = set marks (find marks free) v in
    let less : count is_free next + 1 ≡ count is_free marks = given_free marks v some (omega arith) in
    let size : length next ≡ length marks = length-set marks (find marks free) v in
    let rest : Granted i (v + 1) n next = granted_counts i (v + 1) n next small (omega arith) (omega arith) (omega arith) in
    record {
      free_ones = omega (arith, rest.free_ones);
      own = omega (arith, rest.own, given_own marks v some i small (omega arith));
      others = λ j hj d. rest.others j hj d ∙ given_other marks v some j hj (λ z. d (omega arith));
      places = λ q hq. by_case q 0
          (λ e. rw e (rw (add-zero v, find_granted next (v + 1) n v (inl (omega arith)) (λ z. omega arith)) (find_set marks (find marks free) v (free_found marks some))))
          (λ d. let e : v + q ≡ v + 1 + (q - 1) = omega arith in rw (e, ← size) (rest.places (q - 1) (omega arith)));
    }
