-- What carries every search: a front block either has the mark or is passed, and what is passed never matters again.
use Prim.Native.Nat.{ℕ, zero, suc, ◌+◌, ◌-◌, ◌≤◌, ◌<◌, min}
use mathlib.Core.Path.{◌≡◌, refl, sym, ap, ◌∙◌}
use mathlib.Core.List.{List, [], ◌∷◌}
use native.Mathlib.Decide.{ℕ_discrete, dec_lt}
use native.Mathlib.Numerals.{add-one}
use native.Mathlib.Omega.{arith}
use borrow.Author.Tests.{eq-eqb, ne_eqb}
use lib.ListN.{length, get_or, set, take, drop, drop_of_length-le, length-drop}
use lib.Seq.{drop-cons, take_all}
use Rattle.marks.specs.Blocks.{find}

-- two numbers are the same or differ
pub by_case : {A : Type 0} (a b : ℕ) → (a ≡ b → A) → ((a ≡ b → ⊥) → A) → A
by_case a b same differ = elim (ℕ_discrete a b) [ yes e ↦ same e | no d ↦ differ d ]

-- two numbers are in order or not
pub by_order : {A : Type 0} (a b : ℕ) → (a < b → A) → (b ≤ a → A) → A
by_order a b less more = elim (dec_lt a b) [ yes h ↦ less h | no h ↦ more (omega arith) ]

-- the front block
module _ (o : ℕ) (os : List ℕ) (m : ℕ) where
  pub at_front : o ≡ m → find (o ∷ os) m ≡ 0
  unfolding find
  at_front e = simp (eq-eqb o m e)

  pub past_front : (o ≡ m → ⊥) → find (o ∷ os) m ≡ suc (find os m)
  unfolding find
  past_front d = simp (ne_eqb o m d)

pub in_none : (m : ℕ) → find [] m ≡ 0
unfolding find
in_none m = refl

pub at_most : (marks : List ℕ) (m : ℕ) → find marks m ≤ length marks
at_most [] m = omega (arith, in_none m)
at_most (o ∷ os) m = by_case o m (λ e. omega (arith, at_front o os m e)) (λ d. omega (arith, past_front o os m d, at_most os m))

-- ---- the block that a search is at
module _ (marks : List ℕ) (block m : ℕ) where
  pub is_here : block < length marks → get_or marks block 0 ≡ m → find (drop block marks) m ≡ 0
  is_here h e = rw (drop-cons marks block 0) (at_front (get_or marks block 0) (drop (suc block) marks) m e)

  pub is_later : block < length marks → (get_or marks block 0 ≡ m → ⊥) → find (drop block marks) m ≡ find (drop (block + 1) marks) m + 1
  is_later h d = rw (add-one, add-one, drop-cons marks block 0) (past_front (get_or marks block 0) (drop (suc block) marks) m d)

  pub is_nowhere : length marks ≤ block → find (drop block marks) m ≡ 0
  is_nowhere h = rw (drop_of_length-le marks h) (in_none m)

-- what a search from a block on goes through: nothing, where that is past the last
pub rest_is : (marks : List ℕ) (from at : ℕ) → at ≡ min from (length marks) → take (length marks - at) (drop at marks) ≡ drop from marks
rest_is marks from at e =
    by_order from (length marks)
    (λ h.
    let here : at ≡ from = omega arith in
    rw here (take_all (length marks - from) (drop from marks) (omega (arith, length-drop from marks))))
    (λ h.
    let end : at ≡ length marks = omega arith in
    let none : length marks - length marks ≡ 0 = omega arith in
    rw (end, none, drop_of_length-le marks h))

-- what stands before the block that is found may be left out
pub from_there : (marks : List ℕ) (block m : ℕ) → block ≤ find marks m → block + find (drop block marks) m ≡ find marks m
from_there marks zero m h = omega arith
from_there [] (suc b) m h = absurd (omega (arith, in_none m))
from_there (o ∷ os) (suc b) m h =
    by_case o m (λ e. absurd (omega (arith, at_front o os m e)))
    (λ d. omega (arith, past_front o os m d, from_there os b m (omega (arith, past_front o os m d))))

-- the block that was found gets another mark: the next that has the old one is not before it
pub not_before : (marks : List ℕ) (m v : ℕ) → find marks m ≤ find (set marks (find marks m) v) m
not_before [] m v = omega (arith, in_none m)
not_before (o ∷ os) m v =
    by_case o m (λ e. omega (arith, at_front o os m e))
    (λ d. rw (past_front o os m d) (omega (arith, past_front o (set os (find os m) v) m d, not_before os m v)))

-- what is found bears the mark
pub bears : (marks : List ℕ) (m : ℕ) → find marks m < length marks → get_or marks (find marks m) 0 ≡ m
bears [] m h = absurd (omega arith)
bears (o ∷ os) m h =
    by_case o m (λ e. rw (at_front o os m e) e) (λ d. rw (past_front o os m d) (bears os m (omega (arith, past_front o os m d))))

-- a block's mark is found there or before
pub found_by : (marks : List ℕ) (block : ℕ) → block < length marks → find marks (get_or marks block 0) ≤ block
found_by [] block h = absurd (omega arith)
found_by (o ∷ os) zero h = omega (arith, at_front o os o refl)
found_by (o ∷ os) (suc b) h =
    let m = get_or os b 0 in
    by_case o m (λ e. omega (arith, at_front o os m e)) (λ d. omega (arith, past_front o os m d, found_by os b (omega arith)))

-- two marks are never on one block
pub never_both : (marks : List ℕ) (m n : ℕ) → (m ≡ n → ⊥) → find marks m < length marks → find marks m ≡ find marks n → ⊥
never_both marks m n d h e = d (sym (bears marks m h) ∙ ap (λ (b : ℕ). get_or marks b 0) e ∙ bears marks n (omega arith))
