-- Granting and freeing for one lane leave the blocks of every other where they are: no mark of another is written or taken away.
use Prim.Native.Nat.{ℕ, zero, suc, ◌+◌, ◌/◌, ◌≤◌, ◌<◌}
use mathlib.Core.Path.{◌≡◌, refl, sym, ap, ◌∙◌}
use mathlib.Core.Logic.{◌⊎◌, inl, inr, ⊎_elim}
use mathlib.Core.List.{List, [], ◌∷◌}
use native.Mathlib.Decide.{dec_lt}
use native.Mathlib.Omega.{arith}
use borrow.Author.Tests.{eq-eqb, ne_eqb}
use lib.ListN.{length, set, length-set, length-map}
use Rattle.marks.specs.Blocks.{blocks, lanes, free, mark, find, granted, freed_mark, freed}
use Rattle.marks.proofs.Finding.{by_case, at_front, past_front}

-- two lists with other fronts, neither of which is the mark, and with one front
other_fronts : (p q : ℕ) (ps qs : List ℕ) (m : ℕ) → (p ≡ m → ⊥) → (q ≡ m → ⊥) → find ps m ≡ find qs m → find (p ∷ ps) m ≡ find (q ∷ qs) m
other_fronts p q ps qs m dp dq e = past_front p ps m dp ∙ ap suc e ∙ sym (past_front q qs m dq)

same_fronts : (p : ℕ) (ps qs : List ℕ) (m : ℕ) → find ps m ≡ find qs m → find (p ∷ ps) m ≡ find (p ∷ qs) m
same_fronts p ps qs m e = by_case p m (λ z. at_front p ps m z ∙ sym (at_front p qs m z)) (λ d. other_fronts p p ps qs m d d e)

-- ---- freeing
pub freed_own : (lane o : ℕ) → o / blocks ≡ lane → freed_mark lane o ≡ free
unfolding freed_mark
freed_own lane o e = simp (eq-eqb (o / blocks) lane e)

pub freed_other : (lane o : ℕ) → (o / blocks ≡ lane → ⊥) → freed_mark lane o ≡ o
unfolding freed_mark
freed_other lane o d = simp (ne_eqb (o / blocks) lane d)

find_freed : (marks : List ℕ) (lane m : ℕ) → (m / blocks ≡ lane → ⊥) → (m ≡ free → ⊥) → find (freed marks lane) m ≡ find marks m
find_freed [] lane m d f = refl
find_freed (o ∷ os) lane m d f =
    by_case (o / blocks) lane
    (λ e. rw (freed_own lane o e) (other_fronts free o (freed os lane) os m (λ z. f (sym z)) (λ z. d (rw z at e)) (find_freed os lane m d f)))
    (λ n. rw (freed_other lane o n) (same_fronts o (freed os lane) os m (find_freed os lane m d f)))

pub freed_length : (marks : List ℕ) (lane : ℕ) → length (freed marks lane) ≡ length marks
freed_length marks lane = length-map marks (freed_mark lane)

module _ (marks : List ℕ) (i j : ℕ) (other : i ≡ j → ⊥) (small : j < lanes) where
  pub freed_leaves : (q : ℕ) → q < blocks → find (freed marks i) (mark j q) ≡ find marks (mark j q)
  freed_leaves q h = find_freed marks i (mark j q) (λ z. other (omega arith)) (λ z. omega arith)

-- ---- granting
find_given : (marks : List ℕ) (v m : ℕ) → (m ≡ v → ⊥) → (m ≡ free → ⊥) → find (set marks (find marks free) v) m ≡ find marks m
find_given [] v m d f = refl
find_given (o ∷ os) v m d f =
    by_case o free
    (λ e. rw (at_front o os free e) (other_fronts v o os os m (λ z. d (sym z)) (λ z. f (sym z ∙ e)) refl))
    (λ n. rw (past_front o os free n) (same_fronts o (set os (find os free) v) os m (find_given os v m d f)))

pub find_granted : (marks : List ℕ) (v n m : ℕ) → (m < v) ⊎ (v + n ≤ m) → (m ≡ free → ⊥) → find (granted marks v n) m ≡ find marks m
unfolding granted
find_granted marks v zero m h f = refl
find_granted marks v (suc n) m h f =
    find_granted (set marks (find marks free) v) (v + 1) n m (⊎_elim (λ w. inl (omega arith)) (λ w. inr (omega arith)) h) f
    ∙ find_given marks v m (λ e. ⊎_elim (λ w. omega arith) (λ w. omega arith) h) f

pub granted_length : (marks : List ℕ) (v n : ℕ) → length (granted marks v n) ≡ length marks
unfolding granted
granted_length marks v zero = refl
granted_length marks v (suc n) = granted_length (set marks (find marks free) v) (v + 1) n ∙ length-set marks (find marks free) v

-- lane i gets the places a, a + 1, .., n of them
module _ (marks : List ℕ) (i a n : ℕ) (fits : a + n ≤ blocks) where
  pub granted_leaves : (j : ℕ) → (i ≡ j → ⊥) → j < lanes → (q : ℕ) → q < blocks → find (granted marks (mark i a) n) (mark j q) ≡ find marks (mark j q)
  granted_leaves j other small q h =
      find_granted marks (mark i a) n (mark j q)
      (elim (dec_lt j i) [ yes l ↦ inl (omega arith) | no l ↦ inr (omega arith) ]) (λ z. omega arith)

  pub granted_leaves_own : i < lanes → (q : ℕ) → q < a → find (granted marks (mark i a) n) (mark i q) ≡ find marks (mark i q)
  granted_leaves_own small q h = find_granted marks (mark i a) n (mark i q) (inl (omega arith)) (λ z. omega arith)
