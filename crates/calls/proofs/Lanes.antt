-- One lane of the list changes: what that does to the tests and sums over all lanes. Everything follows the list to that lane.
use Prim.Native.Nat.{ℕ, zero, suc, ◌≤◌}
use mathlib.Core.Path.{◌≡◌, refl, ap}
use mathlib.Core.Bool.{true}
use mathlib.Core.List.{List, [], ◌∷◌, map}
use native.Mathlib.Omega.{arith}
use lib.ListN.{set}
use Rattle.octets.proofs.Order.{either, both}
use Rattle.marks.specs.Matching.{sum}
use Rattle.lane.specs.declared.Lane.{Lane}
use Rattle.lane.specs.Lane.{held, need, fine}
use Rattle.lane.proofs.Fine.{is_fine, none_held}
use Rattle.state.specs.State.{total, within, every}
use Rattle.state.proofs.Within.{most}

-- ---- every lane passes a test
pub fine_set : (ls : List Lane) → every fine ls ≡ true → (i : ℕ) (l : Lane) → fine l ≡ true → every fine (set ls i l) ≡ true
unfolding every
fine_set [] e i l h = refl
fine_set (x ∷ ls) e zero l h = simp (h, (both (fine x) (every fine ls) e).1)
fine_set (x ∷ ls) e (suc i) l h = simp ((both (fine x) (every fine ls) e).0, fine_set ls (both (fine x) (every fine ls) e).1 i l h)

-- ---- what they hold
pub held_set : (ls : List Lane) (i : ℕ) (l : Lane) → map held (set ls i l) ≡ set (map held ls) i (held l)
held_set [] i l = refl
held_set (x ∷ ls) zero l = refl
held_set (x ∷ ls) (suc i) l = ap (λ (hs : List ℕ). held x ∷ hs) (held_set ls i l)

held_needed : (l : Lane) → fine l ≡ true → held l ≤ need l
unfolding need
held_needed l h = either l.opened (λ o. simp o (omega arith)) (λ o. rw ((is_fine l h).nothing ((is_fine l h).shut o), none_held) (omega arith))

held_most : (ls : List Lane) → every fine ls ≡ true → sum (map held ls) ≤ total ls
unfolding every sum total
held_most [] e = omega arith
held_most (l ∷ ls) e = let p = both (fine l) (every fine ls) e in omega (arith, held_needed l p.0, held_most ls p.1)

pub held_within : (ls : List Lane) → every fine ls ≡ true → within ls ≡ true → sum (map held ls) ≤ 64
held_within ls e w = omega (arith, held_most ls e, most ls w)
