-- What carries the test of the marks: one lane or block is one clause of the definition, and the rest is left to the turns after it.
use Prim.Native.Nat.{ℕ, zero, suc, ◌+◌, ◌*◌, ◌≤◌, ◌<◌}
use mathlib.Core.Path.{◌≡◌, refl, sym, ◌∙◌}
use mathlib.Core.Bool.{Bool, cond, true, false, ◌&&◌}
use mathlib.Core.List.{List, [], ◌∷◌}
use native.Mathlib.Numerals.{add-one}
use native.Mathlib.Omega.{arith}
use borrow.Author.Tests.{eq-eqb, ne_eqb}
use lib.ListN.{length, get_or, drop, drop_of_length-le}
use lib.Seq.{drop-cons}
use Rattle.std.specs.List.{count_by, sum as total}
use Rattle.std.proofs.lemmas.List.Recursion.{is_sum_by}
use Rattle.marks.specs.Blocks.{blocks}
use Rattle.octets.specs.Octets.{one}
use Rattle.marks.specs.Matching.{found, holds, each_holds, count, is_free, sum, matching}
use Rattle.marks.proofs.Finding.{by_case}

-- ---- one lane after the other
module _ (marks held : List ℕ) (lane : ℕ) (h : lane < length held) where
  pub lane_good : holds marks lane (get_or held lane 0) ≡ true → each_holds marks lane (drop lane held) ≡ each_holds marks (lane + 1) (drop (lane + 1) held)
  unfolding each_holds
  lane_good e = rw (drop-cons held lane 0, e, add-one lane)

  pub lane_bad : holds marks lane (get_or held lane 0) ≡ false → each_holds marks lane (drop lane held) ≡ false
  unfolding each_holds
  lane_bad e = rw (drop-cons held lane 0, e)

pub lanes_end : (marks held : List ℕ) (lane : ℕ) → length held ≤ lane → each_holds marks lane (drop lane held) ≡ true
unfolding each_holds
lanes_end marks held lane h = rw (drop_of_length-le held h)

-- lanes that hold nothing have all that they hold
pub none_held : (marks : List ℕ) (lane : ℕ) (held : List ℕ) → sum held ≡ 0 → each_holds marks lane held ≡ true
unfolding sum each_holds holds found
none_held marks lane [] e = refl
none_held marks lane (n ∷ held) e =
    let none : n ≡ 0 = omega arith in
    rw none (none_held marks (lane + 1) held (omega arith))

-- ---- the two sums, in the words of chains and loops
pub counted : (p : ℕ → Bool) (marks : List ℕ) → count p marks ≡ count_by p marks
unfolding count one
counted p = is_sum_by (count p) (λ o. cond (p o) 1 0) refl (λ _ _. refl)

pub summed : (held : List ℕ) → sum held ≡ total held
unfolding sum
summed = is_sum_by sum (λ n. n) refl (λ _ _. refl)

pub sum_at_most : (held : List ℕ) → ((lane : ℕ) → get_or held lane 0 < 65536) → sum held ≤ length held * 65535
unfolding sum
sum_at_most [] fits = omega arith
sum_at_most (n ∷ ns) fits = omega (arith, fits 0, sum_at_most ns (λ lane. fits (suc lane)))

pub one_at_most : (b : Bool) → one b ≤ 1
unfolding one
one_at_most true = omega arith
one_at_most false = omega arith

pub count_at_most : (p : ℕ → Bool) (marks : List ℕ) → count p marks ≤ length marks
unfolding count
count_at_most p [] = omega arith
count_at_most p (o ∷ os) = omega (arith, one_at_most (p o), count_at_most p os)

pub each_at_most : (held : List ℕ) (lane : ℕ) → get_or held lane 0 ≤ sum held
unfolding sum
each_at_most [] lane = omega arith
each_at_most (n ∷ ns) zero = omega arith
each_at_most (n ∷ ns) (suc lane) = omega (arith, each_at_most ns lane)

-- ---- the whole test
and_true : (b : Bool) → (b && true) ≡ b
and_true true = refl
and_true false = refl

and_false : (b : Bool) → (b && false) ≡ false
and_false true = refl
and_false false = refl

module _ (marks held : List ℕ) where
  pub lanes_decide : count is_free marks + sum held ≡ blocks → each_holds marks 0 held ≡ matching marks held
  unfolding matching
  lanes_decide e = simp (eq-eqb (count is_free marks + sum held) blocks e) (sym (and_true (each_holds marks 0 held)))

  pub sum_decides : (count is_free marks + sum held ≡ blocks → ⊥) → false ≡ matching marks held
  unfolding matching
  sum_decides d = simp (ne_eqb (count is_free marks + sum held) blocks d) (sym (and_false (each_holds marks 0 held)))
