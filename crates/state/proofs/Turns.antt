-- A turn of each loop over the eight lanes takes one lane from the front of those that are left.
use Prim.Native.Nat.{ℕ, ◌+◌, ◌*◌, ◌≤◌, ◌<◌}
use mathlib.Core.Path.{◌≡◌, refl, sym, ap, ◌∙◌}
use mathlib.Core.Bool.{Bool, true, false}
use mathlib.Core.List.{List, [], ◌∷◌, ◌++◌, map}
use native.Mathlib.Numerals.{add-one}
use native.Mathlib.Omega.{arith}
use lib.ListN.{length, get_or, set, take, drop, length-set, drop_of_length-le}
use lib.Seq.{drop-cons, take_all, take-suc, take-suc-set, get_or-set_other}
use Rattle.lane.specs.declared.Lane.{Lane}
use Rattle.lane.specs.Lane.{closed, held, need, fine}
use Rattle.state.specs.State.{total, every}

module _ (ls : List Lane) (i : ℕ) where
  pub every_end : (p : Lane → Bool) → length ls ≤ i → every p (drop i ls) ≡ true
  unfolding every
  every_end p h = rw (drop_of_length-le ls h)

  pub total_end : length ls ≤ i → total (drop i ls) ≡ 0
  unfolding total
  total_end h = rw (drop_of_length-le ls h)

  module _ (h : i < length ls) where
    pub every_goes : (p : Lane → Bool) → p (get_or ls i closed) ≡ true → every p (drop i ls) ≡ every p (drop (i + 1) ls)
    unfolding every
    every_goes p e = rw (add-one i, drop-cons ls i closed, e)

    pub every_fails : (p : Lane → Bool) → p (get_or ls i closed) ≡ false → every p (drop i ls) ≡ false
    unfolding every
    every_fails p e = rw (drop-cons ls i closed, e)

    pub total_goes : total (drop i ls) ≡ need (get_or ls i closed) + total (drop (i + 1) ls)
    unfolding total
    total_goes = rw (add-one i, drop-cons ls i closed)

map_more : (ls : List Lane) (l : Lane) → map held (ls ++ (l ∷ [])) ≡ map held ls ++ (held l ∷ [])
map_more [] l = refl
map_more (x ∷ ls) l = ap (λ (r : List ℕ). held x ∷ r) (map_more ls l)

-- ---- the one pass of the test for soundness: what is known of the lanes ls once i of them are passed, with what each holds noted in hs, and their sum
pub record Passed (ls : List Lane) (i : ℕ) (hs : List ℕ) (sum : ℕ) : Type 0 where
  pub decided : every fine ls ≡ every fine (drop i ls)
  pub summed : total ls ≡ sum + total (drop i ls)
  pub small : sum ≤ i * 256
  pub eight : length hs ≡ 8
  pub noted : take i hs ≡ map held (take i ls)
  pub empty : (k : ℕ) → i ≤ k → get_or hs k 0 ≡ 0

module _ (ls : List Lane) (i : ℕ) (hs : List ℕ) (sum : ℕ) (p : Passed ls i hs sum) where
  abbrev own : Lane
  own = get_or ls i closed

  pub passed_one : i < length ls → i < 8 → fine own ≡ true → (n : ℕ) → n ≡ need own → n ≤ 256 → (after : List ℕ) → after ≡ set hs i (held own)
      → Passed ls (i + 1) after (sum + n)
  passed_one h m good n en few after e =
      record {
        decided = p.decided ∙ every_goes ls i h fine good;
        summed = omega (arith, p.summed, en, total_goes ls i h);
        small = omega (arith, p.small, few);
        eight = ap length e ∙ length-set hs i (held own) ∙ p.eight;
        noted = rw (e, add-one i, take-suc-set hs i (held own) (omega (arith, m, p.eight)), take-suc ls i closed h, p.noted) (sym (map_more (take i ls) own));
        empty = λ k z. rw (e, get_or-set_other hs i k (held own) 0 (λ q. omega (arith, q))) (p.empty k (omega arith));
      }

  -- the lane that fails decides
  pub passed_fails : i < length ls → fine own ≡ false → every fine ls ≡ false
  passed_fails h bad = p.decided ∙ every_fails ls i h fine bad

  -- past the last, all is known
  pub all_passed : length ls ≤ i → 8 ≤ i → (every fine ls ≡ true) × (sum ≡ total ls) × (hs ≡ map held ls)
  all_passed h m =
      (p.decided ∙ every_end ls i fine h, omega (arith, p.summed, total_end ls i h), sym (take_all i hs (omega (arith, m, p.eight))) ∙ p.noted ∙ ap (map held) (take_all i ls h))
