-- The test tells that every place held has its block and that the blocks are 64 in all. So each lane has exactly the blocks that it holds, and
-- that stays so when a lane's blocks are freed and when it gets more.
use Prim.Native.Nat.{ℕ, zero, suc, ◌+◌, ◌-◌, ◌≤◌, ◌<◌}
use mathlib.Core.Path.{◌≡◌, refl, sym, ◌∙◌}
use mathlib.Core.Bool.{Bool, true, ◌&&◌}
use mathlib.Core.List.{List, [], ◌∷◌}
use native.Mathlib.Decide.{dec_lt}
use native.Mathlib.Nat.{add-zero, zero-add}
use native.Mathlib.Omega.{arith}
use borrow.Author.Tests.{leb-true, ltb-true, eqb-true, le-leb, lt-ltb, eq-eqb}
use lib.Dec.{eqb, leb, ltb}
use lib.ListN.{length, get_or, set, replicate, length-set}
use lib.Seq.{get_or-set_same, get_or-set_other}
use Rattle.octets.proofs.Order.{both}
use Rattle.marks.specs.Blocks.{blocks, lanes, free, mark, find, granted, freed}
use Rattle.octets.specs.Octets.{one}
use Rattle.marks.specs.Matching.{found, holds, each_holds, count, is_free, sum, matching}
use Rattle.marks.proofs.Finding.{by_case}
use Rattle.marks.proofs.Leaving.{freed_length, freed_leaves, granted_length, granted_leaves, granted_leaves_own}
use Rattle.marks.proofs.Counts.{is_of, freed_count, Granted, granted_counts}
use Rattle.marks.proofs.Sums.{places_within, lanes_within, just_held}

-- what the test tells
pub record Matched (marks held : List ℕ) : Type 0 where
  pub places : (i q : ℕ) → i < lanes → q < get_or held i 0 → find marks (mark i q) < blocks
  pub few : (i : ℕ) → i < lanes → get_or held i 0 ≤ blocks
  pub own : (i : ℕ) → i < lanes → count (is_of i) marks ≡ get_or held i 0
  pub whole : count is_free marks + sum held ≡ blocks

-- ---- the parts of the test, both ways
and : {a b : Bool} → a ≡ true → b ≡ true → (a && b) ≡ true
and p q = rw (p, q)

found_then : (marks : List ℕ) (m n : ℕ) → found marks m n ≡ true → (q : ℕ) → q < n → find marks (m + q) < blocks
unfolding found
found_then marks m zero e q h = absurd (omega arith)
found_then marks m (suc n) e zero h = rw (add-zero m) (ltb-true (find marks m) blocks (both (ltb (find marks m) blocks) (found marks (m + 1) n) e).0)
found_then marks m (suc n) e (suc q) h =
    let z : m + suc q ≡ m + 1 + q = omega arith in rw z (found_then marks (m + 1) n (both (ltb (find marks m) blocks) (found marks (m + 1) n) e).1 q (omega arith))

then_found : (marks : List ℕ) (m n : ℕ) → ((q : ℕ) → q < n → find marks (m + q) < blocks) → found marks m n ≡ true
unfolding found
then_found marks m zero h = refl
then_found marks m (suc n) h =
    and (lt-ltb (find marks m) blocks (rw (add-zero m) at (h 0 (omega arith))))
    (then_found marks (m + 1) n (λ q l. let z : m + suc q ≡ m + 1 + q = omega arith in rw z at (h (suc q) (omega arith))))

each_then : (marks : List ℕ) (i : ℕ) (held : List ℕ) → each_holds marks i held ≡ true → (j : ℕ) → j < length held → holds marks (i + j) (get_or held j 0) ≡ true
unfolding each_holds
each_then marks i [] e j h = absurd (omega arith)
each_then marks i (n ∷ held) e zero h = rw (add-zero i) (both (holds marks i n) (each_holds marks (i + 1) held) e).0
each_then marks i (n ∷ held) e (suc j) h =
    let z : i + suc j ≡ i + 1 + j = omega arith in rw z (each_then marks (i + 1) held (both (holds marks i n) (each_holds marks (i + 1) held) e).1 j (omega arith))

then_each : (marks : List ℕ) (i : ℕ) (held : List ℕ) → ((j : ℕ) → j < length held → holds marks (i + j) (get_or held j 0) ≡ true) → each_holds marks i held ≡ true
unfolding each_holds
then_each marks i [] h = refl
then_each marks i (n ∷ held) h =
    and (rw (add-zero i) at (h 0 (omega arith)))
    (then_each marks (i + 1) held (λ j l. let z : i + suc j ≡ i + 1 + j = omega arith in rw z at (h (suc j) (omega arith))))

holds_then : (marks : List ℕ) (i n : ℕ) → holds marks i n ≡ true → (n ≤ blocks) × ((q : ℕ) → q < n → find marks (mark i q) < blocks)
unfolding holds
holds_then marks i n e =
    let parts = both (leb n blocks) (found marks (mark i 0) n) e in
    (leb-true n blocks parts.0, λ q h. let z : mark i q ≡ mark i 0 + q = omega arith in rw z (found_then marks (mark i 0) n parts.1 q h))

then_holds : (marks : List ℕ) (i n : ℕ) → n ≤ blocks → ((q : ℕ) → q < n → find marks (mark i q) < blocks) → holds marks i n ≡ true
unfolding holds
then_holds marks i n few h =
    and (le-leb n blocks few) (then_found marks (mark i 0) n (λ q l. let z : mark i 0 + q ≡ mark i q = omega arith in rw z (h q l)))

-- ---- the test, both ways
module _ (marks held : List ℕ) (all : length marks ≡ blocks) (eight : length held ≡ lanes) where
  pub matched : matching marks held ≡ true → Matched marks held
  unfolding matching
  matched e =
      let parts = both (each_holds marks 0 held) (eqb (count is_free marks + sum held) blocks) e in
      let lane : (i : ℕ) → i < lanes → holds marks i (get_or held i 0) ≡ true = λ i h. rw (zero-add i) at (each_then marks 0 held parts.0 i (omega arith)) in
      let told : (i : ℕ) → i < lanes → (get_or held i 0 ≤ blocks) × ((q : ℕ) → q < get_or held i 0 → find marks (mark i q) < blocks) = λ i h. holds_then marks i (get_or held i 0) (lane i h) in
      let whole : count is_free marks + sum held ≡ blocks = eqb-true (count is_free marks + sum held) blocks parts.1 in
      record {
        places = λ i q h. (told i h).1 q;
        few = λ i h. (told i h).0;
        own = λ i h. rw (zero-add i) at (just_held marks 0 held
            (λ j l. rw (zero-add j) (places_within marks j (get_or held j 0) (told j (omega arith)).0 (λ q k. rw all ((told j (omega arith)).1 q k))))
            (rw eight (omega (arith, lanes_within marks))) i (omega arith));
        whole = whole;
      }

  pub matching_from : ((i q : ℕ) → i < lanes → q < get_or held i 0 → find marks (mark i q) < blocks) → ((i : ℕ) → i < lanes → get_or held i 0 ≤ blocks) → count is_free marks + sum held ≡ blocks
      → matching marks held ≡ true
  unfolding matching
  matching_from places few whole =
      and (then_each marks 0 held (λ j h. rw (zero-add j) (then_holds marks j (get_or held j 0) (few j (omega arith)) (λ q. places j q (omega arith)))))
      (eq-eqb (count is_free marks + sum held) blocks whole)

-- ---- one lane holds another number
pub sum_set : (held : List ℕ) (i n : ℕ) → i < length held → sum (set held i n) + get_or held i 0 ≡ sum held + n
unfolding sum
sum_set [] i n h = absurd (omega arith)
sum_set (m ∷ held) zero n h = omega arith
sum_set (m ∷ held) (suc i) n h = omega (arith, sum_set held i n (omega arith))

module _ (marks held : List ℕ) (all : length marks ≡ blocks) (eight : length held ≡ lanes) (m : Matched marks held) (i : ℕ) (small : i < lanes) where
  abbrev holding : ℕ
  holding = get_or held i 0

  here : (n : ℕ) → get_or (set held i n) i 0 ≡ n
  here n = get_or-set_same held i n 0 (omega arith)

  elsewhere : (n j : ℕ) → (i ≡ j → ⊥) → get_or (set held i n) j 0 ≡ get_or held j 0
  elsewhere n j other = get_or-set_other held i j n 0 (λ e. other (sym e))

  -- marks in which lane i has a block for each of n places, and every other lane has its own as before
  changed : (after : List ℕ) (n : ℕ) → length after ≡ blocks → n ≤ blocks → ((q : ℕ) → q < n → find after (mark i q) < blocks)
      → ((j : ℕ) → (i ≡ j → ⊥) → j < lanes → (q : ℕ) → q < blocks → find after (mark j q) ≡ find marks (mark j q))
      → count is_free after + n ≡ count is_free marks + holding → matching after (set held i n) ≡ true
  changed after n size few places others whole =
      matching_from after (set held i n) size (length-set held i n ∙ eight)
      (λ j q h l. by_case i j
      (λ e. rw (← e) (places q (rw (← e, here n) at l)))
      (λ d. let k : q < get_or held j 0 = rw (elsewhere n j d) at l in rw (others j d h q (omega (arith, m.few j h))) (m.places j q h k)))
      (λ j h. by_case i j (λ e. rw (← e, here n) few) (λ d. rw (elsewhere n j d) (m.few j h)))
      (omega (arith, sum_set held i n (omega arith), m.whole))

  pub freed_matching : matching (freed marks i) (set held i 0) ≡ true
  freed_matching =
      changed (freed marks i) 0 (freed_length marks i ∙ all) (omega arith) (λ q h. absurd (omega arith)) (λ j d h. freed_leaves marks i j d h)
      (omega (arith, freed_count i marks small, m.own i small))

  pub granted_matching : (n : ℕ) → holding + n ≤ blocks → sum held + n ≤ blocks → matching (granted marks (mark i holding) n) (set held i (holding + n)) ≡ true
  granted_matching n fits room =
      let g : Granted i (mark i holding) n marks = granted_counts i (mark i holding) n marks small (omega (arith, m.whole)) (omega arith) (omega arith) in
      changed (granted marks (mark i holding) n) (holding + n) (granted_length marks (mark i holding) n ∙ all) fits
      (λ q h. elim (dec_lt q holding) [
        | yes l ↦ rw (granted_leaves_own marks i holding n fits small q l) (m.places i q small l)
        | no l ↦
            let z : mark i q ≡ mark i holding + (q - holding) = omega arith in
            let there : find (granted marks (mark i holding) n) (mark i q) < length marks = rw z (g.places (q - holding) (omega arith)) in
            omega arith
      ])
      (λ j d h. granted_leaves marks i holding n fits j d h)
      (omega (arith, g.free_ones))

-- ---- what a caller needs, from the test itself
module _ (marks held : List ℕ) (all : length marks ≡ blocks) (eight : length held ≡ lanes) (e : matching marks held ≡ true) (i : ℕ) (small : i < lanes) where
  pub matching_freed : matching (freed marks i) (set held i 0) ≡ true
  matching_freed = freed_matching marks held all eight (matched marks held all eight e) i small

  pub matching_granted : (n : ℕ) → get_or held i 0 + n ≤ blocks → sum held + n ≤ blocks → matching (granted marks (mark i (get_or held i 0)) n) (set held i (get_or held i 0 + n)) ≡ true
  matching_granted = granted_matching marks held all eight (matched marks held all eight e) i small

-- the fresh start: every block is free
pub matching_fresh : matching (replicate blocks free) (replicate lanes 0) ≡ true
unfolding matching each_holds holds found count one sum
matching_fresh = refl
