-- No block is counted twice: the blocks of the lanes and the free ones are at most all there are, and places with blocks are at most the
-- blocks of their lane. Where that leaves no room, each lane has just what it holds.
use Prim.Native.Nat.{ℕ, zero, suc, ◌+◌, ◌*◌, ◌/◌, ◌≤◌, ◌<◌}
use mathlib.Core.Path.{◌≡◌}
use mathlib.Core.Bool.{Bool, true}
use mathlib.Core.List.{List, [], ◌∷◌}
use native.Mathlib.Decide.{dec_lt}
use native.Mathlib.Nat.{add-zero}
use native.Mathlib.Omega.{arith}
use borrow.Author.Tests.{lt-ltb, le-ltb}
use lib.Dec.{eqb, ltb}
use lib.ListN.{length, get_or}
use Rattle.marks.specs.Blocks.{blocks, lanes, free, mark, find}
use Rattle.octets.specs.Octets.{one}
use Rattle.marks.specs.Matching.{count, is_free, sum}
use Rattle.marks.proofs.Finding.{by_case, past_front}
use Rattle.marks.proofs.Looking.{one_at_most, count_at_most}
use Rattle.marks.proofs.Counts.{is_of, counts_one, counts_none}

-- ---- tests that never hold together add up to no more than one that covers both
sums_within : (p q r : ℕ → Bool) → ((o : ℕ) → one (p o) + one (q o) ≤ one (r o)) → (marks : List ℕ) → count p marks + count q marks ≤ count r marks
unfolding count
sums_within p q r h [] = omega arith
sums_within p q r h (o ∷ os) = omega (arith, h o, sums_within p q r h os)

pub within_sums : (p q r : ℕ → Bool) (marks : List ℕ)
    → ((b : ℕ) → b < length marks → one (p (get_or marks b 0)) ≤ one (q (get_or marks b 0)) + one (r (get_or marks b 0))) → count p marks ≤ count q marks + count r marks
unfolding count
within_sums p q r [] h = omega arith
within_sums p q r (o ∷ os) h = omega (arith, h 0 (omega arith), within_sums p q r os (λ b l. h (suc b) (omega arith)))

pub one_below : (a b : ℕ) → a < b → one (ltb a b) ≡ 1
unfolding one
one_below a b h = simp (lt-ltb a b h)

pub none_below : (a b : ℕ) → b ≤ a → one (ltb a b) ≡ 0
unfolding one
none_below a b h = simp (le-ltb a b h)

-- marks below m, and the mark m: those below m + 1; so places with blocks are no more than the marks there
abbrev pub below : ℕ → ℕ → Bool
below m o = ltb o m

next_mark : (m o : ℕ) → one (eqb o m) + one (below m o) ≤ one (below (m + 1) o)
next_mark m o =
    by_case o m
    (λ e. omega (arith, counts_one o m e, none_below o m (omega arith), one_below o (m + 1) (omega arith)))
    (λ d. elim (dec_lt o m) [
      | yes l ↦ omega (arith, counts_none o m d, one_below o m l, one_below o (m + 1) (omega arith))
      | no l ↦ omega (arith, counts_none o m d, none_below o m (omega arith))
    ])

-- a mark that is found is counted
counted_there : (marks : List ℕ) (m : ℕ) → find marks m < length marks → 1 ≤ count (λ o. eqb o m) marks
unfolding count
counted_there [] m h = absurd (omega arith)
counted_there (o ∷ os) m h =
    by_case o m
    (λ e. omega (arith, counts_one o m e))
    (λ d. omega (arith, counted_there os m (omega (arith, past_front o os m d))))

places_counted : (marks : List ℕ) (m n : ℕ) → ((q : ℕ) → q < n → find marks (m + q) < length marks) → count (below m) marks + n ≤ count (below (m + n)) marks
places_counted marks m zero h = rw (add-zero m) (omega arith)
places_counted marks m (suc n) h =
    let e : m + suc n ≡ m + n + 1 = omega arith in
    rw e (omega (
      arith,
      places_counted marks m n (λ q l. h q (omega arith)),
      counted_there marks (m + n) (h n (omega arith)),
      sums_within (λ o. eqb o (m + n)) (below (m + n)) (below (m + n + 1)) (next_mark (m + n)) marks,
    ))

-- the marks of a lane lie between
lane_between : (i n o : ℕ) → n ≤ blocks → one (below (i * blocks + n) o) ≤ one (is_of i o) + one (below (i * blocks) o)
lane_between i n o h =
    by_case (o / blocks) i
    (λ e. omega (arith, counts_one (o / blocks) i e, one_at_most (below (i * blocks + n) o)))
    (λ d. elim (dec_lt o (i * blocks)) [
      | yes l ↦ omega (arith, one_below o (i * blocks) l, one_at_most (below (i * blocks + n) o))
      | no l ↦ omega (arith, none_below o (i * blocks + n) (omega arith))
    ])

-- places with blocks are no more than the blocks of their lane
pub places_within : (marks : List ℕ) (i n : ℕ) → n ≤ blocks → ((q : ℕ) → q < n → find marks (mark i q) < length marks) → n ≤ count (is_of i) marks
places_within marks i n h places =
    omega (
      arith,
      places_counted marks (i * blocks) n places,
      within_sums (below (i * blocks + n)) (is_of i) (below (i * blocks)) marks (λ b l. lane_between i n (get_or marks b 0) h),
    )

-- ---- the blocks of lanes i, i + 1, .., n of them
unfoldable pub lane_blocks : List ℕ → ℕ → ℕ → ℕ
lane_blocks marks i zero = 0
lane_blocks marks i (suc n) = count (is_of i) marks + lane_blocks marks (i + 1) n

next_lane : (i o : ℕ) → one (is_of i o) + one (below (i * blocks) o) ≤ one (below ((i + 1) * blocks) o)
next_lane i o =
    by_case (o / blocks) i
    (λ e. omega (arith, counts_one (o / blocks) i e, none_below o (i * blocks) (omega arith), one_below o ((i + 1) * blocks) (omega arith)))
    (λ d. elim (dec_lt o (i * blocks)) [
      | yes l ↦ omega (arith, counts_none (o / blocks) i d, one_below o (i * blocks) l, one_below o ((i + 1) * blocks) (omega arith))
      | no l ↦ omega (arith, counts_none (o / blocks) i d, none_below o (i * blocks) (omega arith))
    ])

lanes_below : (marks : List ℕ) (i n : ℕ) → lane_blocks marks i n + count (below (i * blocks)) marks ≤ count (below ((i + n) * blocks)) marks
unfolding lane_blocks
lanes_below marks i zero = rw (add-zero i) (omega arith)
lanes_below marks i (suc n) =
    let e : i + suc n ≡ i + 1 + n = omega arith in
    rw e (omega (arith, lanes_below marks (i + 1) n, sums_within (is_of i) (below (i * blocks)) (below ((i + 1) * blocks)) (next_lane i) marks))

-- a free block is of no lane
apart_from_free : (o : ℕ) → one (below free o) + one (is_free o) ≤ one true
unfolding one
apart_from_free o =
    by_case o free
    (λ e. omega (arith, none_below o free (omega arith), one_at_most (is_free o)))
    (λ d. omega (arith, counts_none o free d, one_at_most (below free o)))

pub lanes_within : (marks : List ℕ) → lane_blocks marks 0 lanes + count is_free marks ≤ length marks
lanes_within marks =
    omega (arith, lanes_below marks 0 lanes, sums_within (below free) is_free (λ o. true) apart_from_free marks, count_at_most (λ o. true) marks)

-- ---- each lane has at least what it holds, and all have no more: so each has just that
module _ (marks : List ℕ) where
  abbrev pub AtLeast : ℕ → List ℕ → Type 0
  AtLeast i held = (j : ℕ) → j < length held → get_or held j 0 ≤ count (is_of (i + j)) marks

  first_lane : (i h : ℕ) (held : List ℕ) → AtLeast i (h ∷ held) → h ≤ count (is_of i) marks
  first_lane i h held least = rw (add-zero i) at (least 0 (omega arith))

  later_lanes : (i h : ℕ) (held : List ℕ) → AtLeast i (h ∷ held) → AtLeast (i + 1) held
  later_lanes i h held least j l = let e : i + suc j ≡ i + 1 + j = omega arith in rw e at (least (suc j) (omega arith))

  pub sum_within : (i : ℕ) (held : List ℕ) → AtLeast i held → sum held ≤ lane_blocks marks i (length held)
  unfolding sum lane_blocks
  sum_within i [] least = omega arith
  sum_within i (h ∷ held) least = omega (arith, first_lane i h held least, sum_within (i + 1) held (later_lanes i h held least))

  pub just_held : (i : ℕ) (held : List ℕ) → AtLeast i held → lane_blocks marks i (length held) ≤ sum held → (j : ℕ) → j < length held → count (is_of (i + j)) marks ≡ get_or held j 0
  unfolding sum lane_blocks
  just_held i [] least most j l = absurd (omega arith)
  just_held i (h ∷ held) least most zero l =
      rw (add-zero i) (omega (arith, first_lane i h held least, sum_within (i + 1) held (later_lanes i h held least)))
  just_held i (h ∷ held) least most (suc j) l =
      let e : i + suc j ≡ i + 1 + j = omega arith in
      rw e (just_held (i + 1) held (later_lanes i h held least) (omega (arith, first_lane i h held least)) j (omega arith))
