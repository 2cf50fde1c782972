-- Blocks that are taken and places that are held are one to one. The test tells it: if a block could be freed with every place still on a block, the
-- blocks would be more than 64. And the way back: each block is counted at its place, so that no more are taken than places are held.
use Prim.Native.Nat.{ℕ, zero, suc, ◌+◌, ◌/◌, ◌%◌, ◌≤◌, ◌<◌}
use mathlib.Core.Path.{◌≡◌, refl, sym, ◌∙◌}
use mathlib.Core.Bool.{true}
use mathlib.Core.List.{List, [], ◌∷◌}
use native.Mathlib.Nat.{add-zero, zero-add}
use native.Mathlib.Omega.{arith}
use lib.Dec.{eqb}
use lib.ListN.{length, get_or, set, length-set}
use lib.Seq.{get_or-set_other}
use Rattle.marks.specs.Blocks.{blocks, lanes, free, mark, find}
use Rattle.octets.specs.Octets.{one}
use Rattle.marks.specs.Matching.{count, is_free, sum, matching}
use Rattle.marks.proofs.Finding.{by_case, by_order, bears, found_by}
use Rattle.marks.proofs.Looking.{one_at_most}
use Rattle.marks.proofs.Counts.{counts_one, counts_none, count_set, counted_found}
use Rattle.marks.proofs.Sums.{within_sums, one_below, none_below, below, places_within, lane_blocks, lanes_within, AtLeast, sum_within}
use Rattle.marks.proofs.Matched.{Matched, matched, matching_from}

-- block b is at place q of lane i, which the lane holds
pub record At (marks held : List ℕ) (i q b : ℕ) : Type 0 where
  pub lane : i < lanes
  pub place : q < get_or held i 0
  pub block : b < blocks
  pub marked : get_or marks b 0 ≡ mark i q

-- each place has a block, and one only; and a block that is taken is at a place
pub record OneToOne (marks held : List ℕ) : Type 0 where
  pub few : (i : ℕ) → i < lanes → get_or held i 0 ≤ blocks
  pub some : (i q : ℕ) → i < lanes → q < get_or held i 0 → (b : ℕ) × At marks held i q b
  pub single : (i q a b : ℕ) → At marks held i q a → At marks held i q b → a ≡ b
  pub taken : (b : ℕ) → b < blocks → (get_or marks b 0 ≡ free → ⊥) → (i : ℕ) × (q : ℕ) × At marks held i q b

-- a mark that a block bears is found there or before
borne : (marks : List ℕ) (b m : ℕ) → b < length marks → get_or marks b 0 ≡ m → find marks m ≤ b
borne marks b m h e = rw e at (found_by marks b h)

-- places that are each on a block, and the free blocks, are at most all there are
module _ (marks held : List ℕ) (all : length marks ≡ blocks) (eight : length held ≡ lanes) (few : (i : ℕ) → i < lanes → get_or held i 0 ≤ blocks)
    (places : (i q : ℕ) → i < lanes → q < get_or held i 0 → find marks (mark i q) < blocks) where
  least : AtLeast marks 0 held
  least j h = rw (zero-add j) (places_within marks j (get_or held j 0) (few j (omega arith)) (λ q k. rw all (places j q (omega arith) k)))

  fit : count is_free marks + sum held ≤ blocks
  fit = let sums : sum held ≤ lane_blocks marks 0 lanes = rw (← eight) (sum_within marks 0 held least) in omega (arith, lanes_within marks)

-- ---- what the test tells
module _ (marks held : List ℕ) (all : length marks ≡ blocks) (eight : length held ≡ lanes) (m : Matched marks held) where
  -- the block that is found at a place
  there : (i q : ℕ) → i < lanes → q < get_or held i 0 → At marks held i q (find marks (mark i q))
  there i q hi hq =
      let h : find marks (mark i q) < blocks = m.places i q hi hq in
      record { lane = hi; place = hq; block = h; marked = bears marks (mark i q) (omega arith) }

  module _ (b : ℕ) (h : b < blocks) (taken : get_or marks b 0 ≡ free → ⊥) where
    abbrev without : List ℕ
    without = set marks b free

    -- another block at a place
    abbrev Other : ℕ → ℕ → Type 0
    Other i q = (a : ℕ) × At marks held i q a × (a ≡ b → ⊥)

    still : (i q : ℕ) → Other i q → find without (mark i q) < blocks
    still i q o =
        omega (
          arith,
          o.1.block,
          borne without o.0 (mark i q) (omega (arith, o.1.block, length-set marks b free)) (get_or-set_other marks b o.0 free 0 o.2 ∙ o.1.marked),
        )

    -- the block cannot be spared
    none_spare : ((i q : ℕ) → i < lanes → q < get_or held i 0 → Other i q) → ⊥
    none_spare others =
        omega (
          arith,
          m.whole,
          count_set is_free marks b free (omega arith),
          counts_one free free refl,
          counts_none (get_or marks b 0) free taken,
          fit without held (length-set marks b free ∙ all) eight m.few (λ i q hi hq. still i q (others i q hi hq)),
        )

    elsewhere : (i q : ℕ) → i < lanes → q < get_or held i 0 → (get_or marks b 0 ≡ mark i q → ⊥) → Other i q
    elsewhere i q hi hq d = (find marks (mark i q), there i q hi hq, λ e. d (rw e at (there i q hi hq).marked))

    abbrev lane : ℕ
    lane = get_or marks b 0 / blocks

    abbrev place : ℕ
    place = get_or marks b 0 % blocks

    nowhere : (lane < lanes → place < get_or held lane 0 → ⊥) → ⊥
    nowhere d =
        none_spare (λ i q hi hq. elsewhere i q hi hq (λ e.
        let el : lane ≡ i = omega (arith, m.few i hi) in
        let ep : place ≡ q = omega (arith, m.few i hi) in
        d (rw el hi) (rw (el, ep) hq)))

    at_place : (i : ℕ) × (q : ℕ) × At marks held i q b
    at_place =
        by_order lane lanes
        (λ hi. by_order place (get_or held lane 0)
        (λ hq. (lane, place, record { lane = hi; place = hq; block = h; marked = omega arith }))
        (λ n. absurd (nowhere (λ z y. omega arith))))
        (λ n. absurd (nowhere (λ z y. omega arith)))

  just_one : (i q a b : ℕ) → At marks held i q a → At marks held i q b → a ≡ b
  just_one i q a b x y =
      let taken : get_or marks b 0 ≡ free → ⊥ = λ e. omega (arith, m.few i x.lane, x.lane, x.place, y.marked) in
      by_case a b (λ e. e)
      (λ d. absurd (none_spare b y.block taken (λ j r hj hr. by_case (mark j r) (mark i q)
      (λ e. (a, record { lane = hj; place = hr; block = x.block; marked = x.marked ∙ sym e }, d))
      (λ n. elsewhere b y.block taken j r hj hr (λ e. n (sym e ∙ y.marked))))))

pub one_to_one : (marks held : List ℕ) → length marks ≡ blocks → length held ≡ lanes → matching marks held ≡ true → OneToOne marks held
one_to_one marks held all eight e =
    let m : Matched marks held = matched marks held all eight e in
    record {
      few = m.few;
      some = λ i q hi hq. (find marks (mark i q), there marks held all eight m i q hi hq);
      single = just_one marks held all eight m;
      taken = at_place marks held all eight m;
    }

-- ---- and the way back: a mark that no two blocks bear is counted once at most
counted_once : (marks : List ℕ) (m : ℕ) → ((a b : ℕ) → a < length marks → b < length marks → get_or marks a 0 ≡ m → get_or marks b 0 ≡ m → a ≡ b)
    → count (λ o. eqb o m) marks ≤ 1
unfolding count
counted_once [] m h = omega arith
counted_once (o ∷ os) m h =
    by_case o m
    (λ e. by_order 0 (count (λ o. eqb o m) os)
    (λ some. let f = counted_found os m some in absurd (omega (arith, h 0 (suc (find os m)) (omega arith) (omega arith) e (bears os m f))))
    (λ none. omega (arith, one_at_most (eqb o m))))
    (λ d. omega (arith, counts_none o m d, counted_once os m (λ a b la lb ea eb. omega (arith, h (suc a) (suc b) (omega arith) (omega arith) ea eb))))

-- marks below m + 1: those below m, and the mark m
mark_below : (m o : ℕ) → one (below (m + 1) o) ≤ one (eqb o m) + one (below m o)
mark_below m o =
    by_case o m
    (λ e. omega (arith, counts_one o m e, one_at_most (below (m + 1) o)))
    (λ d. by_order o m
    (λ l. omega (arith, one_below o m l, one_at_most (below (m + 1) o)))
    (λ l. omega (arith, none_below o (m + 1) (omega arith))))

module _ (marks : List ℕ) where
  places_most : (i n : ℕ) → ((q : ℕ) → q < n → count (λ o. eqb o (mark i q)) marks ≤ 1) → count (below (mark i n)) marks ≤ count (below (mark i 0)) marks + n
  places_most i zero h = omega arith
  places_most i (suc n) h =
      let e : mark i (suc n) ≡ mark i n + 1 = omega arith in
      rw e (omega (
        arith,
        places_most i n (λ q l. h q (omega arith)),
        h n (omega arith),
        within_sums (below (mark i n + 1)) (λ o. eqb o (mark i n)) (below (mark i n)) marks (λ b l. mark_below (mark i n) (get_or marks b 0)),
      ))

  lanes_most : (i : ℕ) (held : List ℕ)
      → ((j : ℕ) → j < length held → count (below (mark (i + j + 1) 0)) marks ≤ count (below (mark (i + j) 0)) marks + get_or held j 0)
      → count (below (mark (i + length held) 0)) marks ≤ count (below (mark i 0)) marks + sum held
  unfolding sum
  lanes_most i [] h = rw (add-zero i) (omega arith)
  lanes_most i (n ∷ held) h =
      let e : i + suc (length held) ≡ i + 1 + length held = omega arith in
      let first : count (below (mark (i + 1) 0)) marks ≤ count (below (mark i 0)) marks + n = rw (add-zero i) at (h 0 (omega arith)) in
      rw e (omega (
        arith,
        lanes_most (i + 1) held (λ j l. let z : i + suc j ≡ i + 1 + j = omega arith in rw z at (h (suc j) (omega arith))),
      ))

none_counted : (marks : List ℕ) → count (below 0) marks ≡ 0
unfolding count
none_counted [] = refl
none_counted (o ∷ os) = omega (arith, none_below o 0 (omega arith), none_counted os)

all_counted : (marks : List ℕ) → count (λ o. true) marks ≡ length marks
unfolding count one
all_counted [] = refl
all_counted (o ∷ os) = omega (arith, all_counted os)

module _ (marks held : List ℕ) (all : length marks ≡ blocks) (eight : length held ≡ lanes) (m : OneToOne marks held) where
  places : (i q : ℕ) → i < lanes → q < get_or held i 0 → find marks (mark i q) < blocks
  places i q hi hq =
      let b = m.some i q hi hq in
      omega (arith, b.1.block, borne marks b.0 (mark i q) (omega (arith, b.1.block)) b.1.marked)

  module _ (i : ℕ) (hi : i < lanes) where
    abbrev holding : ℕ
    holding = get_or held i 0

    once : (q : ℕ) → q < holding → count (λ o. eqb o (mark i q)) marks ≤ 1
    once q hq = counted_once marks (mark i q) (λ a b ha hb ea eb. m.single i q a b (at a (omega arith) ea) (at b (omega arith) eb))
      where
        at : (b : ℕ) → b < blocks → get_or marks b 0 ≡ mark i q → At marks held i q b
        at b h e = record { lane = hi; place = hq; block = h; marked = e }

    -- no block has a mark of the lane past what the lane holds
    none_past : (b : ℕ) → b < blocks → mark i holding ≤ get_or marks b 0 → get_or marks b 0 < mark (i + 1) 0 → ⊥
    none_past b h low high =
        let p = m.taken b h (λ e. omega arith) in
        let lane : p.0 ≡ i = omega (arith, p.2.marked, p.2.place, m.few p.0 p.2.lane, m.few i hi) in
        let place : p.1 < holding = rw lane at p.2.place in
        omega (arith, p.2.marked)

    up_to : (b : ℕ) → b < blocks → one (below (mark (i + 1) 0) (get_or marks b 0)) ≤ one (below (mark i holding) (get_or marks b 0)) + one (below 0 (get_or marks b 0))
    up_to b h =
        let o : ℕ = get_or marks b 0 in
        by_order o (mark i holding)
        (λ l. omega (arith, one_below o (mark i holding) l, one_at_most (below (mark (i + 1) 0) o)))
        (λ l. by_order o (mark (i + 1) 0) (λ k. absurd (none_past b h l k)) (λ k. omega (arith, none_below o (mark (i + 1) 0) k)))

    -- so the lane's blocks are no more than its places
    lane_most : count (below (mark (i + 1) 0)) marks ≤ count (below (mark i 0)) marks + holding
    lane_most =
        omega (
          arith,
          none_counted marks,
          places_most marks i holding once,
          within_sums (below (mark (i + 1) 0)) (below (mark i holding)) (below 0) marks (λ b h. up_to b (omega arith)),
        )

  free_or_below : (b : ℕ) → b < blocks → one true ≤ one (is_free (get_or marks b 0)) + one (below free (get_or marks b 0))
  free_or_below b h =
      let o : ℕ = get_or marks b 0 in
      by_case o free
      (λ e. omega (arith, one_at_most true, counts_one o free e))
      (λ d.
      let p = m.taken b h d in
      omega (arith, one_at_most true, one_below o free (omega (arith, p.2.marked, p.2.lane, p.2.place, m.few p.0 p.2.lane))))

  whole : count is_free marks + sum held ≡ blocks
  whole =
      omega (
        arith,
        none_counted marks,
        all_counted marks,
        fit marks held all eight m.few places,
        rw eight at (lanes_most marks 0 held (λ j h. rw (zero-add j) (lane_most j (omega arith)))),
        within_sums (λ o. true) is_free (below free) marks (λ b h. free_or_below b (omega arith)),
      )

  pub one_to_one_matches : matching marks held ≡ true
  one_to_one_matches = matching_from marks held all eight places m.few whole
