-- The clauses on one lane are what makes it fine, both ways. Those on blocks say that places and blocks are one to one, as the test of the marks does;
-- that they go beyond lane 7 adds nothing, since no such lane holds a place.
use Prim.Native.Nat.{ℕ, suc, ◌≤◌, ◌<◌}
use mathlib.Core.Path.{◌≡◌, refl, sym, ◌∙◌}
use mathlib.Core.Bool.{true, ◌&&◌}
use mathlib.Core.List.{List, [], ◌∷◌, map}
use native.Mathlib.Omega.{arith}
use lib.ListN.{length, get_or, length-map, get_or-map, get_or-eq_default}
use Rattle.octets.proofs.Order.{both}
use Rattle.marks.specs.Blocks.{blocks, blocks_for, lanes, mark}
use Rattle.marks.specs.Matching.{matching}
use Rattle.marks.proofs.Finding.{by_order}
use Rattle.marks.proofs.Once.{At, OneToOne, one_to_one, one_to_one_matches}
use Rattle.lane.specs.declared.Lane.{Lane}
use Rattle.lane.specs.Lane.{closed, held, tallies_possible, fine}
use Rattle.lane.proofs.Fine.{is_legal, legal_is, are_possible, possible_are, Fine, is_fine, fine_is, none_held, held_most}
use Rattle.state.specs.declared.State.{State}
use Rattle.state.specs.State.{lane_at, within, every, sound}
use Rattle.state.specs.Clauses.{Shaped, Holds, IsSound, SoundMeansSound}
use Rattle.state.proofs.Soundness.{lane_fine}
use Rattle.state.proofs.Within.{most, by_sum}

-- ---- lanes by their number
every_fine : (ls : List Lane) → ((j : ℕ) → fine (get_or ls j closed) ≡ true) → every fine ls ≡ true
unfolding every
every_fine [] h = refl
every_fine (l ∷ ls) h = simp (h 0, every_fine ls (λ j. h (suc j)))

pub held_at : (ls : List Lane) (j : ℕ) → get_or (map held ls) j 0 ≡ held (get_or ls j closed)
unfolding blocks_for
held_at ls j = get_or-map held ls j closed

module _ (s : State) (shape : Shaped s) where
  abbrev holding : List ℕ
  holding = map held s.lanes

  eight : length holding ≡ lanes
  eight = length-map s.lanes held ∙ shape.0

  -- a lane that holds something is one of eight
  is_lane : (i q : ℕ) → q < held (lane_at s i) → i < lanes
  is_lane i q h =
      by_order i lanes (λ l. l)
      (λ l. absurd (omega (arith, none_held, rw (get_or-eq_default s.lanes closed {n = i} (omega (arith, shape.0))) at h)))

  -- that a lane holds a block, as it is said of the marks
  module _ (i q b : ℕ) where
    at : Holds s i q b → At s.marks holding i q b
    at h = record { lane = is_lane i q h.reached; place = rw (held_at s.lanes i) h.reached; block = h.block; marked = h.marked }

    holds : At s.marks holding i q b → Holds s i q b
    holds h = record { reached = rw (held_at s.lanes i) at h.place; block = h.block; marked = h.marked }

  -- ---- the test tells the clauses
  module _ (e : sound s ≡ true) where
    parts : (within s.lanes ≡ true) × (matching s.marks holding ≡ true)
    unfolding sound
    parts =
        let p = both (every fine s.lanes && within s.lanes) (matching s.marks holding) e in
        ((both (every fine s.lanes) (within s.lanes) p.0).1, p.1)

    few : (i : ℕ) → held (lane_at s i) ≤ blocks
    few i = (held_most (lane_at s i) (lane_fine s e i)).0

    clauses : IsSound s
    unfolding tallies_possible
    clauses =
        let is : (i : ℕ) → Fine (lane_at s i) = λ i. is_fine (lane_at s i) (lane_fine s e i) in
        let m : OneToOne s.marks holding = one_to_one s.marks holding shape.1 eight parts.1 in
        record {
          legal = λ i o. legal_is (lane_at s i).settings ((is i).legal o);
          sum = omega (arith, most s.lanes parts.0);
          match = λ i q h. let p = m.some i q (is_lane i q h) (rw (held_at s.lanes i) h) in (p.0, holds i q p.0 p.1);
          single = λ i q a b x y. m.single _ _ a b (at _ _ a x) (at _ _ b y);
          taken = λ b h d. let p = m.taken b h d in (p.0, p.1, holds p.0 p.1 b p.2);
          group = λ i. (is i).nothing;
          cap = λ i. omega (arith, (is i).within);
          once = λ b i q j r x y.
              let same : mark i q ≡ mark j r = sym x.marked ∙ y.marked in
              (omega (arith, few i, few j, x.reached, y.reached), omega (arith, few i, few j, x.reached, y.reached));
          shut = λ i o. ((is i).shut o, (is i).nothing ((is i).shut o));
          last = λ i. omega (arith, (is i).last);
          tallies = λ i. possible_are (lane_at s i) (is i).tallies;
        }

  -- ---- and whoever meets the clauses passes the test
  module _ (k : IsSound s) where
    each_fine : (i : ℕ) → fine (lane_at s i) ≡ true
    unfolding tallies_possible
    each_fine i =
        fine_is (lane_at s i) (record {
          legal = λ o. is_legal (lane_at s i).settings (k.legal i o);
          within = omega (arith, k.cap i);
          nothing = k.group i;
          shut = λ o. (k.shut i o).0;
          last = omega (arith, k.last i);
          tallies = are_possible (lane_at s i) (k.tallies i);
        })

    matches : matching s.marks holding ≡ true
    matches =
        one_to_one_matches s.marks holding shape.1 eight (record {
          few = λ i h. rw (held_at s.lanes i) (held_most (lane_at s i) (each_fine i)).0;
          some = λ i q hi hq. let p = k.match i q (rw (held_at s.lanes i) at hq) in (p.0, at i q p.0 p.1);
          single = λ i q a b x y. k.single i q a b (holds i q a x) (holds i q b y);
          taken = λ b h d. let p = k.taken b h d in (p.0, p.1, at p.0 p.1 b p.2);
        })

    passes : sound s ≡ true
    unfolding sound
    passes = simp (every_fine s.lanes each_fine, by_sum s.lanes (omega (arith, k.sum)), matches)

pub sound_means_sound : SoundMeansSound
sound_means_sound s shape = (clauses s shape, passes s shape)
