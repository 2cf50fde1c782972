-- 19 and 27 are given exactly for their causes: the order is followed test by test, and what is known at the end is the cause; with the cause, the order computes.
use Prim.Native.Nat.{ℕ, ◌+◌, ◌≤◌, ◌<◌, max}
use mathlib.Core.Path.{◌≡◌, refl, sym, ap, ◌∙◌}
use mathlib.Core.Bool.{true, false, not, ◌&&◌, true≢false}
use mathlib.Core.List.{List}
use mathlib.Core.Logic.{◌⊎◌, inl, inr, ◌↔◌}
use native.Mathlib.Omega.{arith}
use borrow.Author.Tests.{eqb-true, ltb-true, ltb-false, leb-false, lt-ltb, le-ltb, lt-leb, not-true, not-false}
use lib.Dec.{eqb, ltb, leb}
use lib.ListN.{length, get_or, set}
use Rattle.octets.specs.Order.{first, numbers_of}
use Rattle.octets.proofs.Order.{either, both}
use Rattle.packet.specs.Space.{flags, count}
use Rattle.record.specs.Record.{most_packets}
use Rattle.marks.specs.Blocks.{blocks, blocks_for}
use Rattle.lane.specs.declared.Lane.{Lane}
use Rattle.lane.specs.Lane.{closed, holding}
use Rattle.lane.proofs.Fine.{none_held, is_fine}
use Rattle.grouping.specs.Packets.{terms_of, fault}
use Rattle.grouping.specs.Grouping.{repeats, goes_on}
use Rattle.grouping.proofs.Accepted.{fault_most}
use Rattle.grouping.proofs.Planned.{of_either}
use Rattle.state.specs.declared.State.{State}
use Rattle.state.specs.State.{lane_at, total, within}
use Rattle.state.proofs.Soundness.{opened_small}
use Rattle.state.proofs.Within.{others, need_open, total_set, share_fits}
use Rattle.calls.specs.Order.{would_group, would_hold, lanes_with, would_write, packet_causes}
use Rattle.calls.specs.Room.{NothingBefore, OverCap, OverSum, NoRoom, ToHold}
use Rattle.calls.proofs.Order.{Last, faults}
use Rattle.calls.proofs.Sound.{Sound, lane_fine}

-- a packet that would have its lane hold a group of at least one octet is to be held
to_hold : (l : Lane) (p : List ℕ) → (would_group l p ≡ 0 → ⊥) → ToHold l p
unfolding would_group
to_hold l p some =
    either (eqb (flags p) 1) (λ e. inl (eqb-true (flags p) 1 e))
    (λ e. either (eqb (flags p) 0 && goes_on l (flags p) (count p))
    (λ f. let two = both (eqb (flags p) 0) (goes_on l (flags p) (count p)) f in inr (eqb-true (flags p) 0 two.0, two.1))
    (λ f. absurd (some (simp (e, f)))))

module _ (ls : List Lane) (i : ℕ) (p : List ℕ) (room : ℕ) where
  abbrev own : Lane
  own = get_or ls i closed

  abbrev h : ℕ
  h = would_hold own p

  abbrev number : ℕ
  number = first 0 (numbers_of (packet_causes ls i p room))

  -- 27 as the order has it
  abbrev Crowded : Type 0
  Crowded = NothingBefore own p × (h ≤ own.settings.cap) × (within (lanes_with ls i p) ≡ false)

  -- ---- what is known where the order gives a number
  abbrev Why : ℕ → Type 0
  Why n = (n ≡ 19 → OverCap own p) × (n ≡ 27 → Crowded)

  -- no test but theirs gives 19 or 27: the others' numbers are at most 18, or 20
  other : (n : ℕ) → (n ≤ 18) ⊎ (n ≡ 20) → Why n
  other n (inl h) = (λ z. absurd (omega arith), λ z. absurd (omega arith))
  other n (inr h) = (λ z. absurd (omega arith), λ z. absurd (omega arith))

  pub why : Why number
  why =
      of_either Why (not own.opened) (λ a. other 11 (inl (omega arith)))
      (λ a. rw (faults (terms_of own) p _)
      (of_either Why (not (eqb (fault (terms_of own) p) 0))
      (λ b. other (fault (terms_of own) p) (inl (omega (arith, fault_most (terms_of own) p))))
      (λ b. of_either Why (repeats own (count p)) (λ c. other 0 (inl (omega arith)))
      (λ c. of_either Why (leb most_packets own.packets) (λ d. other 18 (inl (omega arith)))
      (λ d.
      let asks : NothingBefore own p = (not-false _ a, eqb-true _ _ (not-false _ b), c, leb-false most_packets own.packets d) in
      of_either Why (ltb own.settings.cap h) (λ e. (λ z. (asks, ltb-true own.settings.cap h e), λ z. absurd (omega arith)))
      (λ e. of_either Why (not (within (lanes_with ls i p))) (λ f. (λ z. absurd (omega arith), λ z. (asks, ltb-false own.settings.cap h e, not-true _ f)))
      (λ f. of_either Why (ltb room (would_write own p)) (λ g. other 20 (inr refl)) (λ g. other 0 (inl (omega arith))))))))))

  -- ---- and the other way round: with nothing before them, the last three tests are asked
  asked : NothingBefore own p → number ≡ Last ls i room (would_group own p) (would_write own p)
  asked (o, f, r, k) = simp o (rw (faults (terms_of own) p _) (simp (f, r, lt-leb most_packets own.packets k)))

  over_cap : OverCap own p → number ≡ 19
  over_cap (asks, over) = asked asks ∙ simp (lt-ltb own.settings.cap h over)

  crowded : Crowded → number ≡ 27
  crowded (asks, few, full) = asked asks ∙ simp (le-ltb own.settings.cap h few, full)

  pub cap_exactly : (number ≡ 19) ↔ OverCap own p
  cap_exactly = (why.0, over_cap)

  -- ---- the lanes are not within the pool where the sum exceeds 64
  module _ (eight : length ls ≡ 8) where
    sum_is : own.opened ≡ true → total (lanes_with ls i p) ≡ max h own.settings.share + total (set ls i closed)
    unfolding others
    sum_is o =
        let small : i < 8 = opened_small ls eight i o in
        omega (arith, eight, total_set ls i (holding own (would_group own p)) (omega (arith, eight)), need_open (holding own (would_group own p)) o)

    over_sum : Crowded → OverSum ls i p
    unfolding within
    over_sum (asks, few, full) = (asks, few, omega (arith, sum_is asks.0, leb-false (total (lanes_with ls i p)) blocks full))

    crowds : OverSum ls i p → Crowded
    unfolding within
    crowds (asks, few, over) = (asks, few, lt-leb (total (lanes_with ls i p)) blocks (omega (arith, sum_is asks.0)))

    pub sum_exactly : (number ≡ 27) ↔ OverSum ls i p
    sum_exactly = (λ z. over_sum (why.1 z), λ over. crowded (crowds over))

-- ---- in a sound state
module _ (s : State) (k : Sound s) (i : ℕ) (p : List ℕ) where
  abbrev l : Lane
  l = lane_at s i

  -- a lane that would hold no more than its share has the room
  pub room_in_share : l.opened ≡ true → would_hold l p ≤ l.settings.share → (would_hold l p ≤ l.settings.cap) × (within (lanes_with s.lanes i p) ≡ true)
  room_in_share o few = (omega (arith, ((is_fine l (lane_fine s k i)).legal o).share), share_fits s.lanes i o (would_group l p) few k.room)

  module _ (room n : ℕ) (refused : NoRoom n) (given : number s.lanes i p room ≡ n) where
    -- so one that is refused room would hold more, and something
    pub above_share : l.settings.share < would_hold l p
    above_share = of_number refused
      where
        of_number : NoRoom n → l.settings.share < would_hold l p
        of_number (inl e) = let (asks, over) = (why s.lanes i p room).0 (given ∙ e) in omega (arith, ((is_fine l (lane_fine s k i)).legal asks.0).share)
        of_number (inr e) =
            let (asks, few, full) = (why s.lanes i p room).1 (given ∙ e) in
            either (ltb l.settings.share (would_hold l p)) (λ z. ltb-true _ _ z)
            (λ z. absurd (true≢false (sym (room_in_share asks.0 (ltb-false _ _ z)).1 ∙ full)))

    pub held_only : ToHold l p
    held_only = to_hold l p (λ z. let none : would_hold l p ≡ 0 = ap blocks_for z ∙ none_held in omega (arith, above_share))
