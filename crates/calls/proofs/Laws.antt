-- What the paper asks of all calls. The other files prove it of a state that is `Sound`; `is_sound` and `sound_is` say that this is what
-- the test `sound` finds.
use Prim.Native.Nat.{ℕ, ◌+◌, ◌/◌, ◌%◌, ◌≤◌, ◌<◌}
use mathlib.Core.Path.{◌≡◌, refl, sym, ap, subst, ◌∙◌}
use mathlib.Core.Bool.{Bool, true, false}
use mathlib.Core.List.{List, ◌++◌}
use mathlib.Core.Logic.{◌⊎◌, inl, inr, ◌↔◌}
use native.Mathlib.Omega.{arith}
use borrow.Author.Tests.{eq-eqb, ne_eqb}
use lib.Dec.{eqb}
use lib.ListN.{length, get_or}
use Rattle.octets.specs.Order.{first, numbers_of}
use Rattle.octets.specs.Output.{put, output_after}
use Rattle.octets.proofs.Order.{either}
use Rattle.marks.specs.Blocks.{free, mark, find}
use Rattle.marks.specs.Matching.{count}
use Rattle.marks.proofs.Finding.{by_case, never_both}
use Rattle.lane.specs.declared.Settings.{Settings}
use Rattle.lane.specs.declared.Lane.{Lane}
use Rattle.grouping.specs.declared.Added.{Added}
use Rattle.std.specs.Prelude.{Ok, Err}
use Rattle.refusal.specs.Refusal.{number}
use Rattle.refusal.specs.declared.Refusal.{Refusal}
use Rattle.packet.specs.declared.Unread as read
use Rattle.grouping.specs.declared.Refused.TheVariants.{Unread, Untaken}
use Rattle.grouping.specs.declared.Step.TheVariants.{Repeat, Stray, Hold, Unit}
use Rattle.lane.specs.Lane.{held}
use Rattle.grouping.specs.Grouping.{missing_before}
use Rattle.grouping.specs.Steps.{lane_after}
use Rattle.lane.proofs.Fine.{is_fine, held_most}
use Rattle.state.specs.declared.State.{State}
use Rattle.state.specs.State.{fresh_state, lane_at, sound, unsound}
use Rattle.intake.specs.Calls.{closing_refusal, packet_step}
use Rattle.intake.specs.After.{released_from, marks_after, pool_after, out_after, group_of, user_of, opening, closing, closing_out, taking, taking_pool, taking_out}
use Rattle.state.proofs.Soundness.{then_sound}
use Rattle.intake.proofs.Taken.{same_state}
use Rattle.state.specs.Clauses.{Shaped}
use Rattle.calls.specs.Groups.{group_in, Leaves, HeldPlace}
use Rattle.calls.specs.Order.{refusal_of, would_hold, packet_causes, packet_tests}
use Rattle.calls.specs.Room.{OverCap, OverSum, NoRoom, ToHold}
use Rattle.calls.proofs.Sound.{Sound, is_sound, sound_is, fresh, lane_fine}
use Rattle.calls.proofs.Marks.{just_its_blocks, released_free}
use Rattle.calls.proofs.Blocks.{free_or_held}
use Rattle.calls.proofs.Steps.{Stepped, strays, ends, stepped, pool_then}
use Rattle.calls.proofs.Order.{ordered}
use Rattle.calls.proofs.Room.{cap_exactly, sum_exactly, above_share, held_only}
use Rattle.calls.proofs.Calls.{closed_small, opening_sound, closing_sound, taking_sound}
use Rattle.calls.proofs.Groups.{opening_leaves, closing_leaves, taking_leaves, held_gathered, unit_fits}

-- eight lanes and 64 marks, which the test finds sound
abbrev Good : State → Type 0
Good s = Shaped s × (sound s ≡ true)

good : (s : State) → Sound s → Good s
good s h = (h.shape, sound_is s h)

-- ---- the fresh start
pub fresh_sound : Good fresh_state
fresh_sound = good fresh_state fresh

-- ---- A refusal returns its number and leaves state, pool and output untouched: of any state, sound or not
module _ (s : State) (i : ℕ) where
  module _ (p pool out : List ℕ) where
    abbrev pub Untouched : Type 0
    Untouched =
        ((taking s i p (length pool) (length out)).state ≡ s) × (taking_pool s i p (length out) pool ≡ pool) × (taking_out s i p pool out ≡ out)

    pub refused_leaves : (r : Refusal) → packet_step s i p (length pool) (length out) ≡ Err (Untaken r) → Untouched
    unfolding taking taking_pool taking_out lane_after marks_after pool_after out_after
    refused_leaves r e = rw e (sym (same_state s i), refl, refl)

    pub unread_leaves : (u : read.Unread) → packet_step s i p (length pool) (length out) ≡ Err (Unread u) → Untouched
    unfolding taking taking_pool taking_out lane_after marks_after pool_after out_after
    unread_leaves u e = rw e (sym (same_state s i), refl, refl)

    -- the answer is Repeat: nothing changes
    pub repeat_leaves : packet_step s i p (length pool) (length out) ≡ Ok Repeat → Untouched
    unfolding taking taking_pool taking_out lane_after marks_after pool_after out_after
    repeat_leaves e = rw e (sym (same_state s i), refl, refl)

  pub refused_opening_leaves : (settings : Settings) (octets : ℕ) → ((opening s i settings octets).refusal ≡ 0 → ⊥) → (opening s i settings octets).state ≡ s
  unfolding opening
  refused_opening_leaves settings octets h = simp (ne_eqb _ 0 h)

  pub refused_closing_leaves : (octets : ℕ) (out : List ℕ) → ((closing s i octets (length out)).refusal ≡ 0 → ⊥)
      → ((closing s i octets (length out)).state ≡ s) × (closing_out s i octets out ≡ out)
  unfolding closing closing_out output_after
  refused_closing_leaves octets out h = simp (ne_eqb _ 0 h) (refl, refl)

-- ---- Packet to a lane: 24, 11, reading, 12, 13, 14, 15, 16, 17, the repeat test, 18, 19, 27, 20
pub packet_order : (s : State) → Shaped s → (i : ℕ) (p : List ℕ) (octets room : ℕ) → refusal_of (packet_step s i p octets room) ≡ first 0 (numbers_of (packet_tests s i p octets room))
packet_order s shape i p octets room = ordered s shape i p octets room

-- 19 and 27 each have their cause: the lane's cap, or the sum over the lanes
module _ (s : State) (shape : Shaped s) (i : ℕ) (p : List ℕ) (octets room : ℕ) where
  abbrev number_given : ℕ
  number_given = refusal_of (packet_step s i p octets room)

  judged : unsound s octets ≡ false → number_given ≡ first 0 (numbers_of (packet_causes s.lanes i p room))
  judged u = packet_order s shape i p octets room ∙ simp u

  pub cap_refuses : unsound s octets ≡ false → (number_given ≡ 19) ↔ OverCap (lane_at s i) p
  cap_refuses u = rw (judged u) (cap_exactly s.lanes i p room)

  pub sum_refuses : unsound s octets ≡ false → (number_given ≡ 27) ↔ OverSum s.lanes i p
  sum_refuses u = rw (judged u) (sum_exactly s.lanes i p room shape.0)

  module _ (r : Refusal) (refused : NoRoom (number r)) (given : packet_step s i p octets room ≡ Err (Untaken r)) where
    passed : unsound s octets ≡ false
    unfolding packet_step
    passed = either (unsound s octets) (λ u. absurd (not_24 refused (ap refusal_of (sym given) ∙ simp u))) (λ u. u)
      where
        not_24 : NoRoom (number r) → number r ≡ 24 → ⊥
        not_24 (inl e) z = omega arith
        not_24 (inr e) z = omega arith

    found_sound : Sound s
    found_sound = is_sound s shape (then_sound s octets passed).0

    told : first 0 (numbers_of (packet_causes s.lanes i p room)) ≡ number r
    told = sym (judged passed) ∙ ap refusal_of given

    -- A last or unsegmented packet needs no block: 19 and 27 are given only for a packet that begins a group or adds to one
    pub only_held : ToHold (lane_at s i) p
    only_held = held_only s found_sound i p room (number r) refused told

    -- and a lane in its share isn't refused room
    pub within_share : would_hold (lane_at s i) p ≤ (lane_at s i).settings.share → ⊥
    within_share few = omega (arith, above_share s found_sound i p room (number r) refused told)

-- ---- missing = (count - last - 1) mod 16,384, or 0 for the first packet
module _ (l : Lane) (c : ℕ) where
  pub missing_first : l.packets ≡ 0 → missing_before l c ≡ 0
  unfolding missing_before
  missing_first e = simp (eq-eqb l.packets 0 e)

  pub missing_later : (l.packets ≡ 0 → ⊥) → l.last ≤ 16383 → c ≤ 16383 → ((missing_before l c + l.last + 1) % 16384 ≡ c) × (missing_before l c < 16384)
  unfolding missing_before
  missing_later d few small = simp (ne_eqb l.packets 0 d) (omega arith, omega arith)

module _ (s : State) (shape : Shaped s) (e : sound s ≡ true) where
  k : Sound s
  k = is_sound s shape e

  -- ---- every call gives a sound state, with which the next one can be made
  module _ (i octets : ℕ) where
    pub sound_opening : (settings : Settings) → Good (opening s i settings octets).state
    sound_opening settings = good _ (opening_sound s k i settings octets)

    pub sound_closing : (room : ℕ) → Good (closing s i octets room).state
    sound_closing room = good _ (closing_sound s k i octets room)

    pub sound_taking : (p : List ℕ) (room : ℕ) → Good (taking s i p octets room).state
    sound_taking p room = good _ (taking_sound s k i p octets room)

  -- ---- another lane's calls leave lane j, its tallies and its group
  module _ (i j : ℕ) (other : i ≡ j → ⊥) (small : j < 8) (pool : List ℕ) where
    pub others_opening : (settings : Settings) → Leaves j s pool (opening s i settings (length pool)).state pool
    others_opening settings = opening_leaves s k i j other small pool settings (length pool)

    pub others_closing : (room : ℕ) → Leaves j s pool (closing s i (length pool) room).state pool
    others_closing room = closing_leaves s k i j other small pool (length pool) room

    pub others_taking : (p : List ℕ) (room : ℕ) → Leaves j s pool (taking s i p (length pool) room).state (taking_pool s i p room pool)
    others_taking p room = taking_leaves s k i j other small pool p room

  module _ (i : ℕ) (p pool : List ℕ) where
    -- the group that goes on, and the user data, octet for octet
    abbrev joined_with : Bool → List ℕ
    joined_with on = group_of s.marks i (lane_at s i) on pool ++ user_of s i p

    -- ---- Only packets answered Held store octets: what was stored is what is gathered, n octets
    pub stored_is_gathered : (room : ℕ) (a : Added) (on : Bool) (n : ℕ) → packet_step s i p (length pool) room ≡ Ok (Hold a on n)
        → (group_in (taking s i p (length pool) room).state (taking_pool s i p room pool) i ≡ joined_with on) × (length (joined_with on) ≡ n)
    unfolding taking taking_pool marks_after pool_after
    stored_is_gathered room a on n h =
        let d : Stepped s i p (length pool) room (Ok (Hold a on n)) = subst (Stepped s i p (length pool) room) h (stepped s k i p (length pool) room) in
        rw h (held_gathered s k i p pool (pool_then s i p (length pool) room h (λ z. omega arith)) a on n d)

    -- ---- A unit is written at the front of the output: group and user data together, n octets, which fit
    pub unit_written : (out : List ℕ) (a : Added) (on : Bool) (n : ℕ) → packet_step s i p (length pool) (length out) ≡ Ok (Unit a on n)
        → (taking_out s i p pool out ≡ put out 0 (joined_with on)) × (length (joined_with on) ≡ n) × (n ≤ length out)
    unfolding taking_out out_after
    unit_written out a on n h =
        let d : Stepped s i p (length pool) (length out) (Ok (Unit a on n)) = subst (Stepped s i p (length pool) (length out)) h (stepped s k i p (length pool) (length out)) in
        let size : length pool ≡ 16384 = pool_then s i p (length pool) (length out) h (λ z. omega arith) in
        let fits = unit_fits s k i p pool size a on n d in
        rw h (refl, fits.0, fits.1)

  -- ---- no lane is above its cap
  pub within_cap : (i : ℕ) → held (lane_at s i) ≤ (lane_at s i).settings.cap
  within_cap i = (is_fine (lane_at s i) (lane_fine s k i)).within

  -- ---- each lane's blocks match its octets: it has a block for each place that it holds, and so many blocks
  pub own_blocks : (i : ℕ) → i < 8 → (count (λ o. eqb (o / 64) i) s.marks ≡ held (lane_at s i)) × ((q : ℕ) → q < held (lane_at s i) → find s.marks (mark i q) < 64)
  own_blocks i small = just_its_blocks s k i small

  -- no block is held twice: two places that are held at one block are one place of one lane
  pub one_lane : (i j q r : ℕ) → i < 8 → j < 8 → q < held (lane_at s i) → r < held (lane_at s j) → find s.marks (mark i q) ≡ find s.marks (mark j r)
      → (i ≡ j) × (q ≡ r)
  one_lane i j q r hi hj hq hr same =
      let first : q < 64 = omega (arith, (held_most (lane_at s i) (lane_fine s k i)).0) in
      let second : r < 64 = omega (arith, (held_most (lane_at s j) (lane_fine s k j)).0) in
      by_case (mark i q) (mark j r) (λ z. (omega arith, omega arith))
      (λ d. absurd (never_both s.marks (mark i q) (mark j r) d (omega (arith, k.shape.1, (just_its_blocks s k i hi).1 q hq)) same))

  -- and every block is free or at a place that is held
  pub no_other_block : (b : ℕ) → b < 64 → (get_or s.marks b 0 ≡ free) ⊎ HeldPlace s (get_or s.marks b 0)
  no_other_block b h = free_or_held s k b h

  -- ---- a lane's blocks are free after it is closed, and after a group is given up or ends and none is held anew
  abbrev Frees : ℕ → List ℕ → Type 0
  Frees i marks = (b q : ℕ) → b < 64 → q < 64 → get_or s.marks b 0 ≡ mark i q → get_or marks b 0 ≡ free

  frees : (i : ℕ) → i < 8 → Frees i (released_from s.marks i (lane_at s i))
  frees i small b q hb hq f = released_free s k i small b hb (omega arith)

  pub closing_frees : (i octets room : ℕ) → closing_refusal s i octets room ≡ 0 → Frees i (closing s i octets room).state.marks
  unfolding closing
  closing_frees i octets room z = simp (eq-eqb _ _ z) (frees i (closed_small s k i octets room z))

  module _ (i : ℕ) (p : List ℕ) (octets room : ℕ) where
    of_stray : (a : Added) → Stepped s i p octets room (Ok (Stray a)) → i < 8
    of_stray a (strays c f) = f.small

    of_unit : (a : Added) (on : Bool) (n : ℕ) → Stepped s i p octets room (Ok (Unit a on n)) → i < 8
    of_unit a on n (ends c o m f e h) = f.small

    pub stray_frees : (a : Added) → packet_step s i p octets room ≡ Ok (Stray a) → Frees i (taking s i p octets room).state.marks
    unfolding taking marks_after
    stray_frees a z = rw z (frees i (of_stray a (subst (Stepped s i p octets room) z (stepped s k i p octets room))))

    pub unit_frees : (a : Added) (on : Bool) (n : ℕ) → packet_step s i p octets room ≡ Ok (Unit a on n) → Frees i (taking s i p octets room).state.marks
    unfolding taking marks_after
    unit_frees a on n z = rw z (frees i (of_unit a on n (subst (Stepped s i p octets room) z (stepped s k i p octets room))))
