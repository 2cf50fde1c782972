-- What is in the pool: a lane's calls leave every other lane's group, and what they store is what is gathered later. It rests on the marks of the
-- state after the call, which match too, so every octet of every group has its own place.
use Prim.Native.Nat.{ℕ, ◌+◌, ◌-◌, ◌*◌, ◌≤◌, ◌<◌}
use mathlib.Core.Path.{◌≡◌, refl, sym, ap, ◌∙◌}
use mathlib.Core.Bool.{Bool, true, false, cond}
use mathlib.Core.List.{List, ◌++◌, map}
use native.Mathlib.Omega.{arith}
use lib.ListN.{length, get_or, set, length-append, length-map}
use lib.Seq.{get_or-set_same, get_or-set_other}
use Rattle.octets.proofs.Order.{either}
use Rattle.marks.specs.Blocks.{blocks_for}
use Rattle.pool.specs.Octets.{stored, gathered}
use Rattle.pool.proofs.InBlocks.{stored_length}
use Rattle.pool.proofs.Apart.{Has, stored_for_another, stored_gathered, gathered_length, freed_gathered, granted_gathered, granted_gathered_own, matching_has}
use Rattle.lane.specs.declared.Settings.{Settings}
use Rattle.lane.specs.declared.Lane.{Lane}
use Rattle.lane.proofs.Fine.{held_most}
use Rattle.grouping.specs.declared.Added.{Added}
use Rattle.grouping.specs.Steps.{Outcome}
use Rattle.std.specs.Prelude.{Ok, Err}
use Rattle.grouping.specs.declared.Step.TheVariants.{Repeat, Stray, Hold, Unit}
use Rattle.lane.specs.Lane.{closed, held}
use Rattle.grouping.specs.Steps.{lane_after}
use Rattle.grouping.proofs.Planned.{of_either}
use Rattle.state.specs.declared.State.{State}
use Rattle.state.specs.State.{lane_at}
use Rattle.state.proofs.Clauses.{held_at}
use Rattle.intake.specs.Calls.{opening_refusal, closing_refusal, packet_step}
use Rattle.intake.specs.After.{released_from, grown, marks_after, pool_after, group_of, user_of, answered, opening, closing, taking, taking_pool}
use Rattle.calls.specs.Groups.{group_in, Leaves}
use Rattle.calls.proofs.Sound.{Sound, lane_fine, unless}
use Rattle.calls.proofs.Marks.{kept, blocks_kept, grows}
use Rattle.calls.proofs.Steps.{Stepped, refuses, unread, repeats, strays, ends, holds, stepped, group_grows, after_step}

-- every octet of a group has its place
pub has_places : (s : State) → Sound s → (j : ℕ) → j < 8 → Has s.marks j (lane_at s j).octets
has_places s k j small =
    matching_has s.marks (map held s.lanes) k.shape.1 (length-map s.lanes held ∙ k.shape.0) k.marks j small (lane_at s j).octets
    (rw (held_at s.lanes j) (omega arith))

in_blocks : (n : ℕ) → n ≤ blocks_for n * 256
unfolding blocks_for
in_blocks n = omega arith

-- ---- another lane's group by the marks after a call, in the same pool
module _ (s : State) (i j n : ℕ) (other : i ≡ j → ⊥) (small : j < 8) (fits : n ≤ 16384) (pool : List ℕ) where
  abbrev Same : List ℕ → Type 0
  Same marks = gathered marks j pool 0 n ≡ gathered s.marks j pool 0 n

  released_other : Same (released_from s.marks i (lane_at s i))
  unfolding released_from
  released_other = of_either Same (lane_at s i).grouped (λ e. freed_gathered s.marks i j other small pool n fits) (λ e. refl)

  grown_other : (on : Bool) (m : ℕ) → blocks_kept s.marks i (lane_at s i) on ≤ blocks_for m → blocks_for m ≤ 64 → Same (grown s.marks i (lane_at s i) on m)
  grown_other on m more few =
      let before : ℕ = blocks_kept s.marks i (lane_at s i) on in
      rw (grows s.marks i (lane_at s i) on m)
      (granted_gathered (kept s.marks i (lane_at s i) on) i before (blocks_for m - before) (omega arith) j other small pool n fits
      ∙ of_either Same on (λ e. refl) (λ e. released_other))

module _ (s : State) (k : Sound s) (i j : ℕ) (other : i ≡ j → ⊥) (small : j < 8) (pool : List ℕ) where
  lane_other : (l : Lane) → get_or (set s.lanes i l) j closed ≡ lane_at s j
  lane_other l = get_or-set_other s.lanes i j l closed (λ e. other (sym e))

  fits : (lane_at s j).octets ≤ 16384
  fits = (held_most (lane_at s j) (lane_fine s k j)).1

  stays : Leaves j s pool s pool
  stays = record { lane = refl; group = refl }

  -- a state in which lane i is another and the marks give lane j's octets in the later pool
  leaves : (l : Lane) (marks later : List ℕ) → gathered marks j later 0 (lane_at s j).octets ≡ group_in s pool j
      → Leaves j s pool (record { lanes = set s.lanes i l; marks = marks }) later
  leaves l marks later e = record { lane = lane_other l; group = rw (lane_other l) e }

  pub opening_leaves : (settings : Settings) (octets : ℕ) → Leaves j s pool (opening s i settings octets).state pool
  unfolding opening
  opening_leaves settings octets = unless (λ (t : State). Leaves j s pool t pool) (opening_refusal s i settings octets) stays (λ e. leaves _ s.marks pool refl)

  pub closing_leaves : (octets room : ℕ) → Leaves j s pool (closing s i octets room).state pool
  unfolding closing
  closing_leaves octets room =
      unless (λ (t : State). Leaves j s pool t pool) (closing_refusal s i octets room) stays (λ e. leaves _ _ pool (released_other s i j (lane_at s j).octets other small fits pool))

  after_leaves : (p : List ℕ) (octets room : ℕ) {d : Outcome} → Stepped s i p octets room d
      → Leaves j s pool (answered s i d).state (pool_after s.marks i (lane_at s i) d (user_of s i p) pool)
  unfolding lane_after marks_after pool_after
  after_leaves p octets room (refuses n h) = leaves _ s.marks pool refl
  after_leaves p octets room (unread u) = leaves _ s.marks pool refl
  after_leaves p octets room repeats = leaves _ s.marks pool refl
  after_leaves p octets room (strays a f) = leaves _ _ pool (released_other s i j (lane_at s j).octets other small fits pool)
  after_leaves p octets room (ends a on n f e h) = leaves _ _ pool (released_other s i j (lane_at s j).octets other small fits pool)
  after_leaves p octets room (holds a on n f e) =
      let g = group_grows s k i a on n (length (user_of s i p)) f e in
      let marks : List ℕ = grown s.marks i (lane_at s i) on n in
      let has : Has marks j (lane_at s j).octets = rw (lane_other (lane_after (lane_at s i) (Ok (Hold a on n)))) at (has_places _ (after_step s k i p octets room (holds a on n f e)) j small) in
      leaves _ marks _
      (stored_for_another marks j i pool (cond on (lane_at s i).octets 0) (user_of s i p) (lane_at s j).octets (λ z. other (sym z)) fits
      (omega (arith, (held_most (lane_after (lane_at s i) (Ok (Hold a on n))) f.good).1)) has
      ∙ grown_other s i j (lane_at s j).octets other small fits pool on n g.0 g.1)

  pub taking_leaves : (p : List ℕ) (room : ℕ) → Leaves j s pool (taking s i p (length pool) room).state (taking_pool s i p room pool)
  unfolding taking taking_pool
  taking_leaves p room = after_leaves p (length pool) room (stepped s k i p (length pool) room)

-- ---- the lane's own group
module _ (s : State) (k : Sound s) (i : ℕ) (p : List ℕ) where
  own_kept : (on : Bool) (n : ℕ) → i < 8 → blocks_kept s.marks i (lane_at s i) on ≤ blocks_for n → blocks_for n ≤ 64 → (pool : List ℕ)
      → gathered (grown s.marks i (lane_at s i) on n) i pool 0 (cond on (lane_at s i).octets 0) ≡ group_of s.marks i (lane_at s i) on pool
  unfolding grown group_of gathered
  own_kept true n small more few pool =
      granted_gathered_own s.marks i (held (lane_at s i)) (blocks_for n - held (lane_at s i)) (omega arith) small pool (lane_at s i).octets (in_blocks (lane_at s i).octets)
  own_kept false n small more few pool = refl

  module _ (pool : List ℕ) (size : length pool ≡ 16384) (a : Added) (on : Bool) (n : ℕ) where
    abbrev marks : List ℕ
    marks = grown s.marks i (lane_at s i) on n

    abbrev user : List ℕ
    user = user_of s i p

    -- the octets of the group that goes on
    abbrev start : ℕ
    start = cond on (lane_at s i).octets 0

    abbrev joined_with : List ℕ
    joined_with = group_of s.marks i (lane_at s i) on pool ++ user

    group_length : i < 8 → length (group_of s.marks i (lane_at s i) on pool) ≡ start
    unfolding group_of
    group_length small =
        either on (λ e. simp e (gathered_length s.marks k.shape.1 i pool (lane_at s i).octets size (has_places s k i small))) (λ e. simp e)

    joined_length : i < 8 → n ≡ start + length user → length joined_with ≡ n
    joined_length small e = length-append (group_of s.marks i (lane_at s i) on pool) user ∙ omega (arith, group_length small, e)

    -- what was stored is what is gathered, all of it
    pub held_gathered : {octets room : ℕ} → Stepped s i p octets room (Ok (Hold a on n))
        → (group_in (answered s i (Ok (Hold a on n))).state (stored marks i pool start user) i ≡ joined_with) × (length joined_with ≡ n)
    unfolding lane_after marks_after
    held_gathered {octets} {room} (holds a on n f e) =
        let next : Sound (answered s i (Ok (Hold a on n))).state = after_step s k i p octets room (holds a on n f e) in
        let here : lane_at (answered s i (Ok (Hold a on n))).state i ≡ lane_after (lane_at s i) (Ok (Hold a on n)) =
        get_or-set_same s.lanes i (lane_after (lane_at s i) (Ok (Hold a on n))) closed (omega (arith, k.shape.0, f.small)) in
        let has : Has marks i n = rw here at (has_places _ next i f.small) in
        let g = group_grows s k i a on n (length user) f e in (
          rw here
              (ap (λ (m : ℕ). gathered marks i (stored marks i pool start user) 0 m) e
              ∙ stored_gathered marks next.shape.1 i pool start user size (omega (arith, (held_most (lane_after (lane_at s i) (Ok (Hold a on n))) f.good).1)) (rw (← e) has)
              ∙ ap (λ (g : List ℕ). g ++ user) (own_kept on n f.small g.0 g.1 pool)),
          joined_length f.small e,
        )

    -- a unit has the octets that are told, and they fit
    pub unit_fits : {octets room : ℕ} → Stepped s i p octets room (Ok (Unit a on n)) → (length joined_with ≡ n) × (n ≤ room)
    unit_fits (ends a on n f e h) = (joined_length f.small e, h)

-- the pool stays as long as it is
pub pool_length : (s : State) (i : ℕ) (p : List ℕ) (room : ℕ) (pool : List ℕ) → length (taking_pool s i p room pool) ≡ length pool
unfolding taking_pool pool_after
pool_length s i p room pool = of_step (packet_step s i p (length pool) room)
  where
    of_step : (d : Outcome) → length (pool_after s.marks i (lane_at s i) d (user_of s i p) pool) ≡ length pool
    of_step (Err r) = refl
    of_step (Ok Repeat) = refl
    of_step (Ok (Stray a)) = refl
    of_step (Ok (Hold a on n)) = stored_length (grown s.marks i (lane_at s i) on n) i pool (cond on (lane_at s i).octets 0) (user_of s i p)
    of_step (Ok (Unit a on n)) = refl
