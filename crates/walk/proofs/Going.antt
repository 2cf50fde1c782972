-- What carries every loop over a run of packets: where the loop stands, the walk over all octets is the walk over the rest.
use Prim.Native.Nat.{ℕ, zero, suc, ◌+◌, ◌-◌, ◌≤◌, ◌<◌}
use mathlib.Core.Path.{◌≡◌, refl, sym, ap, ◌∙◌}
use mathlib.Core.List.{List, [], ◌∷◌}
use native.Mathlib.Nat.{sub-zero, zero-add}
use native.Mathlib.Omega.{arith}
use borrow.Author.Tests.{eq-eqb, ne_eqb}
use lib.ListN.{length, drop, length-drop}
use Rattle.std.specs.Prelude.{None, Some}
use Rattle.refusal.specs.Refusal.{number}
use Rattle.refusal.proofs.Named.{of_its_number}
use Rattle.packet.specs.declared.Unread.{Unread}
use Rattle.reading.specs.Reading.{refusal, place as place_in}
use Rattle.reading.proofs.Within.{within}
use Rattle.walk.specs.Walk.{next, places_from, end_from, places, end, stop, stop_place, stopped, walked}
use Rattle.walk.specs.declared.Walked.{Walked}
use Rattle.walk.proofs.Looked.{past_end}

-- a loop over s stands at index at, with n packets behind it
pub record Going (s : List ℕ) (at n : ℕ) : Type 0 where
  pub behind : n ≤ at
  pub inside : at ≤ length s
  pub same_end : end s ≡ end_from (length s - n) s at
  pub same_count : length (places s) ≡ n + length (places_from (length s - n) s at)

-- a turn that reads a packet at index at and goes on at index m
pub record Turn (s : List ℕ) (at n m : ℕ) : Type 0 where
  pub rises : at < m
  pub within : m ≤ length s
  pub going : Going s m (n + 1)
  pub place : places_from (length s - n) s at ≡ at ∷ places_from (length s - (n + 1)) s m

-- the walk stops at index at after n packets, with k and its place q
pub record Stopped (s : List ℕ) (at n k q : ℕ) : Type 0 where
  pub end_here : end s ≡ at
  pub all_counted : length (places s) ≡ n
  pub stop_here : stop s ≡ k
  pub place_here : stop_place s ≡ q
  pub no_more : places_from (length s - n) s at ≡ []

module _ (s : List ℕ) where
  pub going_at_start : Going s 0 0
  unfolding end places
  going_at_start = record { behind = omega arith; inside = omega arith; same_end = rw sub-zero; same_count = rw (sub-zero, zero-add) }

  -- a packet that is read has an octet at least, and lies within the octets
  pub moves : (at : ℕ) → at ≤ length s → refusal (drop at s) ≡ 0 → (at < next s at) × (next s at ≤ length s)
  moves at h e = omega (arith, within (drop at s) e, length-drop at s)

  module _ (at n : ℕ) (g : Going s at n) where
    -- one packet more is read
    module _ (e : refusal (drop at s) ≡ 0) where
      moved : (at < next s at) × (next s at ≤ length s)
      moved = moves at g.inside e

      turn : length s - n ≡ suc (length s - (n + 1))
      turn = omega (arith, moved, g.behind)

      pub place : places_from (length s - n) s at ≡ at ∷ places_from (length s - (n + 1)) s (next s at)
      unfolding places_from
      place = rw turn (simp (eq-eqb _ _ e))

      pub goes_on_lem : Going s (next s at) (n + 1)
      unfolding end_from
      goes_on_lem =
          let m = moved in
          record {
            behind = omega (arith, g.behind);
            inside = m.1;
            same_end = g.same_end ∙ rw turn (simp (eq-eqb _ _ e));
            same_count = omega (arith, g.same_count, ap length place);
          }

      -- the turn as code has it, with m for the next index that was found
      pub turned : {m : ℕ} → m ≡ next s at → Turn s at n m
      turned q = rw q (record { rises = moved.0; within = moved.1; going = goes_on_lem; place = place })

    -- no packet more is read
    module _ (u : refusal (drop at s) ≡ 0 → ⊥) where
      no_place : (most : ℕ) → places_from most s at ≡ []
      unfolding places_from
      no_place zero = refl
      no_place (suc most) = simp (ne_eqb _ _ u)

      no_end : (most : ℕ) → end_from most s at ≡ at
      unfolding end_from
      no_end zero = refl
      no_end (suc most) = simp (ne_eqb _ _ u)

      here : end s ≡ at
      here = g.same_end ∙ no_end _

      stopped_by : {k q : ℕ} → stop s ≡ k → stop_place s ≡ q → Stopped s at n k q
      stopped_by e f = record {
        end_here = here;
        all_counted = omega (arith, g.same_count, ap length (no_place (length s - n)));
        stop_here = e;
        place_here = f;
        no_more = no_place _;
      }

      pub at_refusal : at < length s → {k q : ℕ} → k ≡ refusal (drop at s) → q ≡ place_in (drop at s) → Stopped s at n k q
      unfolding stop stop_place
      at_refusal h number place =
          let more = ne_eqb at (length s) (λ e. omega arith) in
          stopped_by (rw here (simp more (sym number))) (rw here (simp more (sym place)))

    pub at_end : length s ≤ at → Stopped s at n 0 0
    unfolding stop stop_place
    at_end h =
        let u : refusal (drop at s) ≡ 0 → ⊥ = λ e. omega (arith, past_end s at h) in
        let all = eq-eqb at (length s) (omega (arith, g.inside)) in
        stopped_by u (rw (here u) (simp all)) (rw (here u) (simp all))

  -- what the walk tells where it stops
  module _ {at n : ℕ} where
    pub walked_to_refusal : at < length s → (u : Unread) → Stopped s at n (number u.refusal) u.place → ◌≡◌ {A = Walked} (record { at = at; packets = n; stopped = Some u }) (walked s)
    unfolding walked stopped
    walked_to_refusal h u e = rw (e.end_here, e.all_counted, e.stop_here, e.place_here, of_its_number u.refusal) (simp (ne_eqb at (length s) (λ z. omega arith)))

    pub walked_to_end : length s ≤ at → at ≤ length s → Stopped s at n 0 0 → ◌≡◌ {A = Walked} (record { at = at; packets = n; stopped = None }) (walked s)
    unfolding walked stopped
    walked_to_end h k e = rw (e.end_here, e.all_counted) (simp (eq-eqb at (length s) (omega arith)))
