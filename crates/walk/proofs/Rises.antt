-- The walk's places rise and end within the input, and the walk stops nowhere else than at the end or at a refusal. Each packet that is
-- read has an octet at least and lies within the octets, so an induction over the packets carries both.
use Prim.Native.Nat.{ℕ, zero, suc, ◌+◌, ◌≤◌, ◌<◌}
use mathlib.Core.Path.{◌≡◌, refl}
use mathlib.Core.List.{List, [], ◌∷◌}
use mathlib.Core.Bool.{Bool, true, false, cond}
use native.Mathlib.Omega.{arith}
use borrow.Author.Tests.{eqb-true, eqb-false}
use lib.Dec.{eqb}
use lib.ListN.{length, drop}
use Rattle.reading.specs.Reading.{refusal, place as place_in}
use Rattle.walk.specs.Walk.{read_at, next, places_from, end_from, places, end, stop, stop_place, stopped, number_stopped, place_stopped}
use Rattle.std.specs.Prelude.{None, Some}
use Rattle.refusal.specs.Refusal.{named}
use Rattle.reading.proofs.Exactly.{named_refusal}
use Rattle.walk.proofs.Looked.{past_end}
use Rattle.walk.proofs.Going.{moves}

-- packets are read at these places, one after another from index at to index e; each begins where the one before it ended
abbrev pub Run : List ℕ → ℕ → List ℕ → ℕ → Type 0
Run s at [] e = e ≡ at
Run s at (place ∷ more) e = (place ≡ at) × (refusal (drop at s) ≡ 0) × (at < next s at) × Run s (next s at) more e

module _ (s : List ℕ) where
  -- a walk of at most `most` packets from index at on, by whether a packet is read there
  abbrev Lies : ℕ → ℕ → List ℕ → ℕ → Type 0
  Lies at most ps e = Run s at ps e × (e ≤ length s) × (length s ≤ at + most → refusal (drop e s) ≡ 0 → ⊥)

  step : (most at : ℕ) → at ≤ length s → (next s at ≤ length s → Lies (next s at) most (places_from most s (next s at)) (end_from most s (next s at)))
      → (b : Bool) → read_at s at ≡ b
      → Lies at (suc most) (cond b (at ∷ places_from most s (next s at)) []) (cond b (end_from most s (next s at)) at)
  step most at h more true r =
      let e = eqb-true _ _ r in
      let m = moves s at h e in
      let l = more m.1 in
      ((refl, e, m.0, l.0), l.1, λ f. l.2 (omega arith))
  step most at h more false r = (refl, h, λ f. eqb-false _ _ r)

  lies : (most at : ℕ) → at ≤ length s → Lies at most (places_from most s at) (end_from most s at)
  unfolding places_from end_from
  lies zero at h = (refl, h, λ f e. omega (arith, past_end s at (omega arith)))
  lies (suc most) at h = step most at h (lies most (next s at)) (read_at s at) refl

  pub rises : Run s 0 (places s) (end s) × (end s ≤ length s)
  unfolding places end
  rises = let l = lies (length s) 0 (omega arith) in (l.0, l.1)

  pub nowhere_else : refusal (drop (end s) s) ≡ 0 → ⊥
  unfolding end
  nowhere_else = (lies (length s) 0 (omega arith)).2 (omega arith)

  -- the walk tells no refusal exactly at the end, and else the one that is met where it stops, with its place
  abbrev Stop : ℕ → ℕ → Type 0
  Stop k q = (k ≡ 0 → end s ≡ length s) × (0 < k → (end s < length s) × (k ≡ refusal (drop (end s) s)) × (q ≡ place_in (drop (end s) s)))

  by_end : (b : Bool) → eqb (end s) (length s) ≡ b → Stop (cond b 0 (refusal (drop (end s) s))) (cond b 0 (place_in (drop (end s) s)))
  by_end true e = (λ z. eqb-true _ _ e, λ h. absurd (omega arith))
  by_end false e = (λ z. absurd (nowhere_else z), λ h. (omega (arith, rises.1, eqb-false (end s) (length s) e), refl, refl))

  pub stops_right : Stop (stop s) (stop_place s)
  unfolding stop stop_place
  stops_right = by_end (eqb (end s) (length s)) refl

  -- and the same of the stop that the walk gives
  by_name : (b : Bool) → eqb (end s) (length s) ≡ b
      → (k q : ℕ) → cond b 0 (refusal (drop (end s) s)) ≡ k → cond b 0 (place_in (drop (end s) s)) ≡ q
      → (number_stopped (cond b None (Some (record { refusal = named k; place = q }))) ≡ k) × (place_stopped (cond b None (Some (record { refusal = named k; place = q }))) ≡ q)
  by_name true e k q n p = (n, p)
  by_name false e k q n p = (rw (← n) (named_refusal (drop (end s) s) nowhere_else), refl)

  pub stop_told : (number_stopped (stopped s) ≡ stop s) × (place_stopped (stopped s) ≡ stop_place s)
  unfolding stopped stop stop_place
  stop_told = by_name (eqb (end s) (length s)) refl (stop s) (stop_place s) refl refl
