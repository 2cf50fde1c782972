-- What is found at an index, from what the reader told there: the size that was read leads to the next packet.
use Prim.Native.Nat.{ℕ, ◌+◌, ◌≤◌, ◌<◌}
use mathlib.Core.Path.{◌≡◌, sym, ap, ◌∙◌}
use mathlib.Core.List.{List, [], ◌∷◌}
use native.Mathlib.Omega.{arith}
use lib.Dec.{eqb}
use borrow.Author.Tests.{eq-eqb, ne_eqb}
use lib.ListN.{length, drop, length-drop, drop_of_length-le}
use Rattle.std.specs.Prelude.{cond, Result, Ok, Err}
use Rattle.refusal.specs.Refusal.{number}
use Rattle.refusal.specs.declared.Refusal.TheVariants as refuse
use Rattle.packet.specs.Told.{told, place_of, size_of}
use Rattle.packet.specs.declared.Packet.{Packet}
use Rattle.packet.specs.declared.Unread.{Unread}
use Rattle.reading.specs.Places.{fault_at}
use Rattle.reading.specs.Reading.{refusal, reading, place as place_in}
use Rattle.reading.specs.Causes.{no_octets}
use Rattle.reading.proofs.Exactly.{gives, refused}
use Rattle.reading.proofs.Answers.{one_answer, Says, says, read_told, place_told, size_told, part_told}
use Rattle.walk.specs.Walk.{Finds, next, next_or_here}
use Rattle.walk.specs.declared.Found.{Found}

same_found : {r q : Result Packet Unread} {m n : ℕ} → r ≡ q → m ≡ n → ◌≡◌ {A = Found} (record { read = r; next = m }) (record { read = q; next = n })
same_found a b = cc

module _ (s : List ℕ) (at : ℕ) where
  -- nothing is read at the end
  pub past_end : length s ≤ at → refusal (drop at s) ≡ 1
  past_end h = gives (no_octets (ap length (drop_of_length-le s h)))

  pub finds_none : length s < at → Finds s at (record { read = Err (record { refusal = refuse.CutShort; place = 0 }); next = at })
  unfolding fault_at
  finds_none h =
      let empty : length (drop at s) ≡ 0 = ap length (drop_of_length-le s {i = at} (omega arith)) in
      record {
        tells = ap (λ q. 1 ∷ q ∷ []) (sym empty) ∙ refused (no_octets empty);
        place = simp (ne_eqb (refusal (drop at s)) 0 (λ e. omega (arith, past_end (omega arith))));
      }

  -- behind the packet, or here
  next_told : (r : Result Packet Unread) → Says r (drop at s) → at + size_of r ≡ next_or_here s at
  next_told (Ok p) w = simp (eq-eqb (refusal (drop at s)) 0 (read_told p (drop at s) w)) (ap (λ z. at + z) (size_told p (drop at s) w).1)
  next_told (Err u) w = simp (ne_eqb (refusal (drop at s)) 0 (λ e. omega (arith, w.0, w.1))) (omega arith)

  -- r is what was read there, and z what `size_of` gave of it
  module _ (r : Result Packet Unread) (tells : told r ≡ reading (drop at s)) {z : ℕ} (size : z ≡ size_of r) where
    pub finds : Finds s at (record { read = r; next = at + z })
    finds = record { tells = tells; place = ap (λ n. at + n) size ∙ next_told r (says r (drop at s) tells) }

    pub within : at ≤ length s → at + z ≤ length s
    within h = omega (arith, size, (part_told r (drop at s) (says r (drop at s) tells)).1, length-drop at s)

  -- what was found there was read, and the next packet begins behind it
  pub found_read : (f : Found) → Finds s at f → (p : Packet) → f.read ≡ Ok p → (refusal (drop at s) ≡ 0) × (f.next ≡ next s at)
  found_read f found p is =
      let z = read_told p (drop at s) (says (Ok p) (drop at s) (ap told (sym is) ∙ found.tells)) in
      (z, found.place ∙ ap (λ n. cond (eqb n 0) (next s at) at) z)

  -- what was refused is the definition's
  pub found_refused : (f : Found) → Finds s at f → (u : Unread) → f.read ≡ Err u
      → (number u.refusal ≡ refusal (drop at s)) × (u.place ≡ place_in (drop at s)) × (refusal (drop at s) ≡ 0 → ⊥)
  found_refused f found u is =
      let w = says (Err u) (drop at s) (ap told (sym is) ∙ found.tells) in
      (sym w.0, w.2, λ z. omega (arith, w.0, w.1, z))

  -- the place that was read there is the definition's
  pub found_place : (f : Found) → Finds s at f → place_of f.read ≡ place_in (drop at s)
  found_place f found = place_told f.read (drop at s) (says f.read (drop at s) found.tells)

  -- the promise permits one answer
  pub one_found : (a b : Found) → Finds s at a → Finds s at b → a ≡ b
  one_found a b f g = same_found (one_answer a.read b.read (drop at s) f.tells g.tells) (f.place ∙ sym g.place)
