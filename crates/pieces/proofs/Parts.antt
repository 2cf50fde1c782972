-- Parts of a field and of a piece: the front of two lists side by side, and what lies from an index on.
use Prim.Native.Nat.{ℕ, ◌+◌, ◌-◌, ◌≤◌, ◌<◌, min}
use mathlib.Core.Path.{◌≡◌, sym, ap, ◌∙◌}
use mathlib.Core.List.{List, ◌++◌}
use native.Mathlib.Omega.{arith}
use borrow.Author.Tests.{eqb-true, eqb-false, lt-leb}
use lib.Dec.{eqb, leb}
use lib.ListN.{length, take, drop, length-append, length-drop}
use lib.Seq.{drop-drop, take-append-le, take-append-add, length-take-le}
use Rattle.std.proofs.lemmas.List.{take_min, drop_min}
use Rattle.octets.specs.Output.{put, put_if_fits}
use Rattle.octets.proofs.Order.{either}
use Rattle.octets.proofs.Puts.{put_fits, first_put, then_put, take_put}
use Rattle.reading.specs.Reading.{refusal}
use Rattle.walk.specs.Walk.{end, stop, stopped, number_stopped}
use Rattle.walk.proofs.Rises.{rises, stops_right, stop_told}
use Rattle.walk.proofs.Looked.{past_end}

-- what is put side by side at the front of eight octets is the front of both
module _ (p l d : List ℕ) (eight : length d ≡ 8) where
  pub front_of_piece : {f : List ℕ} → 8 ≤ length p → f ≡ put_if_fits d 0 (take 8 p) → (take 8 f ≡ take 8 (p ++ l)) × (8 ≡ length (take 8 (p ++ l)))
  front_of_piece {f} h q =
      let same = take-append-le 8 p l h in
      let n : length (take 8 p) ≡ 8 = length-take-le 8 p h in
      let fits : 0 + length (take 8 p) ≤ length d = omega (arith, n, eight) in
      let all : 8 ≡ 0 + length (take 8 p) = omega (arith, n) in
      (ap (take 8) (q ∙ sym (put_fits d 0 (take 8 p) fits)) ∙ ap (λ k. take k (put d 0 (take 8 p))) all ∙ take_put d 0 (take 8 p) fits ∙ sym same, sym (ap length same ∙ n))

  pub front_of_both : {b : ℕ} {e f : List ℕ} → length p < 8 → b ≡ min (length l) (8 - length p) → e ≡ put_if_fits d 0 p → f ≡ put_if_fits e (length p) (take b l)
      → (take (length p + b) f ≡ take 8 (p ++ l)) × (length p + b ≡ length (take 8 (p ++ l)))
  front_of_both {b} {e} {f} h y q r =
      let lb : length (take b l) ≡ b = length-take-le b l (omega arith) in
      let both : length (p ++ take b l) ≡ length p + b = length-append p (take b l) ∙ (rw lb) in
      let fits : 0 + length (p ++ take b l) ≤ length d = omega (arith, both, eight) in
      let w = first_put d 0 p {to = length p} (omega (arith, fits, both)) (omega arith) q in
      let g = then_put d 0 p (take b l) fits {to' = length p + b} (omega (arith, lb)) w r in
      let all : length p + b ≡ 0 + length (p ++ take b l) = omega (arith, both) in
      let least : b ≡ min (8 - length p) (length l) = omega arith in
      let eight' : 8 ≡ length p + (8 - length p) = omega arith in
      let same : take 8 (p ++ l) ≡ p ++ take b l = ap (λ k. take k (p ++ l)) eight' ∙ take-append-add p l (8 - length p) ∙ (rw (least, take_min (8 - length p) l)) in
      (ap (λ x. take (length p + b) x) g.1 ∙ ap (λ k. take k (put d 0 (p ++ take b l))) all ∙ take_put d 0 (p ++ take b l) fits ∙ sym same, sym (ap length same ∙ both))

-- ---- from the pointer on
module _ (field : List ℕ) (pointer : ℕ) {from : ℕ} (begins : from ≡ min (length field) pointer) where
  at_most : from ≡ min pointer (length field)
  at_most = omega arith

  pub from_pointer : drop from field ≡ drop pointer field
  from_pointer = rw (at_most, drop_min pointer field)

  pub up_to_pointer : take from field ≡ take pointer field
  up_to_pointer = rw (at_most, take_min pointer field)

  -- the whole packets end inside the field, and what comes after them is what is left
  pub ends_inside : {n : ℕ} → n ≡ end (drop pointer field) → from + n ≤ length field
  ends_inside e = omega (arith, e, (rises (drop pointer field)).1, length-drop pointer field)

  pub after_packets : (n : ℕ) → drop (from + n) field ≡ drop n (drop pointer field)
  after_packets n = sym (drop-drop n from field) ∙ ap (drop n) from_pointer

-- ---- what is left where a walk stopped is cut short at the end, and else where it was refused 1
pub cut_left : (s : List ℕ) → leb (number_stopped (stopped s)) 1 ≡ eqb (refusal (drop (end s) s)) 1
cut_left s =
    let right = stops_right s in
    let told = (stop_told s).0 in
    either (eqb (stop s) 0)
    (λ z. rw (told, eqb-true (stop s) 0 z, past_end s (end s) (omega (arith, right.0 (eqb-true (stop s) 0 z)))))
    (λ z. let some = eqb-false (stop s) 0 z in
    let same = (right.1 (omega (arith, some))).1 in
    either (eqb (stop s) 1) (λ e. rw (told, ← same, eqb-true (stop s) 1 e))
    (λ e. rw (told, ← same, e) (lt-leb (stop s) 1 (omega (arith, some, eqb-false (stop s) 1 e)))))
