-- A field that begins where a packet begins: the walk passes over the whole packets in it and stops before the beginning of the next one, which is unfinished.
use Prim.Native.Nat.{ℕ, zero, suc, ◌+◌, ◌≤◌}
use mathlib.Core.Path.{◌≡◌, refl, ap, ◌∙◌}
use mathlib.Core.List.{List, [], ◌∷◌, ◌++◌, append_assoc, flatten}
use mathlib.Core.Bool.{true}
use native.Mathlib.Omega.{arith}
use native.Mathlib.Nat.{add_assoc}
use borrow.Author.Tests.{eq-eqb, ne_eqb}
use lib.ListN.{length, take, drop, length-append}
use lib.Seq.{take-append_seam, drop-append_seam, drop-append-add}
use Rattle.octets.proofs.Order.{either, both}
use Rattle.reading.specs.Reading.{size, refusal}
use Rattle.walk.specs.Walk.{read_at, next, end_from, end}
use Rattle.pieces.specs.Pieces.{one_packet}
use Rattle.recording.specs.Sent.{all}
use Rattle.recording.proofs.Beginnings.{is_packet, read_too, size_too}

-- ---- where the walk ends
-- after p, a walk over p and f is the walk over f
past : (p f : List ℕ) (n at : ℕ) → end_from n (p ++ f) (length p + at) ≡ length p + end_from n f at
unfolding end_from
past p f zero at = refl
past p f (suc n) at =
    rw (drop-append-add p f at)
    (either (read_at f at) (λ r. simp r (rw (add_assoc (length p) at (size (drop at f))) (past p f n (next f at)))) (λ r. simp r))

module _ (left : List ℕ) (stops : refusal left ≡ 1) where
  walks : (done : List (List ℕ)) (n : ℕ) → all one_packet done ≡ true → length (flatten done) ≤ n → end_from n (flatten done ++ left) 0 ≡ length (flatten done)
  unfolding end_from flatten
  walks [] zero a h = refl
  walks [] (suc n) a h = simp (ne_eqb (refusal left) 0 (λ e. omega arith))
  walks (p ∷ done) zero a h = absurd (omega (arith, (is_packet p (both (one_packet p) _ a).0).some, length-append p (flatten done)))
  walks (p ∷ done) (suc n) a h =
      let (o, a') = both (one_packet p) (all one_packet done) a in
      let i = is_packet p o in
      let rest = flatten done ++ left in
      let r = eq-eqb (refusal (p ++ rest)) 0 (read_too p rest i.read) in
      let z : 0 + size (p ++ rest) ≡ length p + 0 = omega (arith, size_too p rest i.read, i.all) in
      rw (append_assoc p (flatten done) left, length-append p (flatten done))
      (simp r (rw z (past p rest n 0 ∙ ap (λ k. length p + k) (walks done n a' (omega (arith, i.some, length-append p (flatten done)))))))

  module _ (done : List (List ℕ)) (a : all one_packet done ≡ true) where
    pub ends : end (flatten done ++ left) ≡ length (flatten done)
    unfolding end
    ends = walks done (length (flatten done ++ left)) a (omega (arith, length-append (flatten done) left))

    pub passes : take (end (flatten done ++ left)) (flatten done ++ left) ≡ flatten done
    passes = rw ends (take-append_seam (flatten done) left)

    pub leaves : drop (end (flatten done ++ left)) (flatten done ++ left) ≡ left
    leaves = rw ends (drop-append_seam (flatten done) left)
