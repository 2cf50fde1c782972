-- Text that is put after text is one text put once, cut or not: what carries everything that is written in steps. Where there is room for it,
-- it is put whole.
use Prim.Native.Nat.{ℕ, zero, suc, ◌+◌, ◌-◌, ◌≤◌, min}
use mathlib.Core.Path.{◌≡◌, refl, sym, ap, ◌∙◌}
use mathlib.Core.List.{List, [], ◌∷◌, ◌++◌, append-nil}
use native.Mathlib.Nat.{add-zero, sub-zero}
use native.Mathlib.Omega.{arith}
use borrow.Author.Tests.{leb-true, leb-false}
use lib.Dec.{leb}
use lib.ListN.{length, take, length-append, length-take, take-append-drop}
use lib.Seq.{take_all, take-nil, take-length}
use Rattle.octets.specs.Output.{put, put_if_fits}
use Rattle.octets.proofs.Order.{either}
use Rattle.octets.proofs.Puts.{Wrote, Fits, nothing, put_length, put_fits, not_put, put_put}
use Rattle.text.specs.Written.{fitting, reached, written}

-- what each function of the crate ensures: text was put into d from index at on, which gave out, and `to` is the place after it
abbrev pub Put : List ℕ → ℕ → List ℕ → List ℕ → ℕ → Type 0
Put d at text out to = (to ≡ reached (length d) at text) × (out ≡ written d at text)

-- there is room for all of it
module _ (d : List ℕ) (at : ℕ) (text : List ℕ) (f : Fits d at text) where
  whole : fitting (length d) at text ≡ text
  unfolding fitting
  whole = take_all (length d - at) text (omega arith)

  pub reached_whole : reached (length d) at text ≡ at + length text
  unfolding reached
  reached_whole = rw whole

  pub written_whole : written d at text ≡ put d at text
  unfolding written
  written_whole = rw whole

  pub wrote : {out : List ℕ} {to : ℕ} → Put d at text out to → Wrote d at text out to
  wrote (p, e) = (p ∙ reached_whole, e ∙ written_whole)

-- there is no room
module _ (d : List ℕ) (at : ℕ) (text : List ℕ) (h : length d ≤ at) where
  none : fitting (length d) at text ≡ []
  unfolding fitting
  none = let e : length d - at ≡ 0 = omega arith in rw e

  pub nothing_put : Put d at text d at
  unfolding reached written put
  nothing_put = rw (none, add-zero, append-nil) (refl, sym (take-append-drop at d))

pub all_put : (d : List ℕ) (at : ℕ) (text : List ℕ) {out : List ℕ} {to : ℕ} → Fits d at text → Wrote d at text out to → Put d at text out to
all_put d at text f (p, e) = (p ∙ sym (reached_whole d at text f), e ∙ sym (written_whole d at text f))

-- what there is room for is put, cut or not
taken : (text : List ℕ) (room : ℕ) → take (min (length text) room) text ≡ take room text
taken text room =
    either (leb (length text) room)
    (λ t. let h = leb-true _ _ t in
    let e : min (length text) room ≡ length text = omega arith in
    rw e (take-length text ∙ sym (take_all room text h)))
    (λ f. let e : min (length text) room ≡ room = omega (arith, leb-false (length text) room f) in rw e)

pub cut : (d : List ℕ) (at : ℕ) (text : List ℕ) {n : ℕ} → n ≡ min (length text) (length d - at) → put_if_fits d at (take n text) ≡ written d at text
unfolding written fitting
cut d at text e =
    rw (e, taken text (length d - at))
    (either (leb at (length d)) (λ t. sym (put_fits d at (take (length d - at) text) (omega (arith, leb-true _ _ t, length-take (length d - at) text))))
    (λ f. let h : length d ≤ at = omega (arith, leb-false at (length d) f) in
    let no : take (length d - at) text ≡ [] = none d at text h in
    rw no (sym (not_put d at [] (omega (arith, leb-false at (length d) f))) ∙ (nothing d at).1)))

-- ---- in steps
fitting_fits : (d : List ℕ) (at : ℕ) (text : List ℕ) → at ≤ length d → Fits d at (fitting (length d) at text)
unfolding fitting
fitting_fits d at text h = omega (arith, length-take (length d - at) text)

pub written_length : (d : List ℕ) (at : ℕ) (text : List ℕ) → length (written d at text) ≡ length d
unfolding written
written_length d at text =
    either (leb at (length d)) (λ t. put_length d at (fitting (length d) at text) (fitting_fits d at text (leb-true _ _ t)))
    (λ f. ap length (sym (nothing_put d at text (omega (arith, leb-false at (length d) f))).1))

take_append : (n : ℕ) (a b : List ℕ) → take n (a ++ b) ≡ take n a ++ take (n - length a) b
take_append zero a b = let none : 0 - length a ≡ 0 = omega arith in rw none
take_append (suc n) [] b = rw sub-zero
take_append (suc n) (x ∷ a) b = let less : suc n - suc (length a) ≡ n - length a = omega arith in rw (less, take_append n a b)

-- the first text takes its room, and the second the rest
fitting_append : (room at : ℕ) (a b : List ℕ) → fitting room at (a ++ b) ≡ fitting room at a ++ fitting room (reached room at a) b
unfolding fitting reached
fitting_append room at a b =
    let rest : room - at - length a ≡ room - (at + length (take (room - at) a)) = omega (arith, length-take (room - at) a) in
    take_append (room - at) a b ∙ rw rest

reached_append : (room at : ℕ) (a b : List ℕ) → reached room (reached room at a) b ≡ reached room at (a ++ b)
unfolding reached
reached_append room at a b = omega (arith, ap length (fitting_append room at a b), length-append (fitting room at a) (fitting room (reached room at a) b))

within : (d : List ℕ) (at : ℕ) (a b : List ℕ) → at ≤ length d → written (written d at a) (reached (length d) at a) b ≡ written d at (a ++ b)
unfolding written reached
within d at a b h =
    let first = fitting (length d) at a in
    let second = fitting (length d) (at + length first) b in
    let f : Fits d at first = fitting_fits d at a h in
    let g : at + length first + length second ≤ length d = fitting_fits d (at + length first) b f in
    rw (put_length d at first f, fitting_append (length d) at a b) (put_put d at first second g)

beyond : (d : List ℕ) (at : ℕ) (a b : List ℕ) → length d ≤ at → written (written d at a) (reached (length d) at a) b ≡ written d at (a ++ b)
beyond d at a b h =
    let n = nothing_put d at a h in
    rw (← n.0, ← n.1) (sym (nothing_put d at b h).1 ∙ (nothing_put d at (a ++ b) h).1)

written_append : (d : List ℕ) (at : ℕ) (a b : List ℕ) → written (written d at a) (reached (length d) at a) b ≡ written d at (a ++ b)
written_append d at a b =
    either (leb at (length d)) (λ t. within d at a b (leb-true _ _ t)) (λ f. beyond d at a b (omega (arith, leb-false at (length d) f)))

module _ (d : List ℕ) (at : ℕ) (a b : List ℕ) {out : List ℕ} {to : ℕ} (w : Put d at a out to) where
  -- where a is put, b is left to put
  pub left : (reached (length d) at (a ++ b) ≡ reached (length out) to b) × (written d at (a ++ b) ≡ written out to b)
  left = rw (w.0, w.1, written_length d at a) (sym (reached_append (length d) at a b), sym (written_append d at a b))

  pub after : {out' : List ℕ} {to' : ℕ} → Put out to b out' to' → Put d at (a ++ b) out' to'
  after (p, e) = (p ∙ sym left.0, e ∙ sym left.1)

pub empty_put : (d : List ℕ) (at : ℕ) → Put d at [] d at
unfolding reached written fitting
empty_put d at = rw take-nil (nothing d at)
