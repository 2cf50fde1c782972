-- A lane's past after one more call at the end of a run, and after calls of other lanes: by induction on the calls, each of which computes.
use Prim.Native.Nat.{ℕ}
use mathlib.Core.Path.{◌≡◌, refl, sym, ap, ◌∙◌}
use mathlib.Core.Bool.{Bool, cond}
use mathlib.Core.List.{List, [], ◌∷◌, ◌++◌}
use borrow.Author.Tests.{eqb-true, ne_eqb}
use Rattle.octets.proofs.Order.{either}
use Rattle.demands.specs.Runs.{Handed, Call, AnyIntake, run, lane_of, names, own}
use Rattle.demands.specs.Past.{Past, shut, later, past_from}

module _ (n : AnyIntake) where
  pub past_more : (i : ℕ) (past : Past) (x : Handed) (calls : List Call) (c : Call)
      → past_from n i past x (calls ++ c ∷ []) ≡ cond (names i c) (later (past_from n i past x calls) c (n.reply_to (run n x calls) c)) (past_from n i past x calls)
  unfolding run past_from
  past_more i past x [] c = refl
  past_more i past x (d ∷ calls) c = past_more i (cond (names i d) (later past d (n.reply_to x d)) past) (n.leaves x d) calls c

  -- a call of another lane leaves a past; so a source's own calls open no other lane
  not_named : (j : ℕ) (past : Past) (x : Handed) (c : Call) (calls : List Call) → (lane_of c ≡ j → ⊥) → past_from n j past x (c ∷ calls) ≡ past_from n j past (n.leaves x c) calls
  unfolding past_from
  not_named j past x c calls other = ap (λ (b : Bool). past_from n j (cond b (later past c (n.reply_to x c)) past) (n.leaves x c) calls) (ne_eqb (lane_of c) j other)

  pub own_only : (i j : ℕ) → (j ≡ i → ⊥) → (calls : List Call) (x : Handed) → past_from n j shut x (own i calls) ≡ shut
  unfolding past_from own
  own_only i j other [] x = refl
  own_only i j other (c ∷ calls) x =
      either (names i c)
      (λ e. simp e (not_named j shut x c (own i calls) (λ z. other (sym z ∙ eqb-true (lane_of c) i e)) ∙ own_only i j other calls (n.leaves x c)))
      (λ e. simp e (own_only i j other calls x))
