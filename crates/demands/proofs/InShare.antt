-- Where what a lane would hold is within its share for each packet sent, it never holds more: what it holds after a call is what it held before, what the packet
-- would bring, or nothing.
use Prim.Native.Nat.{ℕ, zero, suc}
use mathlib.Core.Path.{◌≡◌, ap}
use mathlib.Core.Bool.{cond}
use mathlib.Core.List.{List, [], ◌∷◌}
use native.Mathlib.Omega.{arith}
use borrow.Author.Tests.{eqb-true}
use lib.ListN.{get_or, take}
use Rattle.lane.proofs.Fine.{none_held}
use Rattle.grouping.proofs.Planned.{of_either}
use Rattle.rule.specs.Rule.{accepted, group}
use Rattle.demands.specs.Runs.{Handed, begun, Call, opens, takes, closes, is_refused, AnyIntake, lane_of, names}
use Rattle.demands.specs.Past.{Past, shut, lane_from, grown, later, past_from}
use Rattle.demands.specs.Demand3.{InShare}
use Rattle.demands.specs.Laws.{EachInShareStays}

module _ (n : AnyIntake) (i : ℕ) where
  abbrev In : Past → Type 0
  In past = InShare (lane_from past)

  -- what a packet would bring stays in the share
  abbrev Asks : Past → Call → Type 0
  Asks past c = (p out : List ℕ) → c ≡ takes i p out → In (grown past (takes i p out))

  unrefused : (past : Past) (c : Call) → lane_of c ≡ i → Asks past c → In (grown past c)
  unfolding accepted group
  unrefused past (opens j settings) e asks = omega (arith, none_held)
  unrefused past (takes j p out) e asks = rw (← e) at (asks p out (ap (λ (k : ℕ). takes k p out) e))
  unrefused past (closes j out) e asks = omega (arith, none_held)

  after_call : (past : Past) (x : Handed) (c : Call) → In past → Asks past c → In (cond (names i c) (later past c (n.reply_to x c)) past)
  after_call past x c before asks =
      of_either In (names i c)
      (λ e. of_either In (is_refused (n.reply_to x c)) (λ r. before) (λ r. unrefused past c (eqb-true _ _ e) asks))
      (λ e. before)

  along : (calls : List Call) (past : Past) (x : Handed) → In past → ((k : ℕ) → Asks (past_from n i past x (take k calls)) (get_or calls k (closes i [])))
      → (k : ℕ) → In (past_from n i past x (take k calls))
  unfolding past_from
  along calls past x before asks zero = before
  along [] past x before asks (suc k) = before
  along (c ∷ calls) past x before asks (suc k) = along calls _ (n.leaves x c) (after_call past x c before (asks 0)) (λ m. asks (suc m)) k

pub each_in_share_stays : EachInShareStays
each_in_share_stays n i start calls each = along n i calls shut (begun start) (omega (arith, none_held)) each
