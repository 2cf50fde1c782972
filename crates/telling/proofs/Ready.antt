-- What a step asks for, as facts: each test says one.
use Prim.Native.Nat.{ℕ, ◌+◌, ◌≤◌}
use mathlib.Core.Path.{◌≡◌}
use mathlib.Core.Bool.{Bool, true, false, not, ◌&&◌}
use borrow.Author.Tests.{le-leb, leb-true, not-true}
use lib.Dec.{leb}
use Rattle.octets.proofs.Order.{both}
use Rattle.telling.specs.Lines.{line_room, ready}

pub record Going (done : Bool) (calls at n : ℕ) : Type 0 where
  pub undone : done ≡ false
  pub counted : calls ≤ at
  pub inside : at ≤ n

module _ (done : Bool) (calls at n to room : ℕ) where
  pub goes : ready done calls at n to room ≡ true → Going done calls at n × (to + line_room ≤ room)
  unfolding ready
  goes e =
      let a = both (not done && leb calls at && leb at n) (leb (to + line_room) room) e in
      let b = both (not done && leb calls at) (leb at n) a.0 in
      let c = both (not done) (leb calls at) b.0 in
      (record { undone = not-true done c.0; counted = leb-true _ _ c.1; inside = leb-true _ _ b.1 }, leb-true _ _ a.1)

  pub is_ready_lem : Going done calls at n → to + line_room ≤ room → ready done calls at n to room ≡ true
  unfolding ready
  is_ready_lem g h = simp (g.undone, le-leb calls at g.counted, le-leb at n g.inside, le-leb (to + line_room) room h)
