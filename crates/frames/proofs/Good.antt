-- What a frame has that is not refused.
use Prim.Native.Nat.{ℕ, ◌≤◌, ◌<◌}
use mathlib.Core.Path.{◌≡◌}
use mathlib.Core.Bool.{false}
use native.Mathlib.Omega.{arith}
use borrow.Author.Tests.{eqb-true, ltb-false, leb-false, not-false}
use lib.Dec.{ltb}
use Rattle.octets.proofs.Order.{either, neither}
use Rattle.frames.specs.Frames.{wrong, frame_refusal}
use Rattle.frames.specs.declared.Frames.{Frames}

pub record Good (state : Frames) (count n b room : ℕ) : Type 0 where
  pub field_some : 8 ≤ n
  pub field_most : n ≤ 2046
  pub buffer_is : b ≡ 8192
  pub count_most : count < 256
  pub piece_most : state.piece ≤ 8191
  pub room_enough : 10238 ≤ room

module _ (state : Frames) (count pointer n b room : ℕ) where
  none_wrong : frame_refusal state count pointer n b room ≡ 0 → (wrong state count pointer n b ≡ false) × (ltb room 10238 ≡ false)
  unfolding frame_refusal
  none_wrong e =
      either (wrong state count pointer n b) (λ w. absurd (omega (arith, simp w at e)))
      (λ w. either (ltb room 10238) (λ l. absurd (omega (arith, simp (w, l) at e))) (λ l. (w, l)))

  pub good : frame_refusal state count pointer n b room ≡ 0 → Good state count n b room
  good e =
      let x = none_wrong e in
      let y = neither _ _ x.0 in
      let z = neither _ _ y.0 in
      let u = neither _ _ z.0 in
      let v = neither _ _ u.0 in
      let w = neither _ _ v.0 in
      record {
        field_some = ltb-false n 8 w.0;
        field_most = ltb-false 2046 n w.1;
        buffer_is = eqb-true b 8192 (not-false _ v.1);
        count_most = leb-false 256 count u.1;
        piece_most = ltb-false 8191 state.piece y.1;
        room_enough = ltb-false room 10238 x.1;
      }
