-- A piece that does not go on stops; one that does is what the joined octets are judged to be.
use Rattle.std.proofs.Common.{◌≡◌, refl, sym, ap, ◌∙◌, ℕ, List, ◌++◌, Bool, true, false, cond, not, ◌&&◌, ◌||◌, eqb, eq-eqb, ne_eqb, length, take, min, arith}
use Rattle.std.proofs.lemmas.List.{take_min}
use Rattle.octets.proofs.Order.{either}
use Rattle.pieces.specs.Pieces.{joined_is, one_packet, unfinished}
use Rattle.pieces.specs.declared.Joined.{Joined}
use Rattle.pieces.specs.declared.Joined.TheVariants.{Packet, Unfinished, Neither}
use Rattle.frames.specs.Frames.{goes_on, out_of_step, finishes, grows, goes_to}
use Rattle.frames.specs.declared.Frames.{Frames}
use Rattle.frames.specs.declared.plan.Goes.{Goes}
use Rattle.frames.specs.declared.plan.Goes.TheVariants.{Finishes, Grows, Stops}
use Rattle.frames.proofs.plan.plan_piece.Goals as goal

-- what the code gives for what the joined octets are, with pointer 2047 or another
abbrev planned : Joined → Bool → Goes
planned Packet nothing_begins = Finishes
planned Unfinished nothing_begins = cond nothing_begins Grows Stops
planned Neither nothing_begins = Stops

-- the three tests of the code are those of the definition
off : (a b c : Bool) → (a || b) || c ≡ true → not a && not b && not c ≡ false
off true b c e = refl
off false true c e = refl
off false false true e = refl
off false false false e = sym e

on : (a b c : Bool) → (a || b) || c ≡ false → not a && not b && not c ≡ true
on true b c e = sym e
on false true c e = sym e
on false false true e = sym e
on false false false e = refl

module _ (state : Frames) (count pointer : ℕ) (field piece : List ℕ) {step : Bool} (tested : step ≡ out_of_step state count) where
  stays : (eqb state.piece 0 || step) || eqb pointer 2046 ≡ true → goes_on state count pointer field piece ≡ false
  stays e = off (eqb state.piece 0) (out_of_step state count) (eqb pointer 2046) (ap (λ b. (eqb state.piece 0 || b) || eqb pointer 2046) (sym tested) ∙ e)

  goes : (eqb state.piece 0 || step) || eqb pointer 2046 ≡ false → goes_on state count pointer field piece ≡ true
  goes e = on (eqb state.piece 0) (out_of_step state count) (eqb pointer 2046) (ap (λ b. (eqb state.piece 0 || b) || eqb pointer 2046) (sym tested) ∙ e)

  shorter : take (min (length field) pointer) field ≡ take pointer field
  shorter = let e : min (length field) pointer ≡ min pointer (length field) = omega arith in rw (e, take_min pointer field)

  joined_so : {from : ℕ} {j : Joined} → from ≡ min (length field) pointer → j ≡ joined_is (piece ++ take from field) → j ≡ joined_is (piece ++ take pointer field)
  joined_so begins e = e ∙ ap (λ l. joined_is (piece ++ l)) (ap (λ k. take k field) begins ∙ shorter)

  off_stops : goes_on state count pointer field piece ≡ false → Stops ≡ goes_to state count pointer field piece
  unfolding finishes grows
  off_stops w = simp w

  by_kind : goes_on state count pointer field piece ≡ true → {from : ℕ} {j : Joined} → from ≡ min (length field) pointer → j ≡ joined_is (piece ++ take from field)
      → planned j (eqb pointer 2047) ≡ goes_to state count pointer field piece
  unfolding finishes grows
  by_kind w begins e =
      let s = piece ++ take pointer field in
      rw (joined_so begins e)
      (either (eqb pointer 2047)
      (λ p. either (one_packet s) (λ o. simp (w, p, o)) (λ o. either (unfinished s) (λ u. simp (w, p, o, u)) (λ u. simp (w, p, o, u))))
      (λ p. either (one_packet s) (λ o. simp (w, p, o)) (λ o. either (unfinished s) (λ u. simp (w, p, o, u)) (λ u. simp (w, p, o, u)))))

pub returns-then-state-is_out_of_step : goal.returns-then-state-is_out_of_step
returns-then-state-is_out_of_step c =
    let a = c.args in
    off_stops a.state a.frame.count a.frame.pointer a.frame.field.now a.piece.now c.is_out_of_step.ensures
    (stays a.state a.frame.count a.frame.pointer a.frame.field.now a.piece.now c.is_out_of_step.ensures c.if-state-is_out_of_step.true)

pub returns-in-Packet : goal.returns-in-Packet
returns-in-Packet c =
    let a = c.args in
    let w = goes a.state a.frame.count a.frame.pointer a.frame.field.now a.piece.now c.is_out_of_step.ensures c.if-state-is_out_of_step.false in
    by_kind a.state a.frame.count a.frame.pointer a.frame.field.now a.piece.now c.is_out_of_step.ensures w c.min-from.ensures c.in-Packet.ensures

pub returns-in-Unfinished : goal.returns-in-Unfinished
returns-in-Unfinished c =
    let a = c.args in
    let w = goes a.state a.frame.count a.frame.pointer a.frame.field.now a.piece.now c.is_out_of_step.ensures c.if-state-is_out_of_step.false in
    simp (eq-eqb _ 2047 c.if-pointer-eq-NO_PACKET.true) at
    (by_kind a.state a.frame.count a.frame.pointer a.frame.field.now a.piece.now c.is_out_of_step.ensures w c.min-from.ensures c.in-Unfinished.ensures)

pub returns-in_default : goal.returns-in_default
returns-in_default c =
    let a = c.args in
    let w = goes a.state a.frame.count a.frame.pointer a.frame.field.now a.piece.now c.is_out_of_step.ensures c.if-state-is_out_of_step.false in
    simp (ne_eqb _ 2047 c.if-pointer-eq-NO_PACKET.false) at
    (by_kind a.state a.frame.count a.frame.pointer a.frame.field.now a.piece.now c.is_out_of_step.ensures w c.min-from.ensures c.in-Unfinished.ensures)

pub returns-in_default-2 : goal.returns-in_default-2
returns-in_default-2 c =
    let a = c.args in
    let w = goes a.state a.frame.count a.frame.pointer a.frame.field.now a.piece.now c.is_out_of_step.ensures c.if-state-is_out_of_step.false in
    by_kind a.state a.frame.count a.frame.pointer a.frame.field.now a.piece.now c.is_out_of_step.ensures w c.min-from.ensures c.in_default.ensures
