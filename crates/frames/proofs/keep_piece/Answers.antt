-- The new piece is put at the front: the piece that grows stays where it is, and the field is put after it.
use Rattle.std.proofs.Common.{◌≡◌, refl, ap, false}
use Rattle.frames.specs.Frames.{growing}
use Rattle.frames.specs.declared.plan.Goes.{Goes}
use Rattle.frames.specs.declared.plan.Goes.TheVariants.{Finishes, Grows, Stops}
use Rattle.frames.proofs.Parts.{grown, left_over, nothing_left}
use Rattle.frames.proofs.keep_piece.Goals as goal

grows_not : (g : Goes) → (g ≡ Grows → ⊥) → growing g ≡ false
grows_not Finishes n = refl
grows_not Grows n = absurd (n refl)
grows_not Stops n = refl

pub returns-in-Grows-clause-piece_after : goal.returns-in-Grows-clause-piece_after
returns-in-Grows-clause-piece_after c =
    let a = c.args in
    let on = ap growing c.in-Grows.is in
    simp on (grown a.field.now a.piece.now a.kept (c.requires.2 on) c.put_octets.ensures).1

pub returns-in_default : goal.returns-in_default
returns-in_default c =
    let h = nothing_left c.args.field.now c.args.piece.now in
    let off = grows_not c.args.goes c.in_default.not-Grows in
    record { value = simp (off, c.if-rest.true) h.0; piece_after = simp (off, c.if-rest.true) h.1 }

pub returns-in_default-2 : goal.returns-in_default-2
returns-in_default-2 c =
    let a = c.args in
    let h = left_over a.field.now a.piece.now a.rest.to c.requires.1 c.put_octets-in_default-2.ensures in
    let off = grows_not a.goes c.in_default-2.not-Grows in
    record { value = simp (off, c.if-rest.false) h.0; piece_after = simp (off, c.if-rest.false) h.1 }
