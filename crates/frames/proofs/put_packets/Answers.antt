-- The piece and the field up to its end lie side by side in the output; `put` laws say so.
use Rattle.std.proofs.Common.{sym, ◌∙◌}
use Rattle.frames.proofs.Parts.{piece_and_field, field_alone}
use Rattle.frames.proofs.put_packets.Goals as goal

pub returns-then-is_finished-clause-out_after : goal.returns-then-is_finished-clause-out_after
returns-then-is_finished-clause-out_after c =
    let a = c.args in
    simp (sym c.is_finished.ensures ∙ c.if-is_finished.true) (piece_and_field a.piece.now a.field.now a.out.now c.requires c.put_octets.ensures c.put_octets-then-is_finished.ensures).1

pub returns-clause-out_after : goal.returns-clause-out_after
returns-clause-out_after c =
    let a = c.args in
    simp (sym c.is_finished.ensures ∙ c.if-is_finished.false) (field_alone a.piece.now a.field.now a.out.now c.requires c.put_octets-2.ensures).1
