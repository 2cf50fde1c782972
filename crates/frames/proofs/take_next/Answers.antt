-- Everything fits, and what is put is what the definitions say (`Taken`).
use Rattle.std.proofs.Common.{◌≡◌, length, rules, ap, ◌∙◌}
use Rattle.octets.specs.Octets.{one}
use Rattle.frames.specs.Frames.{finishing}
use Rattle.frames.proofs.Taken as law
use Rattle.frames.proofs.take_next.Goals as goal

pub slice_bounds-plan_piece-end : goal.slice_bounds-plan_piece-end
slice_bounds-plan_piece-end c =
    let a = c.args in law.piece_inside a.state a.frame.count a.frame.pointer a.frame.field.now a.piece.now (length a.out.now) c.requires

pub slice_bounds-plan_piece-end-2 : goal.slice_bounds-plan_piece-end-2
slice_bounds-plan_piece-end-2 c =
    let a = c.args in law.piece_length a.state a.frame.count a.frame.pointer a.frame.field.now a.piece.now (length a.out.now) c.requires

pub slice_bounds-put_packets-end : goal.slice_bounds-put_packets-end
slice_bounds-put_packets-end c =
    let a = c.args in law.piece_inside a.state a.frame.count a.frame.pointer a.frame.field.now a.piece.now (length a.out.now) c.requires

pub slice_bounds-put_packets-end-2 : goal.slice_bounds-put_packets-end-2
slice_bounds-put_packets-end-2 c =
    let a = c.args in law.piece_length a.state a.frame.count a.frame.pointer a.frame.field.now a.piece.now (length a.out.now) c.requires

pub put_packets-octets-requires : goal.put_packets-octets-requires
put_packets-octets-requires c =
    let a = c.args in
    law.packets_fit a.state a.frame.count a.frame.pointer a.frame.field.now a.piece.now (length a.out.now) c.requires c.read_on-rest.result c.read_on-rest.ensures

pub keep_piece-left-requires : goal.keep_piece-left-requires
keep_piece-left-requires c =
    let a = c.args in
    let p = law.packets_fit a.state a.frame.count a.frame.pointer a.frame.field.now a.piece.now (length a.out.now) c.requires c.read_on-rest.result c.read_on-rest.ensures in
    law.piece_fits a.state a.frame.count a.frame.pointer a.frame.field.now a.piece.now (length a.out.now) c.requires p.1 c.plan_piece-goes.ensures

pub overflow_add-result : goal.overflow_add-result
unfolding one
overflow_add-result c =
    let a = c.args in
    let byte : c.from.result ≡ one c.is_finished.result = search rules in
    let h =
    law.few a.state a.frame.count a.frame.pointer a.frame.field.now a.piece.now (length a.out.now) c.requires c.read_on-rest.result c.read_on-rest.ensures
    (finishing c.plan_piece-goes.result) (byte ∙ ap one c.is_finished.ensures)
    in
    search rules

pub overflow_cast-result : goal.overflow_cast-result
overflow_cast-result c =
    let a = c.args in
    let h = law.count_small a.state a.frame.count a.frame.pointer a.frame.field.now a.piece.now (length a.out.now) c.requires in
    search rules

pub returns : goal.returns
unfolding one
returns c =
    let a = c.args in
    let p = c.put_packets-octets.ensures in
    let k = c.keep_piece-left.ensures in
    let byte : c.from.result ≡ one c.is_finished.result = search rules in
    let h =
    law.told a.state a.frame.count a.frame.pointer a.frame.field.now a.piece.now (length a.out.now) c.requires c.read_on-rest.result c.read_on-rest.ensures
    c.plan_piece-goes.ensures a.out.now (byte ∙ ap one c.is_finished.ensures) c.is_stopped.ensures (p.value, p.out_after) (k.value, k.piece_after)
    in
    record { value = h.0; piece_after = h.1.0; out_after = h.1.1 }
