-- The frame is taken, and its line is put. Its packets are at the front of the output, so they are no more octets than it has.
use Rattle.std.proofs.Common.{arith}
use Rattle.telling.proofs.Short.{lined}
use Rattle.deframing.specs.Run.{standing, frame_line}
use Rattle.deframing.proofs.Steps.{packets_fit, takes}
use Rattle.deframing.proofs.tell_frame.Goals as goal

pub put_frame-end-requires : goal.put_frame-end-requires
put_frame-end-requires c =
    let a = c.args in
    let r = c.take_whole-framed in
    let e = r.ensures in
    omega (arith, packets_fit (standing a.progress a.piece.now a.out.now) a.frame.now (e.value, (e.piece_after, e.out_after)) r.auto.out, r.auto.out)

pub returns : goal.returns
returns c =
    let a = c.args in
    let r = c.take_whole-framed in
    let e = r.ensures in
    let p = c.put_frame-end.ensures in
    let w = standing a.progress a.piece.now a.out.now in
    let l = lined a.text.now a.to (frame_line a.progress.at c.be16_at.result r.result r.new.out) c.requires.line_room_in_bounds p.short (p.value, p.text_after) in
    record {
      stepped = takes w a.frame.now (e.value, (e.piece_after, e.out_after)) a.text.now a.to _ c.be16_at.ensures l;
      octets_in_bounds = (packets_fit w a.frame.now (e.value, (e.piece_after, e.out_after)) r.auto.out, l.2);
    }
