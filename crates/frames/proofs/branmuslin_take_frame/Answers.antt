-- By what the frame is checked to be (`Answers`).
use Rattle.frames.proofs.Answers.{says_untaken, says_taken}
use Rattle.frames.proofs.branmuslin_take_frame.Goals as goal

pub returns-in-Ok : goal.returns-in-Ok
returns-in-Ok c =
    let a = c.args in
    let e = c.take_next.ensures in
    let h = says_taken a.state a.count a.pointer a.field.now a.piece.now a.out.now c.in-Ok.ensures.0 c.in-Ok.ensures.1 e.value e.piece_after e.out_after in
    record { value = h.0; piece_after = h.1.0; out_after = h.1.1 }

pub returns-in-Err : goal.returns-in-Err
returns-in-Err c =
    let a = c.args in
    let h = says_untaken a.state a.count a.pointer a.field.now a.piece.now a.out.now c.in-Err.why c.in-Err.ensures c.not_taken.ensures in
    record { value = h.0; piece_after = h.1.0; out_after = h.1.1 }
