-- The line is short, so there is room for it.
use Rattle.std.proofs.Common.{arith}
use Rattle.telling.specs.Lines.{line}
use Rattle.telling.proofs.Short.{lined, small, line_short}
use Rattle.replaying.proofs.lines.put_call.Goals as goal

pub returns : goal.returns
returns c =
    let a = c.args in
    let ns = a.ns.now in
    let q = c.requires.call_len_bound in
    lined a.text.now a.to (line a.at a.call.now a.lane a.word.now ns) c.requires.line_room_in_bounds
    (line_short a.at a.call.now a.lane a.word.now ns (omega (arith, c.ranges)) q.0 (omega (arith, c.ranges)) q.1 (small ns (λ k. omega (arith, c.type_inv.ns k))) q.2)
    (c.put_line.ensures.value, c.put_line.ensures.text_after)
