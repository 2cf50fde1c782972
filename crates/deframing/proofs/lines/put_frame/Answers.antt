-- What the frame was answered decides.
use Rattle.std.proofs.Common.{eq-eqb, ne_eqb}
use Rattle.deframing.specs.Run.{frame_line}
use Rattle.deframing.proofs.lines.put_frame.Goals as goal

pub returns-then-framed : goal.returns-then-framed
unfolding frame_line
returns-then-framed c =
    let e = c.put_word.ensures in
    let kind = eq-eqb c.args.framed.kind 0 c.if-framed.true in
    let n = c.from.ensures in
    record { value = simp kind (rw n at e.value); text_after = simp kind (rw n at e.text_after); short = simp kind (rw n at e.short) }

pub returns-then-framed-2 : goal.returns-then-framed-2
unfolding frame_line
returns-then-framed-2 c =
    let e = c.put_word-then-framed-2.ensures in
    let not_refused = ne_eqb c.args.framed.kind 0 c.if-framed.false in
    let kind = eq-eqb c.args.framed.kind 1 c.if-framed-2.true in
    record { value = simp (not_refused, kind) e.value; text_after = simp (not_refused, kind) e.text_after; short = simp (not_refused, kind) e.short }

pub returns : goal.returns
unfolding frame_line
returns c =
    let e = c.put_word-2.ensures in
    let not_refused = ne_eqb c.args.framed.kind 0 c.if-framed.false in
    let not_repeat = ne_eqb c.args.framed.kind 1 c.if-framed-2.false in
    let ns = c.taken_numbers.ensures in
    record {
      value = simp (not_refused, not_repeat) (rw ns at e.value);
      text_after = simp (not_refused, not_repeat) (rw ns at e.text_after);
      short = simp (not_refused, not_repeat) (rw ns at e.short);
    }
