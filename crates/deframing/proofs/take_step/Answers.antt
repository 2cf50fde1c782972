-- One of three: the file is too long, there is no whole frame here, or one is taken. Each puts its text, and there is room for it.
use Rattle.std.proofs.Common.{ap, ◌∙◌, length, length-drop, rules, arith}
use Rattle.text.specs.Text.{ascii}
use Rattle.telling.specs.Lines.{last_lines}
use Rattle.telling.proofs.Short.{lined, last_short}
use Rattle.telling.proofs.Ready.{goes}
use Rattle.deframing.specs.Run.{standing, taking, ahead}
use Rattle.deframing.proofs.Steps.{size_fits, head_fits, stops, too_long, last, another, none_here, here, here_length, the_same}
use Rattle.deframing.proofs.take_step.Goals as goal

pub returns-then-file-gt-LONGEST : goal.returns-then-file-gt-LONGEST
returns-then-file-gt-LONGEST c =
    let a = c.args in
    let w = standing a.progress a.piece.now a.out.now in
    let l = lined a.text.now a.to (ascii "too long\n") (goes _ _ _ _ _ _ c.requires).1 (omega arith) (c.put-end.ensures.value, c.put-end.ensures.out_after) in
    let p = stops w (ascii "too long\n") a.text.now a.to c.stopped.result c.stopped.ensures l in
    record { stepped = the_same a.text.now a.to (too_long a.file.now w c.if-file-gt-LONGEST.true) p.0; octets_in_bounds = p.1 }

pub slice_bounds-frame_in-count : goal.slice_bounds-frame_in-count
slice_bounds-frame_in-count c = (goes _ _ _ _ _ _ c.requires).0.inside

pub slice_bounds-frame_in-start : goal.slice_bounds-frame_in-start
slice_bounds-frame_in-start c = let h = (goes _ _ _ _ _ _ c.requires).0.inside in search rules

pub tell_frame-requires-clause-head_octets_in_bounds : goal.tell_frame-requires-clause-head_octets_in_bounds
tell_frame-requires-clause-head_octets_in_bounds c =
    let a = c.args in
    let s = a.file.now in
    let w = standing a.progress a.piece.now a.out.now in
    let n = here_length s w c.in-Some.ensures in
    let going = goes _ _ _ _ _ _ c.requires in (
      omega (arith, n, head_fits (ahead s w) (here s w c.in-Some.ensures).1),
      omega (arith, n, size_fits (ahead s w), length-drop a.progress.at s, going.0.inside, c.if-file-gt-LONGEST.false),
      going.0.counted,
    )

pub tell_frame-requires-clause-line_room_in_bounds : goal.tell_frame-requires-clause-line_room_in_bounds
tell_frame-requires-clause-line_room_in_bounds c = (goes _ _ _ _ _ _ c.requires).1

pub returns-in-Some-clause-stepped : goal.returns-in-Some-clause-stepped
returns-in-Some-clause-stepped c =
    let a = c.args in
    let s = a.file.now in
    let w = standing a.progress a.piece.now a.out.now in
    let h = here s w c.in-Some.ensures in
    the_same a.text.now a.to (ap (taking w) h.0 ∙ another s w c.if-file-gt-LONGEST.false h.1) c.tell_frame.ensures.stepped

pub returns-in-None : goal.returns-in-None
returns-in-None c =
    let a = c.args in
    let s = a.file.now in
    let w = standing a.progress a.piece.now a.out.now in
    let t = last_lines (length s) a.progress.at a.progress.calls a.piece.now in
    let e = c.put_last-end.ensures in
    let short = last_short (length s) a.progress.at a.progress.calls a.piece.now (omega arith) (omega arith) in
    let l = lined a.text.now a.to t (goes _ _ _ _ _ _ c.requires).1 short (e.value, e.text_after) in
    let p = stops w t a.text.now a.to c.stopped-in-None.result c.stopped-in-None.ensures l in
    record { stepped = the_same a.text.now a.to (last s w c.if-file-gt-LONGEST.false (none_here s w c.in-None.ensures)) p.0; octets_in_bounds = p.1 }
