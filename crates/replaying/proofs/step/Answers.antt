-- One of three: the file is too long, there is no whole call here, or a call is run. Each puts its text, and there is room for it.
use Rattle.std.proofs.Common.{length, refl, arith}
use Rattle.text.specs.Text.{ascii}
use Rattle.telling.specs.Lines.{last_lines}
use Rattle.telling.proofs.Short.{lined, lined_to, last_short}
use Rattle.replaying.specs.Run.{standing, ends}
use Rattle.replaying.proofs.Steps.{is_ready_lem, too_long, here, ran_within, last, called, stepped}
use Rattle.replaying.proofs.step.Goals as goal

pub returns-then-run-gt-LONGEST : goal.returns-then-run-gt-LONGEST
returns-then-run-gt-LONGEST c =
    let a = c.args in
    let s = a.run.now in
    let w = standing a.chunk.progress a.pool.now a.out.now in
    let t = ascii "too long\n" in
    let l = lined a.text.now a.chunk.octets t (is_ready_lem _ _ _ _ c.requires).1 (omega arith) (c.put-end.ensures.value, c.put-end.ensures.out_after) in
    let told = lined_to a.text.now a.chunk.octets t c.stopped.ensures.1 l in
    let k = stepped s w (ends s w) t a.text.now a.chunk.octets (too_long s w c.if-run-gt-LONGEST.true) (c.stopped.ensures.0, (refl, (refl, told))) in
    record { progress_value = k.0; pool_after = k.1.0; out_after = k.1.1.0; lined = k.1.1.1 }

pub slice_bounds-run_call-count : goal.slice_bounds-run_call-count
slice_bounds-run_call-count c = (is_ready_lem _ _ _ _ c.requires).0.inside

pub slice_bounds-run_call-start : goal.slice_bounds-run_call-start
slice_bounds-run_call-start c = (is_ready_lem _ _ _ _ c.requires).0.inside

pub returns-in_default : goal.returns-in_default
returns-in_default c =
    let a = c.args in
    let s = a.run.now in
    let w = standing a.chunk.progress a.pool.now a.out.now in
    let ran = c.in_default.ensures in
    let done = here s w (ran.value, (ran.pool_after, ran.out_after)) in
    let at = a.chunk.progress.at in
    let calls = a.chunk.progress.calls in
    let pool = c.run_call.new.pool in
    let short = last_short (length s) at calls pool (omega (arith, c.well_formed)) (omega (arith, c.well_formed)) in
    let t = last_lines (length s) at calls pool in
    let put = c.put_last-end.ensures in
    let l = lined a.text.now a.chunk.octets t (is_ready_lem _ _ _ _ c.requires).1 short (put.value, put.text_after) in
    let stop = c.stopped-in_default.ensures in
    let k = stepped s w _ _ a.text.now a.chunk.octets (last s w _ _ c.if-run-gt-LONGEST.false done) (stop.0, (refl, (refl, lined_to a.text.now a.chunk.octets t stop.1 l))) in
    record { progress_value = k.0; pool_after = k.1.0; out_after = k.1.1.0; lined = k.1.1.1 }

pub put_told-octets-requires : goal.put_told-octets-requires
put_told-octets-requires c = (is_ready_lem _ _ _ _ c.requires).1

pub overflow_add-result : goal.overflow_add-result
overflow_add-result c =
    let a = c.args in
    let w = standing a.chunk.progress a.pool.now a.out.now in
    let ran = c.in-Some.ensures in
    let within = ran_within a.run.now w _ _ _ (here a.run.now w (ran.value, (ran.pool_after, ran.out_after))) (is_ready_lem _ _ _ _ c.requires).0.inside in
    omega (arith, within, c.well_formed)

pub overflow_add-result-2 : goal.overflow_add-result-2
overflow_add-result-2 c =
    let a = c.args in
    let w = standing a.chunk.progress a.pool.now a.out.now in
    let ran = c.in-Some.ensures in
    let within = ran_within a.run.now w _ _ _ (here a.run.now w (ran.value, (ran.pool_after, ran.out_after))) (is_ready_lem _ _ _ _ c.requires).0.inside in
    omega (arith, within, (is_ready_lem _ _ _ _ c.requires).0.counted, c.well_formed)

pub returns : goal.returns
returns c =
    let a = c.args in
    let s = a.run.now in
    let w = standing a.chunk.progress a.pool.now a.out.now in
    let ran = c.in-Some.ensures in
    let done = here s w (ran.value, (ran.pool_after, ran.out_after)) in
    let k = stepped s w _ _ a.text.now a.chunk.octets (called s w _ _ _ done c.if-run-gt-LONGEST.false) (refl, (refl, (refl, c.put_told-octets.ensures))) in
    record { progress_value = k.0; pool_after = k.1.0; out_after = k.1.1.0; lined = k.1.1.1 }
