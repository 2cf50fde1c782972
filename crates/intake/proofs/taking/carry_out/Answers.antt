-- In each arm the step is what the arm names (`Taken`).
use Rattle.intake.proofs.Taken.{repeats, strays, holds, ends}
use Rattle.intake.proofs.taking.carry_out.Goals as goal

pub returns-in-Repeat : goal.returns-in-Repeat
returns-in-Repeat c =
    let w = repeats c.args.marks.now c.args.own.number c.args.own.lane c.args.step c.args.user.now c.args.pool.now c.args.out.now c.in-Repeat.is in
    record { value = w.0; marks_after = w.1; pool_after = w.2; out_after = w.3 }

pub returns-in-Stray : goal.returns-in-Stray
returns-in-Stray c =
    let w = strays c.args.marks.now c.args.own.number c.args.own.lane c.args.step c.args.user.now c.args.pool.now c.args.out.now _ _ _ c.in-Stray.is c.stray.ensures.value c.stray.ensures.marks_after in
    record { value = w.0; marks_after = w.1; pool_after = w.2; out_after = w.3 }

pub returns-in-Hold : goal.returns-in-Hold
returns-in-Hold c =
    let w = holds c.args.marks.now c.args.own.number c.args.own.lane c.args.step c.args.user.now c.args.pool.now c.args.out.now _ _ _ _ _ c.in-Hold.is c.hold.ensures.value c.hold.ensures.marks_after _ c.hold.ensures.pool_after in
    record { value = w.0; marks_after = w.1; pool_after = w.2; out_after = w.3 }

pub returns-in-Unit : goal.returns-in-Unit
returns-in-Unit c =
    let w = ends c.args.marks.now c.args.own.number c.args.own.lane c.args.step c.args.user.now c.args.pool.now c.args.out.now _ _ _ _ _ c.in-Unit.is c.end_unit.ensures.value c.end_unit.ensures.marks_after _ c.end_unit.ensures.out_after in
    record { value = w.0; marks_after = w.1; pool_after = w.2; out_after = w.3 }
