-- There is room for a step each time, so each leads on, by the law `leads`, and the loop ends.
use Rattle.std.proofs.Common.{length}
use mathlib.Core.Path.{ap}
use native.Mathlib.Omega.{arith}
use borrow.Author.Tests.{not-true}
use Rattle.deframing.specs.Run.{standing}
use Rattle.deframing.specs.declared.Told.{Told}
use Rattle.deframing.proofs.Whole.{leads, stays_possible}
use Rattle.deframe.proofs.deframe.Goals as goal

pub loop-progress-smaller-in-loop-progress : goal.loop-progress-smaller-in-loop-progress
loop-progress-smaller-in-loop-progress g c =
    let l = c.loop-progress in
    rw (ap (λ (x : Told). x.progress) c.tell_next-told.ensures.value)
    (leads c.args.file.now (length l.text) l.to (standing l.progress l.piece l.out) l.invariant.1 (not-true _ c.loop-progress-test.true) l.invariant.0)

pub loop-progress-preserved-in-loop-progress : goal.loop-progress-preserved-in-loop-progress
loop-progress-preserved-in-loop-progress g c =
    let l = c.loop-progress in (
      omega (arith, l.invariant.0, c.tell_next-told.auto.text),
      rw (ap (λ (x : Told). x.progress) c.tell_next-told.ensures.value)
          (stays_possible c.args.file.now (length l.text) l.to (standing l.progress l.piece l.out) l.invariant.1 (not-true _ c.loop-progress-test.true) l.invariant.0),
    )

pub loop-progress-smaller : goal.loop-progress-smaller
loop-progress-smaller g c =
    let l = c.loop-progress in
    rw (ap (λ (x : Told). x.progress) c.tell_next-told.ensures.value)
    (leads c.args.file.now (length l.text) l.to (standing l.progress l.piece l.out) l.invariant.1 (not-true _ c.loop-progress-test.true) l.invariant.0)

pub loop-progress-preserved : goal.loop-progress-preserved
loop-progress-preserved g c =
    let l = c.loop-progress in
    let r = c.tell_next-told in (
      omega (arith, c.if-text-to-lt-LINE_ROOM.false, r.ensures.octets_in_bounds.1 (omega (arith, l.invariant.0)), r.auto.text),
      rw (ap (λ (x : Told). x.progress) r.ensures.value)
          (stays_possible c.args.file.now (length l.text) l.to (standing l.progress l.piece l.out) l.invariant.1 (not-true _ c.loop-progress-test.true) l.invariant.0),
    )
