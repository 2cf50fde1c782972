-- Where the loop stands, `Going` says what is left; a turn goes on by `turned`, and the exits are `at_end` and `at_refusal`.
use Rattle.std.proofs.Common.{arith}
use Rattle.walk.proofs.Looked.{found_read, found_refused}
use Rattle.walk.proofs.Going.{going_at_start, turned, at_end, at_refusal, walked_to_end, walked_to_refusal}
use Rattle.walk.proofs.walk.Goals as goal

pub loop-at-init : goal.loop-at-init
loop-at-init c = going_at_start c.args.s.now

pub loop-at-smaller : goal.loop-at-smaller
loop-at-smaller c =
    let s = c.args.s.now in
    let l = c.loop-at in
    let f = c.look_at-found in
    let w = found_read s l.at f.result f.ensures c.in-Ok.field-0 c.in-Ok.is in
    let t = turned s l.at l.packets l.invariant w.0 w.1 in
    omega (arith, t.rises, t.within)

pub loop-at-preserved : goal.loop-at-preserved
loop-at-preserved c =
    let s = c.args.s.now in
    let l = c.loop-at in
    let f = c.look_at-found in
    let w = found_read s l.at f.result f.ensures c.in-Ok.field-0 c.in-Ok.is in
    (turned s l.at l.packets l.invariant w.0 w.1).going

pub returns-then-s-at : goal.returns-then-s-at
returns-then-s-at c =
    let s = c.args.s.now in
    let l = c.loop-at in
    walked_to_end s c.if-s-at.true l.invariant.inside (at_end s l.at l.packets l.invariant c.if-s-at.true)

pub returns-in-Err : goal.returns-in-Err
returns-in-Err c =
    let s = c.args.s.now in
    let l = c.loop-at in
    let u = c.in-Err.unread in
    let told = found_refused s l.at c.look_at-found.result c.look_at-found.ensures u c.in-Err.is in
    walked_to_refusal s c.if-s-at.false u (at_refusal s l.at l.packets l.invariant told.2 c.if-s-at.false told.0 told.1)
