-- The last digit that is left goes to its index, and the digits before it are left to put.
use Rattle.std.proofs.Common.{suc, ◌≡◌, ◌-◌, arith}
use Rattle.text.specs.Text.{decimal}
use Rattle.text.proofs.LastFirst.{one_put, all_put}
use Rattle.text.proofs.put_digits.Goals as goal

pub loop-to-preserved : goal.loop-to-preserved
loop-to-preserved c =
    let l = c.loop-to in
    let a = c.args in
    let back : l.to ≡ suc (l.to - 1) = omega arith in
    one_put (decimal a.n) a.at a.out.now l.left l.out (l.to - 1) (omega arith) (omega arith) (rw back at l.invariant)

pub returns : goal.returns
returns c =
    let l = c.loop-to in
    all_put _ c.args.at c.args.out.now l.left l.out l.to (omega arith) l.invariant
