-- The powers of ten that n reaches are counted; 0 has a digit, as 1 has.
use Rattle.std.proofs.Common.{sym, arith}
use Rattle.text.proofs.LastFirst.{counted}
use Rattle.text.proofs.digits_of.Goals as goal

pub returns : goal.returns
returns c =
    let p = c.ilog10.ensures in
    sym (counted c.ilog10.result c.args.n (omega (arith, p.power_le, c.max.ensures)) (omega (arith, p.next_power_gt, c.max.ensures)))
