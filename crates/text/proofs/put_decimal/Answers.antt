-- There is room for all digits, of which there are as many as were counted, or for some of them.
use Rattle.std.proofs.Common.{◌+◌, ap, arith}
use Rattle.octets.proofs.Puts.{Fits}
use Rattle.text.specs.Text.{decimal}
use Rattle.text.proofs.LastFirst.{some, single}
use Rattle.text.proofs.Cut.{all_put}
use Rattle.text.proofs.put_decimal.Goals as goal

pub returns-then-n-lt10 : goal.returns-then-n-lt10
returns-then-n-lt10 c =
    let e = single c.args.n c.if-n-lt10.true in
    let one = c.put_one.ensures in
    record { value = rw e one.value; out_after = rw e one.out_after }

pub put_digits-requires : goal.put_digits-requires
put_digits-requires c = (c.digits_of-count.ensures, omega (arith, c.digits_of-count.ensures, c.saturating_sub.ensures, some c.args.n))

pub returns-then-count-saturating_sub : goal.returns-then-count-saturating_sub
returns-then-count-saturating_sub c =
    let out = c.args.out.now in
    let f : Fits out c.args.at (decimal c.args.n) = omega (arith, c.digits_of-count.ensures, c.saturating_sub.ensures, some c.args.n) in
    let put = all_put out c.args.at (decimal c.args.n) f (ap (◌+◌ c.args.at) c.digits_of-count.ensures, c.put_digits.ensures) in
    record { value = put.0; out_after = put.1 }
