-- The array has room for all digits, and begins with them.
use Rattle.std.proofs.Common.{length-take, arith}
use Rattle.text.specs.Text.{decimal}
use Rattle.text.proofs.Short.{decimal_short}
use Rattle.text.proofs.LastFirst.{at_front}
use Rattle.text.proofs.put_cut.Goals as goal

pub put_digits-requires : goal.put_digits-requires
put_digits-requires c = (c.digits_of-count.ensures, omega (arith, c.digits_of-count.ensures, decimal_short c.args.n (omega arith)))

pub slice_bounds-digits-end : goal.slice_bounds-digits-end
slice_bounds-digits-end c = omega (arith, c.put_digits.auto.out, c.digits_of-count.ensures, decimal_short c.args.n (omega arith))

pub slice_bounds-put-end : goal.slice_bounds-put-end
slice_bounds-put-end c = simp length-take (omega (arith, c.put_digits.auto.out, c.digits_of-count.ensures, decimal_short c.args.n (omega arith)))

pub returns : goal.returns
returns c =
    let text = at_front _ (decimal c.args.n) _ c.digits_of-count.result c.digits_of-count.ensures c.put_digits.ensures in
    record { value = rw text at c.put.ensures.value; out_after = rw text at c.put.ensures.out_after }
