-- The blank and the digits are put one after the other.
use Rattle.text.specs.Text.{ascii, decimal, number}
use Rattle.text.proofs.Cut.{after}
use Rattle.text.proofs.put_number.Goals as goal

pub returns : goal.returns
unfolding number
returns c =
    let one = c.put_one-to.ensures in
    let digits = c.put_decimal.ensures in
    let put = after c.args.out.now c.args.at (ascii " ") (decimal c.args.n) (one.value, one.out_after) (digits.value, digits.out_after) in
    record { value = put.0; out_after = put.1 }
