-- The offset and the word are put one after the other.
use Rattle.text.specs.Text.{ascii, decimal}
use Rattle.text.proofs.Cut.{after}
use Rattle.telling.specs.Lines.{bad_line}
use Rattle.telling.proofs.put_bad.Goals as goal

pub returns : goal.returns
unfolding bad_line
returns c =
    let place = c.put_decimal-to.ensures in
    let word = c.put.ensures in
    let put = after c.args.text.now c.args.to (decimal c.args.at) (ascii " bad\n") (place.value, place.out_after) (word.value, word.out_after) in
    record { value = put.0; text_after = put.1 }
