-- The numbers and the end of the line are put one after the other.
use Rattle.text.specs.Text.{ascii, numbers}
use Rattle.text.proofs.Cut.{after}
use Rattle.listing.specs.Listing.{line_end}
use Rattle.listing.proofs.lines.put_line_end.Goals as goal

pub returns : goal.returns
unfolding line_end
returns c =
    let a = c.args in
    let told = c.put_numbers-to.ensures in
    let end = c.put.ensures in
    let put = after a.out.now a.at (numbers a.ns.now) (ascii "\n") (told.value, told.out_after) (end.value, end.out_after) in
    record { value = put.0; out_after = put.1 }
