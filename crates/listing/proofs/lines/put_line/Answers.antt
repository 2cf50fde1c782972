-- The offset, the word and the numbers are put one after the other.
use Rattle.std.proofs.Common.{◌++◌}
use Rattle.text.specs.Text.{decimal}
use Rattle.text.proofs.Cut.{after}
use Rattle.listing.specs.Listing.{line_end, line}
use Rattle.listing.proofs.lines.put_line.Goals as goal

pub returns : goal.returns
unfolding line
returns c =
    let a = c.args in
    let d = a.out.now in
    let place = c.put_decimal-to.ensures in
    let word = c.put-to.ensures in
    let end = c.put_line_end.ensures in
    let front = after d a.at (decimal a.place) a.word.now (place.value, place.out_after) (word.value, word.out_after) in
    let put = after d a.at (decimal a.place ++ a.word.now) (line_end a.ns.now) front (end.value, end.out_after) in
    record { value = put.0; out_after = put.1 }
