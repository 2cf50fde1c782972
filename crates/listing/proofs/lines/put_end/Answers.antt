-- The word and the numbers are put one after the other.
use Rattle.std.proofs.Common.{[], ◌∷◌}
use Rattle.text.specs.Text.{ascii}
use Rattle.text.proofs.Cut.{after}
use Rattle.listing.specs.Listing.{line_end, end_line}
use Rattle.listing.proofs.lines.put_end.Goals as goal

pub returns : goal.returns
unfolding end_line
returns c =
    let a = c.args in
    let word = c.put-to.ensures in
    let told = c.put_line_end.ensures in
    let put = after a.out.now a.at (ascii "end") (line_end (a.octets ∷ a.packets ∷ [])) (word.value, word.out_after) (told.value, told.out_after) in
    record { value = put.0; out_after = put.1 }
