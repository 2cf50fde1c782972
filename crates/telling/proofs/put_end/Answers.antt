-- The word, the numbers and the end of the line are put one after the other.
use Rattle.std.proofs.Common.{[], ◌∷◌, ◌++◌}
use Rattle.text.specs.Text.{ascii, numbers}
use Rattle.text.proofs.Cut.{Put, after}
use Rattle.adler.specs.Adler.{adler}
use Rattle.telling.specs.Lines.{end_line}
use Rattle.telling.proofs.put_end.Goals as goal

pub returns : goal.returns
unfolding end_line
returns c =
    let a = c.args in
    let ns = a.at ∷ a.calls ∷ adler a.held.now ∷ [] in
    let word = c.put-to.ensures in
    let told = c.put_numbers-to in
    let end = c.put.ensures in
    let sums : Put c.put-to.new.out c.put-to.result (numbers ns) told.new.out told.result = rw (← c.adler32-sum.ensures) (told.ensures.value, told.ensures.out_after) in
    let first = after a.text.now a.to (ascii "end") (numbers ns) (word.value, word.out_after) sums in
    let put = after a.text.now a.to (ascii "end" ++ numbers ns) (ascii "\n") first (end.value, end.out_after) in
    record { value = put.0; text_after = put.1 }
