-- The parts of the line are put one after the other.
use Rattle.std.proofs.Common.{[], ◌∷◌, ◌++◌}
use Rattle.text.specs.Text.{ascii, decimal, numbers}
use Rattle.text.proofs.Cut.{after}
use Rattle.telling.specs.Lines.{line}
use Rattle.telling.proofs.put_line.Goals as goal

pub returns : goal.returns
unfolding line
returns c =
    let a = c.args in
    let d = a.text.now in
    let place = decimal a.at in
    let number = place ++ a.call.now ++ numbers (a.number ∷ []) in
    let word = number ++ a.word.now in
    let ns = a.ns.now in
    let e₁ = c.put_decimal-to.ensures in
    let e₂ = c.put-to.ensures in
    let e₃ = c.put_numbers-to.ensures in
    let e₄ = c.put-to-2.ensures in
    let e₅ = c.put_numbers-to-2.ensures in
    let e₆ = c.put.ensures in
    let w₂ = after d a.to place a.call.now (e₁.value, e₁.out_after) (e₂.value, e₂.out_after) in
    let w₃ = after d a.to (place ++ a.call.now) (numbers (a.number ∷ [])) w₂ (e₃.value, e₃.out_after) in
    let w₄ = after d a.to number a.word.now w₃ (e₄.value, e₄.out_after) in
    let w₅ = after d a.to word (numbers ns) w₄ (e₅.value, e₅.out_after) in
    let w₆ = after d a.to (word ++ numbers ns) (ascii "\n") w₅ (e₆.value, e₆.out_after) in
    record { value = w₆.0; text_after = w₆.1 }
