-- One more number is put, and what is left begins after it; in the end nothing is left.
use Rattle.std.proofs.Common.{◌≡◌, ◌+◌, ◌∙◌, [], ◌++◌, sym, ap, get_or, drop, add-one, drop-cons, arith}
use lib.ListN.{drop_of_length-le}
use Rattle.text.specs.Text.{number, numbers}
use Rattle.text.proofs.Cut.{left, empty_put}
use Rattle.text.proofs.put_numbers.Goals as goal

pub loop-n-preserved : goal.loop-n-preserved
unfolding numbers
loop-n-preserved c =
    let l = c.loop-n in
    let i = l.n-index in
    let ns = c.args.ns.now in
    let p = c.put_number-to.ensures in
    let next : numbers (drop i ns) ≡ number (get_or ns i 0) ++ numbers (drop (i + 1) ns) = ap numbers (drop-cons ns i 0 c.loop-n-test.true) ∙ rw add-one in
    let n = left l.out l.to (number (get_or ns i 0)) (numbers (drop (i + 1) ns)) (p.value, p.out_after) in
    (l.invariant.0 ∙ rw next n.0, l.invariant.1 ∙ rw next n.1)

pub returns : goal.returns
unfolding numbers
returns c =
    let l = c.loop-n in
    let none : numbers (drop l.n-index c.args.ns.now) ≡ [] = ap numbers (drop_of_length-le c.args.ns.now (omega arith)) in
    let e = empty_put l.out l.to in
    record { value = e.0 ∙ sym (l.invariant.0 ∙ rw none); out_after = e.1 ∙ sym (l.invariant.1 ∙ rw none) }
