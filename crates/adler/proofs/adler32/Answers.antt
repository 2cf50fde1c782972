-- A part is what comes off the front of what is left; where nothing is left, the sums are the answer.
use Rattle.std.proofs.Common.{◌≡◌, [], sym, ap, ◌∙◌, arith}
use Rattle.std.proofs.lemmas.List.{nil_from_length}
use Rattle.std.specs.Slice.Iter.{chunks_rest}
use Rattle.adler.specs.Adler.{adler_from, adler}
use Rattle.adler.proofs.adler32.Goals as goal

pub loop-part-init : goal.loop-part-init
unfolding adler
loop-part-init c = (cc, omega arith, omega arith, ap (adler_from 1 0) (cc))

pub returns : goal.returns
unfolding adler_from
returns c =
    let l = c.loop-part in
    let none : chunks_rest l.part-iterator ≡ [] = nil_from_length _ c.in-None.ensures.steps.1.0 in
    sym (l.invariant.3 ∙ rw none)
