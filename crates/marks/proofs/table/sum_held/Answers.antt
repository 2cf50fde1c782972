-- Eight numbers of 16 bits.
use Rattle.std.proofs.Common.{◌≡◌, ◌∙◌, sym, rules, tests, arith}
use Rattle.std.proofs.lemmas.Iterator.{YieldsList-from_slice, YieldsList-from_map}
use Rattle.std.proofs.lemmas.Iterator.Consumers.{sum_by_from_yields_List, fits_by_from_yields_list}
use Rattle.marks.specs.Matching.{sum}
use Rattle.marks.proofs.Looking.{summed, sum_at_most}
use Rattle.marks.proofs.table.sum_held.Goals as goal

pub sum-requires-clause-fits : goal.sum-requires-clause-fits
sum-requires-clause-fits c =
    fits_by_from_yields_list (λ n. n) c.args.held.now _ _
    (YieldsList-from_map _ (λ n. n) (YieldsList-from_slice c.args.held.now (cc)) c.map.ensures.closure (λ x r q k. search (rules, tests)))
    (omega (arith, summed c.args.held.now, sum_at_most c.args.held.now c.fits-held))

pub returns : goal.returns
returns c =
    let is : c.sum.result ≡ sum c.args.held.now =
    sum_by_from_yields_List (λ n. n) c.args.held.now _ _ c.sum.ensures.ran
    (YieldsList-from_map _ (λ n. n) (YieldsList-from_slice c.args.held.now (cc)) c.map.ensures.closure (λ x r q k. search (rules, tests)))
    ∙ sym (summed c.args.held.now) in
    (is, omega (arith, sum_at_most c.args.held.now c.fits-held))
