-- The first of the rest that has the mark, or as many as the rest are.
use Rattle.std.proofs.Common.{◌≡◌, ◌+◌, ◌-◌, ◌∙◌, ℕ, List, ap, sym, rules, tests, arith, length, take, drop}
use Rattle.std.proofs.lemmas.Iterator.{YieldsList-from_slice, IsFirst-from_position, index_from_first}
use Rattle.marks.specs.Blocks.{find}
use Rattle.marks.proofs.Finding.{in_none, at_front, past_front, rest_is}
use Rattle.marks.proofs.find_from.Goals as goal

pub returns : goal.returns
returns c =
    let mark = c.args.mark in
    let marks = c.args.marks.now in
    let at = c.min.result in
    let rest : List ℕ = take (length marks - at) (drop at marks) in
    let first =
    IsFirst-from_position _ _ c.position.result (λ x. x ≡ mark) (λ x. x ≡ mark → ⊥) c.position.ensures.ran (YieldsList-from_slice rest (search rules))
    (λ x q k. search (rules, tests)) (λ x q k. search (rules, tests)) in
    let is = index_from_first (λ xs. find xs mark) (λ x. x ≡ mark) (λ x. x ≡ mark → ⊥) (in_none mark) (λ x xs e. at_front x xs mark e) (λ x xs d. omega (arith, past_front x xs mark d)) rest c.position.result first in
    ap (λ (n : ℕ). c.args.from + n) (c.unwrap_or.ensures ∙ sym is ∙ ap (λ (xs : List ℕ). find xs mark) (rest_is marks c.args.from at c.min.ensures))
