-- What the search among the chunks finds is the first impossible record (`Chunks`); the three ways out, each by its law.
use Rattle.std.proofs.Common.{sym, ◌∙◌, rules, tests, arith}
use Rattle.std.proofs.lemmas.Iterator.{YieldsList-from_slice, IsFirst-from_position}
use borrow.Author.Tests.{eqb-true, eqb-false}
use Rattle.record.specs.Reading.{possible_at}
use Rattle.record.proofs.Reading.{ragged}
use Rattle.record.proofs.Chunks.{Possible, Impossible, some_found, none_found}
use Rattle.record.proofs.read_record_file.Goals as goal

pub returns-then-not-is_empty : goal.returns-then-not-is_empty
returns-then-not-is_empty c =
    let e = sym c.is_empty.ensures ∙ c.if-not-is_empty.true in
    ragged c.args.s.now (λ z. omega (arith, c.as_chunks.ensures.back_len, eqb-false _ _ e, z))

pub returns-in-Some : goal.returns-in-Some
unfolding possible_at
returns-in-Some c =
    let s = c.args.s.now in
    let chunks = c.as_chunks.result.0.now in
    let whole = sym c.as_chunks.ensures.back_len ∙ eqb-true _ _ (sym c.is_empty.ensures ∙ c.if-not-is_empty.false) in
    let first =
    IsFirst-from_position _ _ c.position.result Impossible Possible c.position.ensures.ran (YieldsList-from_slice chunks (search rules))
    (λ x q k. search (rules, tests)) (λ x q k. search (rules, tests)) in
    some_found s c.in-Some.index c.position.result chunks c.as_chunks.ensures.front c.as_chunks.ensures.front_len whole first c.in-Some.is

pub returns-in-None : goal.returns-in-None
unfolding possible_at
returns-in-None c =
    let s = c.args.s.now in
    let chunks = c.as_chunks.result.0.now in
    let whole = sym c.as_chunks.ensures.back_len ∙ eqb-true _ _ (sym c.is_empty.ensures ∙ c.if-not-is_empty.false) in
    let first =
    IsFirst-from_position _ _ c.position.result Impossible Possible c.position.ensures.ran (YieldsList-from_slice chunks (search rules))
    (λ x q k. search (rules, tests)) (λ x q k. search (rules, tests)) in
    none_found s c.position.result chunks c.as_chunks.ensures.front c.as_chunks.ensures.front_len whole first c.in-None.is
