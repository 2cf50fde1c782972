-- The table tells which of these marks are seen, so what was counted in it is what a search finds.
use Rattle.std.proofs.Common.{◌≡◌, ◌∙◌, ◌+◌, sym, arith}
use Rattle.marks.specs.Matching.{count, is_free, sum}
use Rattle.marks.proofs.Looking.{none_held, count_at_most, lanes_decide, sum_decides}
use Rattle.marks.proofs.Seeing.{seen_flags}
use Rattle.marks.proofs.marks_match.Goals as goal

pub overflow_add-count_free : goal.overflow_add-count_free
overflow_add-count_free c = omega (arith, count_at_most is_free c.args.marks, c.count_free.ensures, c.sum_held-in_use.ensures.1)

pub returns-then-count_free-in_use-ne-BLOCKS : goal.returns-then-count_free-in_use-ne-BLOCKS
returns-then-count_free-in_use-ne-BLOCKS c =
    sum_decides _ _ (λ e. c.if-count_free-in_use-ne-BLOCKS.true (omega (arith, e, c.count_free.ensures, c.sum_held-in_use.ensures.0)))

pub returns-then-in_use-eq0 : goal.returns-then-in_use-eq0
returns-then-in_use-eq0 c =
    let told : count is_free c.args.marks + sum c.args.held ≡ 64 =
    omega (arith, c.count_free.ensures, c.sum_held-in_use.ensures.0, c.if-count_free-in_use-ne-BLOCKS.false) in
    sym (none_held c.args.marks 0 c.args.held (omega (arith, c.sum_held-in_use.ensures.0, c.if-in_use-eq0.true)))
    ∙ lanes_decide c.args.marks c.args.held told

pub each_holds-requires : goal.each_holds-requires
each_holds-requires c = (
  omega (arith, c.count_free.ensures, c.sum_held-in_use.ensures.0, c.if-count_free-in_use-ne-BLOCKS.false),
  seen_flags _ c.marks_seen-seen.result _ c.marks_seen-seen.ensures,
)

pub returns : goal.returns
returns c =
    let told : count is_free c.args.marks + sum c.args.held ≡ 64 =
    omega (arith, c.count_free.ensures, c.sum_held-in_use.ensures.0, c.if-count_free-in_use-ne-BLOCKS.false) in
    c.each_holds.ensures c.args.marks c.marks_seen-seen.ensures ∙ lanes_decide c.args.marks c.args.held told
