-- A turn grants the first free block; with none left to grant, or none free, the rest changes nothing.
use Rattle.std.proofs.Common.{◌≡◌, ◌∙◌, ◌+◌, ◌-◌, ◌*◌, ℕ, sym, rules, arith}
use lib.ListN.{length-set}
use Rattle.marks.proofs.Turns.{none_before, grant_turn, none_free, grant_ends}
use Rattle.marks.proofs.grant_blocks.Goals as goal

pub loop-mark-preserved : goal.loop-mark-preserved
loop-mark-preserved c =
    let loop = c.loop-mark in
    let found = c.find_from-block.ensures in
    let end : ℕ = c.from.result * 64 + c.from-2.result + c.from-3.result in
    let next : end - (loop.mark + 1) ≡ end - loop.mark - 1 = omega arith in (
      simp length-set loop.invariant.0,
      none_before loop.after loop.mark (end - loop.mark) loop.block _ loop.invariant.1 found,
      loop.invariant.2 ∙ rw next (grant_turn loop.after loop.mark (end - loop.mark) loop.block _ loop.invariant.1 found (omega arith)),
    )

pub returns-after-loop-mark : goal.returns-after-loop-mark
returns-after-loop-mark c = sym (c.loop-mark.invariant.2 ∙ grant_ends _ _ _ (omega arith))

pub returns-then-block-ge-BLOCKS : goal.returns-then-block-ge-BLOCKS
returns-then-block-ge-BLOCKS c =
    let loop = c.loop-mark in
    sym (loop.invariant.2 ∙ none_free loop.after loop.mark _ loop.block _ loop.invariant.1 c.find_from-block.ensures (search rules))
