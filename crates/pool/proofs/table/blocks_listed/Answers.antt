-- A turn writes the block at its mark's place, or the mark is another lane's; `Listed` has both.
use Rattle.std.proofs.Common.{◌∙◌, refl, rules, arith}
use lib.ListN.{length-set}
use Rattle.pool.proofs.Listed.{table_begins, table_turn, table_keeps}
use Rattle.pool.proofs.table.blocks_listed.Goals as goal

pub loop-block-init : goal.loop-block-init
loop-block-init c = (refl, table_begins _ c.args.marks.now (search rules))

pub loop-block-preserved-then-mark-from : goal.loop-block-preserved-then-mark-from
loop-block-preserved-then-mark-from c =
    let loop = c.loop-block in (
      simp length-set loop.invariant.0,
      rw c.from-then-mark-from.ensures (table_turn _ c.args.marks.now loop.table loop.block _ c.loop-block-test.true (search rules) refl
          loop.invariant.1 loop.invariant.0 (c.if-mark-from.true ∙ c.from.ensures)),
    )

pub loop-block-preserved : goal.loop-block-preserved
loop-block-preserved c =
    let loop = c.loop-block in (
      loop.invariant.0,
      table_keeps _ c.args.marks.now loop.table loop.block _ c.loop-block-test.true (search rules) refl loop.invariant.1 (λ e. c.if-mark-from.false (omega (arith, e, c.from.ensures))),
    )
