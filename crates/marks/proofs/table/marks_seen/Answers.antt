-- At first nothing is seen; a turn sees the mark of one more block.
use Rattle.std.proofs.Common.{◌+◌, refl, rules, arith}
use lib.ListN.{length-set}
use Rattle.marks.specs.Blocks.{free}
use Rattle.marks.proofs.Seeing.{seen_begins, seen_turn}
use Rattle.marks.proofs.table.marks_seen.Goals as goal

pub loop-mark-init : goal.loop-mark-init
loop-mark-init c = (refl, seen_begins c.args.marks.now (free + 1) (search rules))

pub loop-mark-preserved : goal.loop-mark-preserved
loop-mark-preserved c =
    let loop = c.loop-mark in (
      simp length-set loop.invariant.0,
      seen_turn c.args.marks.now loop.seen loop.mark-index c.from.result (search rules)
          (search rules) (omega (arith, c.from.ensures, c.min.ensures)) loop.invariant.1,
    )
