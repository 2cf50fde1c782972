-- What is found is at most 64, and fits.
use Rattle.std.proofs.Common.{arith}
use Rattle.marks.specs.Blocks.{mark}
use Rattle.marks.proofs.Finding.{at_most}
use Rattle.pool.proofs.table.blocks_searched.Goals as goal

pub overflow_cast-table : goal.overflow_cast-table
overflow_cast-table c =
    omega (arith, c.find_from.ensures, at_most c.args.marks.now (mark c.from.result c.loop-place.place), c.told-marks)
