-- The larger sum within the packets is the one test that an open group adds (`more_broken`, by `Parts`).
use Rattle.std.proofs.Common.{◌∙◌, arith}
use borrow.Author.Tests.{lt-leb}
use Rattle.lane.proofs.Parts.{too_few_packets, enough_packets}
use Rattle.lane.proofs.Tallied.{one_byte}
use Rattle.lane.proofs.are_tallies_possible.Goals as goal

pub returns-then-from : goal.returns-then-from
returns-then-from c = enough_packets c.args.l _ (c.from-3.ensures ∙ one_byte _) (omega arith) _ c.is_possible.ensures

pub returns-else-from : goal.returns-else-from
returns-else-from c = lt-leb _ _ c.if-from.false ∙ too_few_packets c.args.l _ (c.from-3.ensures ∙ one_byte _) (omega arith)
