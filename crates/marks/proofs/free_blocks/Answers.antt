-- The closure gives the new mark of each.
use Rattle.std.proofs.Common.{rules, tests}
use Rattle.marks.specs.Blocks.{freed_mark}
use Rattle.marks.proofs.Made.{made}
use Rattle.marks.proofs.free_blocks.Goals as goal

pub returns : goal.returns
returns c = made _ (freed_mark c.args.lane) c.args.marks _ (λ i r q k. search (rules, tests)) c.from_fn.result 64 (search rules) c.from_fn.ensures.items
